use Rattle.std.proofs.Common.{◌≡◌, ℤ, ◌&&◌, ◌||◌, ◌*◌, ◌≤◌, length}
use Rattle.tt_bitmap.specs.Bitmaps.{is_black}
use Rattle.tt_scan_dropouts.specs.Windows as windows
use Rattle.tt_scan_dropouts.proofs.Inked.{is_painted}
use Rattle.tt_scan_edges.specs.Winding as winding
use Rattle.tt_scan_gaps.specs.Crossings.{centre}
use Rattle.tt_glyph_pixels.proofs.rows.blacken_rows.Given as goal

-- the lines so far are blackened, each cut once
abbrev pub invariant-loop-r : goal.invariant-loop-r
invariant-loop-r l = record {
  black : (c j : ℤ) → is_black l.bitmap c j ≡ (is_black l.fn.bitmap c j || (windows.has l.fn.window c j
      && (is_painted l.fn.window l.r j && winding.is_black l.fn.tape.edges (centre c) (centre j))));
  place : l.bitmap ≡ record l.fn.bitmap { words = l.bitmap.words };
  tape : l.tape ≡ record l.fn.tape { crosses = l.tape.crosses };
  crosses : l.tape.crosses ≤ l.r * length l.fn.tape.edges;
  room : l.sweep.room ≡ l.fn.sweep.room;
}
