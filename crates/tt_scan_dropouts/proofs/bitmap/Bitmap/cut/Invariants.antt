use Rattle.std.proofs.Common.{◌≡◌, ℤ, true, length, ◌*◌, ◌≤◌, ◌&&◌}
use Rattle.tt_core.specs.Bits.{bit, stride}
use Rattle.tt_scan_edges.specs.Winding.{is_black}
use Rattle.tt_scan_gaps.specs.Crossings.{centre}
use Rattle.tt_scan_dropouts.specs.Windows.{has, place}
use Rattle.tt_scan_dropouts.proofs.Inked.{is_painted}
use Rattle.tt_scan_dropouts.proofs.bitmap.Bitmap.cut.Given as goal

-- the rows so far are painted, and the others white
abbrev pub invariant-loop-r : goal.invariant-loop-r
invariant-loop-r l = record {
  black : (c j : ℤ) → has l.window c j ≡ true → bit l.bits.items (place l.window c j)
      ≡ (is_painted l.window l.r j && is_black l.fn.tape.edges (centre c) (centre j));
  len : length l.bits.items ≡ stride l.window.width * l.window.height;
  tape : l.tape ≡ record l.fn.tape { crosses = l.tape.crosses };
  crosses : l.tape.crosses ≤ l.r * length l.fn.tape.edges;
  room : l.sweep.room ≡ l.fn.sweep.room;
}
