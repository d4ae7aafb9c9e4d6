use Rattle.std.proofs.Common.{◌≡◌, ◌*◌, ◌≤◌, length, take}
use Rattle.tt_core.specs.Bits.{stride}
use Rattle.tt_picture.specs.Rows.{rows}
use Rattle.tt_glyphs.specs.Bitmaps.{place_bytes}
use Rattle.tt_glyphs.specs.Drawn.{large_pixel}
use Rattle.tt_glyphs.proofs.large.LargeRows.write.Given as goal

-- the rows so far are written
abbrev pub invariant-loop-r : goal.invariant-loop-r
invariant-loop-r l = record {
  bytes : l.bytes ≡ stride l.fn.self.place.width;
  self : l.self ≡ record l.fn.self { crosses = l.self.crosses };
  crosses : l.self.crosses ≤ l.r * length l.fn.self.edges;
  len : length l.rows ≡ place_bytes l.fn.self.place;
  rows : take (stride l.fn.self.place.width * l.r) l.rows
      ≡ rows l.fn.self.place.width (large_pixel l.fn.self) 0 (stride l.fn.self.place.width * l.r);
  room : l.sweep.room ≡ l.fn.sweep.room;
}
