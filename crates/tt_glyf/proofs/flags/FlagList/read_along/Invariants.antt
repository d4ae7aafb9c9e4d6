use Rattle.std.proofs.Common.{◌≡◌, ◌≤◌, length, drop, take, All}
use Rattle.tt_glyf.specs.declared.coordinates.DeltaAxis.TheVariants.{X}
use Rattle.tt_glyf.specs.Bytes.{after}
use Rattle.tt_glyf.specs.InPlace.{HoldsFlag, along, flags_along, placed_from, put_along}
use Rattle.tt_glyf.specs.Views.{coordinate_of, held_listing}
use Rattle.tt_glyf.proofs.flags.FlagList.read_along.Given as goal

abbrev pub invariant-loop-i : goal.invariant-loop-i
invariant-loop-i l = record {
  same : after (take l.i l.self.points.items) (placed_from l.glyph (flags_along l.axis) (put_along l.axis)
      (drop l.i l.self.points.items) (coordinate_of l.last))
      ≡ along l.glyph l.axis (held_listing l.fn.self);
  many : length l.self.points.items ≡ l.i-end;
  held : All HoldsFlag (drop l.i l.self.points.items);
  kept : l.axis ≡ X → All HoldsFlag l.self.points.items;
  room : l.last.next ≤ length l.glyph.bytes;
}
