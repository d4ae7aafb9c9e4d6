use Rattle.std.proofs.Common.{◌≡◌, map}
use Rattle.std.specs.List.{range_with_len}
use Rattle.tt_axes.specs.Instances.{coordinate_of}
use Rattle.tt_axes.proofs.fvar.Fvar.all_coordinates.Given as goal

abbrev pub invariant-loop-i : goal.invariant-loop-i
invariant-loop-i l = l.coordinates ≡ map (coordinate_of l.self l.named l.values) (range_with_len 0 l.i)
