use Rattle.std.proofs.Common.{◌≡◌, map}
use Rattle.std.specs.List.{range_with_len}
use Rattle.tt_c_instances.specs.VariationLists.{axis_at}
use Rattle.tt_c_instances.proofs.variation_lists.axes_in.Given as goal

-- the axes so far
abbrev pub invariant-loop-i : goal.invariant-loop-i
invariant-loop-i l = l.axes.items ≡ map (axis_at l.fn.face.directory l.fvar) (range_with_len 0 l.i)
