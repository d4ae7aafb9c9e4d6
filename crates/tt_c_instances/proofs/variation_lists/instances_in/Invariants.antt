use Rattle.std.proofs.Common.{◌≡◌, map}
use Rattle.std.specs.List.{range_with_len}
use Rattle.tt_c_instances.specs.VariationLists.{instance_at}
use Rattle.tt_c_instances.proofs.variation_lists.instances_in.Given as goal

-- the named instances so far
abbrev pub invariant-loop-k : goal.invariant-loop-k
invariant-loop-k l = l.instances.items ≡ map (instance_at l.fn.face.directory l.fvar) (range_with_len 0 l.k)
