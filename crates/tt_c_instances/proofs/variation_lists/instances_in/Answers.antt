use Rattle.std.proofs.Common.{arith, sym}
use Rattle.std.proofs.lemmas.List.FromFn.{map-range_with_len_more}
use Rattle.tt_c_instances.specs.VariationLists.{instance_at}
use Rattle.tt_c_instances.proofs.variation_lists.instances_in.Goals as goal

pub loop-k-preserved : goal.loop-k-preserved
loop-k-preserved c =
    let f = instance_at c.args.face.now.directory c.in-Some.fvar in
    let k = c.loop-k.k in
    rw (c.in_ok-push.ensures.items, c.instance_told.ensures, c.deref.ensures.value, c.in_ok-name.ensures, c.instance.ensures, c.loop-k.invariant)
    (sym (map-range_with_len_more f 0 k k (omega arith)))
