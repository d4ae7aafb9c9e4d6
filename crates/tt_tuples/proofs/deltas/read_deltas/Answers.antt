use Rattle.std.proofs.Common.{◌∙◌, SFits, w16, sym, arith, rules}
use Rattle.std.proofs.lemmas.Int.{to_z-of_z}
use Rattle.tt_tuples.specs.Views.{store_of, delta_of, delta_run_of}
use Rattle.tt_tuples.proofs.DeltaRuns.{turn}
use Rattle.tt_tuples.proofs.deltas.read_deltas.Goals as goal

pub loop-i-preserved : goal.loop-i-preserved
loop-i-preserved c =
    let delta = c.in_ok-delta.delta.delta in
    let fits : SFits w16 delta = search rules in
    let pushed = simp to_z-of_z at c.push_reserved.ensures.items in
    let step = turn (store_of c.args.store.now) c.loop-i.deltas.items c.args.count c.loop-i.i (delta_run_of c.loop-i.run)
    (delta_of c.in_ok-delta.delta) (omega arith) c.in_ok-delta.ensures.exact in record {
      same = rw pushed (sym step ∙ c.loop-i.invariant.same);
      count = omega (arith, c.push_reserved.ensures.len);
      capacity = rw c.push_reserved.ensures.capacity c.loop-i.invariant.capacity;
      room = c.in_ok-delta.ensures.room;
    }
