use Rattle.std.proofs.Common.{◌∙◌, ◌-◌, sym, arith}
use Rattle.std.proofs.lemmas.Result.{err_from_is_err_and}
use Rattle.tt_tuples.specs.Views.{store_of, number_of, number_run_of}
use Rattle.tt_tuples.proofs.NumberRuns.{breaks, turn}
use Rattle.tt_tuples.proofs.point_numbers.read_numbers.Goals as goal

pub loop-preserved : goal.loop-preserved
loop-preserved c =
    let step = turn (store_of c.args.store.now) c.loop.numbers.items c.args.count c.loop.counter (number_run_of c.loop.run)
    c.loop.before (number_of c.in_ok-number.number) (omega arith) c.in_ok-number.ensures.exact in record {
      same = rw c.push_reserved.ensures.items (sym step ∙ c.loop.invariant.same);
      count = omega (arith, c.push_reserved.ensures.len);
      capacity = rw c.push_reserved.ensures.capacity c.loop.invariant.capacity;
      room = c.in_ok-number.ensures.room;
    }

pub returns-in_err-number-clause-exact : goal.returns-in_err-number-clause-exact
returns-in_err-number-clause-exact c =
    let end = breaks (store_of c.args.store.now) c.loop.numbers.items (c.args.count - c.loop.counter) (number_run_of c.loop.run)
    c.loop.before c.in_err-number.field-0.0 (omega arith) c.in_err-number.ensures.exact in
    let p = err_from_is_err_and c.from_residual.result c.from_residual.ensures.1 in
    rw (p.1, p.2) (sym c.loop.invariant.same ∙ end)
