use Rattle.std.proofs.Common.{◌≡◌, ◌∙◌, ◌+◌, ◌-◌, ◌*◌, ◌<◌, ◌^◌, [], ap, arith}
use Rattle.std.proofs.lemmas.Result.{err_from_is_err_and}
use Rattle.tt_tuples.specs.Sources.{Tuple}
use Rattle.tt_tuples.specs.Tuples.{rest}
use Rattle.tt_deltas.specs.Along.{varied_along}
use Rattle.tt_deltas.specs.ControlValues.{values_by_all}
use Rattle.tt_deltas.specs.Glyphs.{numbers_of}
use Rattle.tt_deltas.proofs.Chained.{next_values, last_values, broken_values, rises, all_looser}
use Rattle.tt_deltas.proofs.control_values.vary_by_all.Goals as goal

pub returns-in_err-next-clause-exact : goal.returns-in_err-next-clause-exact
returns-in_err-next-clause-exact c =
    let whole = values_by_all c.args.values.now (rest c.args.tuples.now) in
    let bad = broken_values c.loop-tuples.values (rest c.loop-tuples.tuples) whole c.in_err-next.field-0.0
    c.loop-tuples.invariant.same c.in_err-next.ensures.exact in
    let p = err_from_is_err_and c.from_residual.result c.from_residual.ensures.1 in
    rw (p.1, p.2) bad

pub loop-tuples-preserved : goal.loop-tuples-preserved
loop-tuples-preserved c =
    let now = c.loop-tuples.values in
    let whole = values_by_all c.args.values.now (rest c.args.tuples.now) in
    let old = c.loop-tuples.tuples in
    let new = c.next.new.self in
    let next = rw c.if-branch.true at c.in_ok-next.ensures.exact in
    let less : new.left < old.left = c.in_ok-next.ensures.fewer c.if-branch.true in
    let far = rises old.left new.left less c.loop-tuples.invariant.few in
    let made : c.vary_along.new.values ≡ varied_along new.tuple.share (numbers_of new.tuple.points) new.tuple.xs [] now =
    (rw c.numbers_of.ensures at c.vary_along.ensures.exact)
    ∙ ap (λ (t : Tuple). varied_along t.share (numbers_of t.points) t.xs [] now) c.tuple-tuple.ensures in
    record {
      same = next_values now c.vary_along.new.values new.tuple (rest old) (rest new) whole
          c.loop-tuples.invariant.same next made;
      source = c.in_ok-next.ensures.source ∙ c.loop-tuples.invariant.source;
      few = omega (arith, less, c.loop-tuples.invariant.few);
      within = all_looser ((4096 - old.left) * 2 ^ 34 + 2 ^ 34) ((4096 - new.left) * 2 ^ 34) c.vary_along.new.values
          far (c.vary_along.ensures.within ((4096 - old.left) * 2 ^ 34) c.loop-tuples.invariant.within);
      capacity = c.vary_along.ensures.capacity ∙ c.loop-tuples.invariant.capacity;
    }

pub returns-clause-exact : goal.returns-clause-exact
returns-clause-exact c =
    let whole = values_by_all c.args.values.now (rest c.args.tuples.now) in
    let next = rw c.if-branch.false at c.in_ok-next.ensures.exact in
    last_values c.loop-tuples.values (rest c.loop-tuples.tuples) whole c.loop-tuples.invariant.same next
