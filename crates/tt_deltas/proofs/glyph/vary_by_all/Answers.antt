use Rattle.std.proofs.Common.{◌∙◌, ◌+◌, ◌-◌, ◌*◌, ◌<◌, ◌^◌, ap, arith}
use Rattle.std.proofs.lemmas.Result.{err_from_is_err_and}
use Rattle.tt_tuples.specs.Tuples.{rest}
use Rattle.tt_deltas.specs.Glyphs.{VariedPoints, points_by_all, varied_by}
use Rattle.tt_deltas.proofs.Chained.{next_points, last_points, broken_points, rises, all_looser}
use Rattle.tt_deltas.proofs.glyph.vary_by_all.Goals as goal

pub returns-in_err-next-clause-exact : goal.returns-in_err-next-clause-exact
returns-in_err-next-clause-exact c =
    let now : VariedPoints = record { xs = c.loop-tuples.xs; ys = c.loop-tuples.ys } in
    let whole = points_by_all c.args.ends.now (record { xs = c.args.xs.now; ys = c.args.ys.now }) (rest c.args.tuples.now) in
    let bad = broken_points c.args.ends.now now (rest c.loop-tuples.tuples) whole c.in_err-next.field-0.0
    c.loop-tuples.invariant.same c.in_err-next.ensures.exact in
    let p = err_from_is_err_and c.from_residual.result c.from_residual.ensures.1 in
    rw (p.1, p.2) bad

pub loop-tuples-preserved : goal.loop-tuples-preserved
loop-tuples-preserved c =
    let ends = c.args.ends.now in
    let now : VariedPoints = record { xs = c.loop-tuples.xs; ys = c.loop-tuples.ys } in
    let whole = points_by_all ends (record { xs = c.args.xs.now; ys = c.args.ys.now }) (rest c.args.tuples.now) in
    let old = c.loop-tuples.tuples in
    let new = c.next.new.self in
    let next = rw c.if-branch.true at c.in_ok-next.ensures.exact in
    let less : new.left < old.left = c.in_ok-next.ensures.fewer c.if-branch.true in
    let far = rises old.left new.left less c.loop-tuples.invariant.few in
    let made = c.vary_by.ensures.exact ∙ ap (varied_by ends now) c.tuple.ensures in
    record {
      same = next_points ends now (record { xs = c.vary_by.new.xs; ys = c.vary_by.new.ys }) new.tuple (rest old)
          (rest new) whole c.loop-tuples.invariant.same next made;
      source = c.in_ok-next.ensures.source ∙ c.loop-tuples.invariant.source;
      few = omega (arith, less, c.loop-tuples.invariant.few);
      x = all_looser ((4096 - old.left) * 2 ^ 34 + 2 ^ 34) ((4096 - new.left) * 2 ^ 34) c.vary_by.new.xs far
          (c.vary_by.ensures.x ((4096 - old.left) * 2 ^ 34) c.loop-tuples.invariant.x);
      y = all_looser ((4096 - old.left) * 2 ^ 34 + 2 ^ 34) ((4096 - new.left) * 2 ^ 34) c.vary_by.new.ys far
          (c.vary_by.ensures.y ((4096 - old.left) * 2 ^ 34) c.loop-tuples.invariant.y);
      capacity = c.vary_by.ensures.capacity ∙ c.loop-tuples.invariant.capacity;
    }

pub returns-clause-exact : goal.returns-clause-exact
returns-clause-exact c =
    let now : VariedPoints = record { xs = c.loop-tuples.xs; ys = c.loop-tuples.ys } in
    let whole = points_by_all c.args.ends.now (record { xs = c.args.xs.now; ys = c.args.ys.now }) (rest c.args.tuples.now) in
    let next = rw c.if-branch.false at c.in_ok-next.ensures.exact in
    last_points c.args.ends.now now (rest c.loop-tuples.tuples) whole c.loop-tuples.invariant.same next
