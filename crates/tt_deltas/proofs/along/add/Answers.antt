use Rattle.std.proofs.Common.{◌<◌, length, arith}
use Rattle.tt_deltas.proofs.Added.{same_value, more, rest_more, whole, within, no_value}
use Rattle.tt_deltas.proofs.along.add.Goals as goal

pub loop-i-preserved : goal.loop-i-preserved
loop-i-preserved c =
    let now = c.loop-i.values in
    let old = c.args.values.now in
    let i = c.loop-i.i in
    let here : i < length now = omega (arith, c.loop-i-test.true, c.loop-i.auto.values) in
    let there : i < length old = omega (arith, c.loop-i-test.true) in
    let other : i < length c.args.points.now = omega (arith, c.requires.count, c.loop-i-test.true) in
    record {
      so_far = more now old c.args.points.now i c.moved_by.result here there other c.loop-i.invariant.so_far
          c.loop-i.invariant.rest c.moved_by.ensures;
      rest = rest_more now old i c.moved_by.result c.loop-i.invariant.rest;
    }

pub returns-clause-exact : goal.returns-clause-exact
returns-clause-exact c =
    whole c.loop-i.values c.args.values.now c.args.points.now c.loop-i.i
    (omega (arith, c.loop-i-test.false, c.loop-i.auto.values)) c.loop-i.auto.values c.loop-i.invariant.so_far

pub returns-clause-within : goal.returns-clause-within
returns-clause-within c = λ most values.
    rw (returns-clause-exact c) (within most c.args.values.now c.args.points.now values c.requires.points)

pub moved_by-requires-clause-value : goal.moved_by-requires-clause-value
moved_by-requires-clause-value c =
    let now = c.loop-i.values in
    let old = c.args.values.now in
    let i = c.loop-i.i in
    let here : i < length now = omega (arith, c.loop-i-test.true, c.loop-i.auto.values) in
    let there : i < length old = omega (arith, c.loop-i-test.true) in
    rw (same_value now old i here there c.loop-i.invariant.rest) (c.requires.values i no_value there)
