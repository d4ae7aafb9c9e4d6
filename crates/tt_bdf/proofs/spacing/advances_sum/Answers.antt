use Rattle.std.proofs.Common.{arith}
use Rattle.std.proofs.lemmas.List.{at_drop_all, at_drop_more}
use Rattle.tt_bdf.specs.Advances.{advances_sum}
use Rattle.tt_bdf.proofs.Nothing.{none}
use Rattle.tt_bdf.proofs.spacing.advances_sum.Goals as goal

pub overflow_add-sum : goal.overflow_add-sum
overflow_add-sum c = omega (arith, c.loop-c.invariant.small, c.loop-c-test.true, c.requires)

pub loop-c-preserved : goal.loop-c-preserved
loop-c-preserved c =
    let rest = at_drop_more advances_sum c.args.characters.now c.loop-c.c-index none c.loop-c-test.true in
    record {
      sum = omega (arith, rest, c.loop-c.invariant.sum);
      small = omega (arith, c.loop-c.invariant.small);
    }

pub returns-clause-exact : goal.returns-clause-exact
returns-clause-exact c =
    let none_left = at_drop_all advances_sum c.args.characters.now c.loop-c.c-index (omega (arith, c.loop-c-test.false)) in
    omega (arith, none_left, c.loop-c.invariant.sum)
