use Rattle.std.proofs.Common.{◌∙◌, ap, sym, ◌+◌, Some}
use Rattle.std.proofs.lemmas.List.{take_rest}
use Rattle.tt_core.proofs.Cuts.{front_all, front_ends, front_goes_on, rest_ends, rest_goes_on, rest_none}
use Rattle.tt_core.proofs.cutting.cut.Goals as goal

pub loop-i-preserved : goal.loop-i-preserved
loop-i-preserved c =
    let text = c.args.text.now in
    let i = c.loop-i.i in
    let other = rw c.is_at.ensures at c.if-is_at.false in
    record {
      front = front_goes_on c.args.separator text i c.loop-i-test.true other ∙ c.loop-i.invariant.front;
      rest = rest_goes_on c.args.separator text i c.loop-i-test.true other ∙ c.loop-i.invariant.rest;
    }

pub returns-then-is_at-clause-before : goal.returns-then-is_at-clause-before
returns-then-is_at-clause-before c =
    let here = rw c.is_at.ensures at c.if-is_at.true in
    sym (front_ends c.args.separator c.args.text.now c.loop-i.i c.loop-i-test.true here) ∙ c.loop-i.invariant.front

pub returns-then-is_at-clause-after : goal.returns-then-is_at-clause-after
returns-then-is_at-clause-after c =
    let here = rw c.is_at.ensures at c.if-is_at.true in
    let text = c.args.text.now in
    ap Some (take_rest text (c.loop-i.i + 1))
    ∙ sym (rest_ends c.args.separator text c.loop-i.i c.loop-i-test.true here) ∙ c.loop-i.invariant.rest

pub returns-clause-before : goal.returns-clause-before
returns-clause-before c =
    sym (front_all c.args.separator c.args.text.now c.loop-i.i c.loop-i-test.false) ∙ c.loop-i.invariant.front

pub returns-clause-after : goal.returns-clause-after
returns-clause-after c =
    sym (rest_none c.args.separator c.args.text.now c.loop-i.i c.loop-i-test.false) ∙ c.loop-i.invariant.rest
