use Rattle.std.proofs.Common.{◌∙◌, sym, ◌<◌, length, refl, arith}
use Rattle.tt_rows.proofs.RowLoops.{all_stepped, one_step, stepped_glyphs, stepped_width}
use Rattle.tt_rows.proofs.row_line.row_steps.Goals as goal

pub loop-i-init : goal.loop-i-init
loop-i-init c = rw c.in_ok-line.ensures.items refl

pub loop-i-preserved : goal.loop-i-preserved
loop-i-preserved c =
    let at = c.loop-i in
    let us = c.args.units.now in
    let below : at.i < length us = omega (arith, c.loop-i-test.true) in
    rw c.in_ok-push.ensures.items (one_step us at.line.items at.i c.step_at.result below c.step_at.ensures ∙ at.invariant)

pub returns-clause-exact : goal.returns-clause-exact
returns-clause-exact c =
    let at = c.loop-i in
    let us = c.args.units.now in
    sym (all_stepped us at.line.items at.i (omega (arith, c.loop-i-test.false))) ∙ at.invariant

pub returns-clause-glyphs : goal.returns-clause-glyphs
returns-clause-glyphs c = rw (returns-clause-exact c) (stepped_glyphs c.args.units.now)

pub returns-clause-width : goal.returns-clause-width
returns-clause-width c = rw (returns-clause-exact c) (stepped_width c.args.units.now)
