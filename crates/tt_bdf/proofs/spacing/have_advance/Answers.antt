use Rattle.std.proofs.Common.{◌∙◌, sym}
use Rattle.tt_bdf.proofs.Among.{all_advance, other_advance, same_advance}
use Rattle.tt_bdf.proofs.spacing.have_advance.Goals as goal

pub loop-c-preserved : goal.loop-c-preserved
loop-c-preserved c =
    same_advance c.args.advance c.args.characters.now c.loop-c.c-index c.loop-c-test.true c.if-c-advance.false
    ∙ c.loop-c.invariant

pub returns-then-c-advance : goal.returns-then-c-advance
returns-then-c-advance c =
    sym (other_advance c.args.advance c.args.characters.now c.loop-c.c-index c.loop-c-test.true c.if-c-advance.true)
    ∙ c.loop-c.invariant

pub returns : goal.returns
returns c =
    sym (all_advance c.args.advance c.args.characters.now c.loop-c.c-index c.loop-c-test.false) ∙ c.loop-c.invariant
