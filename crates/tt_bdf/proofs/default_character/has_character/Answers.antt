use Rattle.std.proofs.Common.{◌∙◌, sym}
use Rattle.tt_bdf.proofs.Among.{here, not_here, nowhere}
use Rattle.tt_bdf.proofs.default_character.has_character.Goals as goal

pub loop-c-preserved : goal.loop-c-preserved
loop-c-preserved c =
    not_here c.args.code c.args.characters.now c.loop-c.c-index c.loop-c-test.true c.if-c-code.false ∙ c.loop-c.invariant

pub returns-then-c-code : goal.returns-then-c-code
returns-then-c-code c =
    sym (here c.args.code c.args.characters.now c.loop-c.c-index c.loop-c-test.true c.if-c-code.true) ∙ c.loop-c.invariant

pub returns : goal.returns
returns c =
    sym (nowhere c.args.code c.args.characters.now c.loop-c.c-index c.loop-c-test.false) ∙ c.loop-c.invariant
