use Rattle.std.proofs.Common.{◌≡◌, false, arith}
use Rattle.std.proofs.lemmas.Bool.Decides.{nat_tests}
use Rattle.std.specs.Prelude.{◌==◌}
use Rattle.tt_render_texts.proofs.texts_messages.Messages.count_line.Goals as goal

pub returns-then-unfitted-eq1 : goal.returns-then-unfitted-eq1
returns-then-unfitted-eq1 c =
    let written = rw (c.in_ok-head.ensures, c.fit_name-name.ensures) at c.format.ensures.ok in
    rw c.if-unfitted-eq1.true written

pub returns : goal.returns
returns c =
    let other : (c.args.unfitted == 1) ≡ false = grind (arith, nat_tests, c.if-unfitted-eq1.false) in
    let written = rw (c.in_ok-head.ensures, c.fit_name-name.ensures) at c.format-else-unfitted-eq1.ensures.ok in
    rw other written
