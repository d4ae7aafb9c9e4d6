use Rattle.std.proofs.Common.{◌∙◌, refl, sym}
use Rattle.tt_advice.specs.declared.signs.Sign.TheVariants as sign
use Rattle.tt_render.proofs.LabelTexts.{sign_more, signless_more}
use Rattle.tt_render.proofs.signs.signs_after.Goals as goal

pub returns-then-is_plain : goal.returns-then-is_plain
returns-then-is_plain c = λ lines is.
    let none = rw c.as_bytes.ensures.value at (c.is_plain.ensures.signless c.if-is_plain.true) in
    is ∙ sym (signless_more lines c.args.line.now none)

pub returns : goal.returns
returns c = λ lines is.
    let line = c.args.line.now in
    rw (
      c.first_of.ensures,
      c.first_of-2.ensures,
      c.first_of-3.ensures,
      c.first_of-4.ensures,
      is,
      sign_more sign.Control lines line,
      sign_more sign.RightToLeft lines line,
      sign_more sign.Shaped lines line,
      sign_more sign.Joining lines line,
    ) refl
