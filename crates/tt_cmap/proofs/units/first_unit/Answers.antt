use Rattle.std.proofs.Common.{◌≡◌, ◌∙◌, chars, IsUtf8, sym, ap, subst}
use Rattle.std.proofs.lemmas.Str.{IsUtf8-past_char}
use Rattle.tt_cmap.specs.Units.{units}
use Rattle.tt_cmap.proofs.UnitSteps.{no-units, one-passed, one-unit}
use Rattle.tt_cmap.proofs.units.first_unit.Goals as goal

pub loop-character-init : goal.loop-character-init
loop-character-init c = record {
  utf8 = subst IsUtf8 (sym c.chars-rest.ensures.rest) c.utf8.text;
  left = ap (λ bytes. units c.args.pairs (chars bytes)) c.chars-rest.ensures.rest;
}

pub loop-character-preserved : goal.loop-character-preserved
loop-character-preserved c =
    let was = c.loop-character.invariant in
    let spelled = c.in-Some.ensures.steps.0 in
    let passed = one-passed c.args.pairs c.in-Some.character _ _
    (sym c.is_passed_over.ensures ∙ c.if-not-is_passed_over.false) was.utf8 spelled in
    record {
      utf8 = IsUtf8-past_char _ _ c.in-Some.character was.utf8 spelled;
      left = sym passed ∙ was.left;
    }

pub returns-then-not-is_passed_over-clause-first : goal.returns-then-not-is_passed_over-clause-first
returns-then-not-is_passed_over-clause-first c =
    let was = c.loop-character.invariant in
    let first = one-unit c.args.pairs c.in-Some.character _ _
    (sym c.is_passed_over.ensures ∙ c.if-not-is_passed_over.true) was.utf8 c.in-Some.ensures.steps.0 in
    rw (c.selector_before-selector.ensures, c.as_str-after.ensures) (sym was.left ∙ first)

pub returns-then-not-is_passed_over-clause-utf8 : goal.returns-then-not-is_passed_over-clause-utf8
returns-then-not-is_passed_over-clause-utf8 c = ∣ c.as_str-after.utf8 ∣₁

pub returns-clause-first : goal.returns-clause-first
returns-clause-first c = sym c.loop-character.invariant.left ∙ no-units c.args.pairs _ c.in_default.ensures.steps.0.0
