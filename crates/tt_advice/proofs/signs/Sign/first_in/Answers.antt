use Rattle.std.proofs.Common.{◌∙◌, chars, IsUtf8, sym, ap, subst}
use Rattle.std.specs.Prelude.{find}
use Rattle.std.proofs.lemmas.Str.{IsUtf8-past_char}
use Rattle.tt_advice.specs.Signs.{is_of}
use Rattle.tt_advice.proofs.Characters.{none_found, one_found, one_passed}
use Rattle.tt_advice.proofs.signs.Sign.first_in.Goals as goal

pub loop-c-init : goal.loop-c-init
loop-c-init c = record {
  utf8 = subst IsUtf8 (sym c.chars-rest.ensures.rest) c.utf8.text;
  left = ap (λ bytes. find (is_of c.args.self) (chars bytes)) c.chars-rest.ensures.rest;
}

pub loop-c-preserved : goal.loop-c-preserved
loop-c-preserved c =
    let was = c.loop-c.invariant in
    let spelled = c.in-Some.ensures.steps.0 in
    let passed = one_passed (is_of c.args.self) c.in-Some.c _ _ (sym c.is_of.ensures ∙ c.if-is_of.false) was.utf8 spelled in
    record {
      utf8 = IsUtf8-past_char _ _ c.in-Some.c was.utf8 spelled;
      left = sym passed ∙ was.left;
    }

pub returns-then-is_of : goal.returns-then-is_of
returns-then-is_of c =
    let was = c.loop-c.invariant in
    let found = one_found (is_of c.args.self) c.in-Some.c _ _ (sym c.is_of.ensures ∙ c.if-is_of.true) was.utf8
    c.in-Some.ensures.steps.0 in
    sym found ∙ was.left

pub returns : goal.returns
returns c = sym (none_found (is_of c.args.self) _ c.in_default.ensures.steps.0.0) ∙ c.loop-c.invariant.left
