use Rattle.std.proofs.Common.{◌∙◌, ◌++◌, string_bytes, IsUtf8, sym, ap, subst}
use Rattle.std.proofs.lemmas.Str.{IsUtf8-past_char}
use Rattle.tt_advice.specs.Shown.{shown}
use Rattle.tt_advice.proofs.Characters.{all_shown, one_shown}
use Rattle.tt_advice.proofs.shown.push_shown.Goals as goal

pub loop-c-init : goal.loop-c-init
loop-c-init c = record {
  utf8 = subst IsUtf8 (sym c.chars-rest.ensures.rest) c.utf8.word;
  left = ap (λ bytes. string_bytes c.args.text.now ++ shown bytes) c.chars-rest.ensures.rest;
}

pub loop-c-preserved : goal.loop-c-preserved
loop-c-preserved c =
    let was = c.loop-c.invariant in
    let spelled = c.in-Some.ensures.steps.0 in
    let next = one_shown c.in-Some.c _ _ (string_bytes c.loop-c.text) was.utf8 spelled in
    record {
      utf8 = IsUtf8-past_char _ _ c.in-Some.c was.utf8 spelled;
      left = rw (c.in_ok-push.ensures.bytes, c.shown_character.ensures) (next ∙ was.left);
    }

pub returns : goal.returns
returns c =
    sym (all_shown _ (string_bytes c.loop-c.text) c.in_default.ensures.steps.0.0) ∙ c.loop-c.invariant.left
