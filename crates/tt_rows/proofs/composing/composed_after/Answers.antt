use Rattle.std.proofs.Common.{◌≡◌, ◌∙◌, ◌++◌, chars, encode_utf8_all, string_bytes, IsUtf8, Some, None, sym, ap, subst}
use Rattle.std.proofs.lemmas.Str.{IsUtf8-past_char}
use Rattle.tt_rows.specs.Composed.{composed_after, composite_in}
use Rattle.tt_rows.proofs.Letters.{ends_with, one_apart, one_joined}
use Rattle.tt_rows.proofs.composing.composed_after.Goals as goal

pub loop-c-init : goal.loop-c-init
loop-c-init c = record {
  utf8 = subst IsUtf8 (sym c.chars-rest.ensures.rest) c.utf8.text;
  left = rw c.new-made.ensures.bytes (ap (λ bytes. encode_utf8_all (composed_after c.args.cmap.now c.args.before (chars bytes))) c.chars-rest.ensures.rest);
}

pub loop-c-preserved-in-Some-composite_in : goal.loop-c-preserved-in-Some-composite_in
loop-c-preserved-in-Some-composite_in c =
    let was = c.loop-c.invariant in
    let spelled = c.in-Some.ensures.steps.0 in
    let m = c.args.cmap.now in
    let both : composite_in m c.loop-c.last c.in-Some.c ≡ Some c.in-Some-composite_in.one = sym c.composite_in.ensures ∙ c.in-Some-composite_in.is in
    record {
      utf8 = IsUtf8-past_char _ _ c.in-Some.c was.utf8 spelled;
      left = ap (λ l. string_bytes c.loop-c.made ++ encode_utf8_all l)
          (sym (one_joined m c.loop-c.last c.in-Some.c c.in-Some-composite_in.one _ _ both was.utf8 spelled)) ∙ was.left;
    }

pub loop-c-preserved : goal.loop-c-preserved
loop-c-preserved c =
    let was = c.loop-c.invariant in
    let spelled = c.in-Some.ensures.steps.0 in
    let m = c.args.cmap.now in
    let none : composite_in m c.loop-c.last c.in-Some.c ≡ None = sym c.composite_in.ensures ∙ c.in-None.is in
    record {
      utf8 = IsUtf8-past_char _ _ c.in-Some.c was.utf8 spelled;
      left = rw c.in_ok-push-in-None.ensures.bytes
          (one_apart m c.loop-c.last c.in-Some.c (string_bytes c.loop-c.made) _ _ none was.utf8 spelled ∙ was.left);
    }

pub returns : goal.returns
returns c =
    rw c.in_ok-push.ensures.bytes
    (ends_with c.args.cmap.now c.loop-c.last (string_bytes c.loop-c.made) _ _ c.in_default.ensures.steps.0.0 c.loop-c.invariant.left)
