-- The answer of a line that is drawn as a label.
use Rattle.std.proofs.Common.{◌≡◌, ◌∙◌, ap, ℕ, ◌<◌, ◌≤◌, Bool, true, false, nat_lt, List, length, Err, refl, arith}
use Rattle.std.specs.Prelude.{IsUtf8}
use Rattle.std.proofs.lemmas.Bool.Decides.{nat_tests}
use Rattle.std.proofs.lemmas.Str.{IsUtf8-from_is_utf8, is_utf8-from_IsUtf8}
use Rattle.std.specs.Str.{is_utf8}
use Rattle.tt_core.specs.declared.fault.JobFault.TheVariants as fault
use Rattle.tt_strike.specs.Refusals.{job}
use Rattle.tt_strike.specs.Strikes.{Strike}
use Rattle.tt_render_settings.specs.declared.label.Label.{Label}
use Rattle.tt_render.specs.LabelSpaces.{label_image}
use Rattle.tt_render.specs.Labels.{composed_answer, label_answer, line_labelled}
use Rattle.tt_render_texts.specs.Lines.{line_limit}
use Rattle.tt_render_settings.specs.Texts.{not_utf8, refused}

pub long_label : (l : Label) (s : Strike) (line : List ℕ) → line_limit < length line
    → line_labelled l s line ≡ Err (refused (job fault.TextLong))
unfolding line_labelled
long_label l s line long =
    let is : nat_lt line_limit (length line) ≡ true = grind (arith, nat_tests) in
    rw is refl

pub label_of_no_text : (l : Label) (s : Strike) (line : List ℕ) → length line ≤ line_limit → (IsUtf8 line → ⊥)
    → line_labelled l s line ≡ Err not_utf8
unfolding line_labelled
label_of_no_text l s line short other =
    let is : nat_lt line_limit (length line) ≡ false = grind (arith, nat_tests) in
    let none : is_utf8 line ≡ false = no_test (is_utf8 line) refl in
    rw (is, none) refl
  where
    no_test : (b : Bool) → is_utf8 line ≡ b → is_utf8 line ≡ false
    no_test true is_text = absurd (other (IsUtf8-from_is_utf8 line is_text))
    no_test false is_not = is_not

pub label_of_text : (l : Label) (s : Strike) (line text : List ℕ) → length line ≤ line_limit
    → (text ≡ line) × IsUtf8 line → line_labelled l s line ≡ label_answer l s text
unfolding line_labelled
label_of_text l s line text short is_text =
    let is : nat_lt line_limit (length line) ≡ false = grind (arith, nat_tests) in
    let whole = is_utf8-from_IsUtf8 line is_text.1 in
    rw (is, whole, is_text.0) refl

-- the answer of a label does not depend on the cache's limit
pub most_aside : (l : Label) (s : Strike) (most : ℕ) (text : List ℕ)
    → label_answer l s text ≡ label_answer l (record s { most = most }) text
unfolding label_answer composed_answer label_image
most_aside l s most text = refl

-- a label is drawn alike whatever glyphs are cached
kept_aside : (l : Label) (s t : Strike) → line_labelled l (record s { kept = t.kept }) ≡ line_labelled l s
unfolding line_labelled label_answer composed_answer label_image
kept_aside l s t = refl

pub labelled_alike : (l : Label) (s t : Strike) → t ≡ record s { kept = t.kept } → line_labelled l t ≡ line_labelled l s
labelled_alike l s t alone = ap (λ (x : Strike). line_labelled l x) alone ∙ kept_aside l s t
