-- No part of the standard: the answer of a text, by a font at a size (profile).
use Rattle.std.specs.Prelude.{◌≡◌, refl, ℕ, List, [], ◌∷◌, chars, codes, Option, None, Result, Ok, Err}
use Rattle.tt_cmap.specs.Lacking.{lacking_of}
use Rattle.tt_cmap.specs.Lookup.{by_segments}
use Rattle.tt_cmap.specs.Maps.{CharacterMap, strict}
use Rattle.tt_core.specs.Outcomes.{◌>>=◌}
use Rattle.tt_strike.specs.picture.declared.report.Unfitted.{Unfitted}
use Rattle.tt_strike.specs.Costs.{cost_by}
use Rattle.tt_strike.specs.Refusals.{Refused}
use Rattle.tt_strike.specs.Report.{report_by}
use Rattle.tt_strike.specs.Strikes.{Strike, job_of}
use Rattle.tt_render_settings.specs.declared.setting.Missing.{Missing}
use Rattle.tt_render_settings.specs.declared.setting.Missing.TheVariants as how
use Rattle.tt_render_settings.specs.declared.setting.Setting.{Setting}
use Rattle.tt_render_texts.specs.declared.space_fault.SpaceFault.{SpaceFault}
use Rattle.tt_render_texts.specs.Answers.{LabelTold, TextAnswer}
use Rattle.tt_render_settings.specs.Products.{product_of}

-- why a text is not drawn: it is refused; its label does not stand in the requested space; it is not UTF-8; the font has no
-- glyph for this character
pub data TextRefusal : Type 0 where
  refused : Refused → TextRefusal
  misfit : SpaceFault → TextRefusal
  not_utf8 : TextRefusal
  missing : ℕ → TextRefusal

abbrev pub as_text : {X : Type 0} → Result X Refused → Result X TextRefusal
as_text (Ok x) = Ok x
as_text (Err why) = Err (refused why)

abbrev pub as_misfit : {X : Type 0} → Result X SpaceFault → Result X TextRefusal
as_misfit (Ok x) = Ok x
as_misfit (Err why) = Err (misfit why)

-- no character is missing, or the first missing one refuses the text
abbrev pub none_missing : List ℕ → Result (List ℕ) TextRefusal
none_missing [] = Ok []
none_missing (c ∷ cs) = Err (missing c)

-- the reported ones of the characters without a glyph
abbrev pub missing_among : Missing → List ℕ → Result (List ℕ) TextRefusal
missing_among how.Draw cs = Ok []
missing_among how.Tell cs = Ok cs
missing_among how.Refuse cs = none_missing cs

-- the reported ones of a text
unfoldable pub missing_tested : CharacterMap → Missing → List ℕ → Result (List ℕ) TextRefusal
missing_tested m asked text = missing_among asked (lacking_of m (chars text))

-- the answer of a text by its parts, or the first refusal: what else is reported of a label, its output, its unfitted
-- glyphs, its characters without a glyph, and its cost
abbrev pub answer_with : Option LabelTold → Result (List ℕ) Refused → Result (List Unfitted) Refused
    → Result (List ℕ) TextRefusal → Result ℕ Refused → Result TextAnswer TextRefusal
answer_with label product report lacking taken =
    as_text product >>= λ bytes.
    as_text report >>= λ unfitted.
    lacking >>= λ cs.
    as_text taken >>= λ cost.
    Ok (record { bytes = bytes; unfitted = unfitted; lacking = cs; cost = cost; label = label })

-- the same of a text that is no label
abbrev pub answer_of : Result (List ℕ) Refused → Result (List Unfitted) Refused → Result (List ℕ) TextRefusal
    → Result ℕ Refused → Result TextAnswer TextRefusal
answer_of product report lacking taken = answer_with None product report lacking taken

-- the answer of this text
unfoldable pub text_answer : Setting → Strike → List ℕ → Result TextAnswer TextRefusal
text_answer a s text =
    answer_of (product_of a s text) (report_by s.face (job_of s text a.margin))
    (missing_tested s.face.cmap a.missing text) (cost_by s.face (job_of s text a.margin))

-- worked values: A and B have glyphs, C and @ have none
told_in_their_order : missing_among how.Tell (lacking_of (strict (by_segments 3)) (codes "CA@BC")) ≡ Ok (codes "C@")
unfolding lacking_of
told_in_their_order = refl

refused_for_the_first : missing_among how.Refuse (lacking_of (strict (by_segments 3)) (codes "ACB@")) ≡ Err (missing 67)
unfolding lacking_of
refused_for_the_first = refl

none_to_refuse : missing_among how.Refuse (lacking_of (strict (by_segments 3)) (codes "AB")) ≡ Ok []
unfolding lacking_of
none_to_refuse = refl

not_asked_for : missing_among how.Draw (lacking_of (strict (by_segments 3)) (codes "C")) ≡ Ok []
not_asked_for = refl
