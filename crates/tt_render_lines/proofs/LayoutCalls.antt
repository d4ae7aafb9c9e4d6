-- The steps of a call that writes the measure of a text without its ink, joined.
use Rattle.std.proofs.Common.{◌≡◌, ◌∙◌, ℕ, List, ◌++◌, append_assoc, codes, decimal, flat_map, None, Ok, Err, inl, inr, refl}
use Rattle.std.specs.Fmt.{signed_decimal}
use Rattle.std.specs.Prelude.{IfSome}
use Rattle.tt_core.specs.declared.collection.Reading.{Reading}
use Rattle.tt_core.specs.declared.draw_fault.DrawFault.{DrawFault}
use Rattle.tt_core.specs.declared.draw_fault.DrawFault.TheVariants as draw
use Rattle.tt_face.specs.Faces.{Face}
use Rattle.tt_core.specs.Directory.{HasNo}
use Rattle.tt_core.specs.Faults.{Fault}
use Rattle.tt_render_texts.specs.declared.refusal.Refusal.{Refusal}
use Rattle.tt_render_texts.specs.declared.refusal.Refusal.TheVariants as reason
use Rattle.tt_render_settings.specs.declared.setting.Setting.{Setting}
use Rattle.tt_render_lines.specs.LayoutTexts.{IsLaidDefect, IsLayoutDefect, laid_text, layout_answer, layout_text, line_text, pen_text, size_text}
use Rattle.tt_render_settings.specs.MeasureText.{face_text, font_text}
use Rattle.tt_render_settings.specs.Settings.{IsOpeningDefect, face_asked, job_by}
use Rattle.tt_render_settings.specs.TextsOutcome.{IsOfText, TextTellsDefects, refusal_font_fault, told}
use Rattle.tt_render_texts.specs.Views.{before_lines, refusal_of_draw}
use Rattle.tt_strike.specs.declared.layouts.Layout.{Layout}
use Rattle.tt_strike.specs.declared.layouts.Pen.{Pen}
use Rattle.tt_strike.specs.Job.{Job}
use Rattle.tt_strike.specs.Layouts.{pens_outcome}
use Rattle.tt_strike.specs.Refusals as drawing
use Rattle.tt_strike.specs.Strikes.{Strike, job_of}

-- the pen past the end of some pens
abbrev pub no_pen : Pen
no_pen = record { unit = record { character = 0; selector = None }; glyph = 0; advance = 0; pen = 0 }

-- the first lines and those of the pens
pub append_pens : (r : Reading) (file : List ℕ) (face : Face) (l : Layout) (ps : List Pen)
    → ((face_text r file ++ font_text face.metrics) ++ size_text l) ++ flat_map pen_text ps ≡ layout_text r file face l ps
unfolding layout_text
append_pens r file face l ps =
    append_assoc (face_text r file ++ font_text face.metrics) (size_text l) (flat_map pen_text ps)
    ∙ append_assoc (face_text r file) (font_text face.metrics) (size_text l ++ flat_map pen_text ps)

-- the picture's line before that of a line of text
pub size_before : (l : Layout)
    → codes "picture " ++ (decimal l.size.width ++ (codes " " ++ (decimal l.size.height
    ++ (codes " baseline " ++ (signed_decimal l.baseline ++ (codes "\n" ++ line_text l.size)))))) ≡ size_text l
size_before l = simp append_assoc

-- a text without pens has no lines
pub stops_at_pens : (r : Reading) (face : Face) (j : Job) (d : DrawFault)
    → IfSome (drawing.refusal d) (λ why. pens_outcome face j ≡ Err why)
    → IfSome (drawing.refusal d) (λ why. laid_text r face j ≡ Err why)
unfolding laid_text
stops_at_pens r face j (draw.Font f) is = rw is refl
stops_at_pens r face j (draw.Job k) is = rw is refl
stops_at_pens r face j draw.Memory is = tt

-- so the text is refused
pub lines_stop : (a : Setting) (s : Strike) (text : List ℕ) (d : DrawFault)
    → IfSome (drawing.refusal d) (λ why. laid_text a.opening.reading s.face (job_of s text a.margin) ≡ Err why)
    → IfSome (told (refusal_of_draw d)) (λ why. layout_answer a s text ≡ Err why)
unfolding layout_answer
lines_stop a s text (draw.Font f) is = rw is refl
lines_stop a s text (draw.Job j) is = rw is refl
lines_stop a s text draw.Memory is = tt

-- a defect by a font's tables is one by the font's file
pub layout_tells : (V : Type 0) (a : Setting) (text file : List ℕ) (face : Face) (why : Refusal)
    → face_asked a file ≡ Ok face
    → IfSome (refusal_font_fault why) (IsLaidDefect face (job_by a text)) → IsOfText {V = V} (Err why)
    → TextTellsDefects {V = V} (IsLayoutDefect a text file) (Err (before_lines why))
layout_tells V a text file face (reason.Font f) there stands serves = inr (rw there stands)
layout_tells V a text file face (reason.Job j) there stands serves = tt
layout_tells V a text file face reason.NotUtf8 there stands serves = tt
layout_tells V a text file face (reason.Space wrong) there stands serves = tt
layout_tells V a text file face (reason.Missing c) there stands serves = tt
layout_tells V a text file face reason.FontRead there stands serves = tt
layout_tells V a text file face reason.FontLarge there stands serves = tt
layout_tells V a text file face reason.Read there stands serves = tt
layout_tells V a text file face reason.Create there stands serves = absurd serves
layout_tells V a text file face (reason.Write sent) there stands serves = absurd serves
layout_tells V a text file face reason.Many there stands serves = tt
layout_tells V a text file face reason.Memory there stands serves = tt

-- so the file has none where the tables have none
pub none_by_layout : (a : Setting) (text file : List ℕ) (face : Face) → face_asked a file ≡ Ok face
    → HasNo (IsOpeningDefect a file) → HasNo (IsLaidDefect face (job_by a text))
    → HasNo (IsLayoutDefect a text file)
none_by_layout a text file face there none line = λ fault defect. elim defect [
  | inl tables ↦ none fault tables
  | inr of_text ↦ line fault (rw there at of_text)
]
