-- No part of the standard: the measure of a text without its ink (profile), as lines of text, and its answer by a font
-- at a size. The unfitted glyphs of such a text are not reported.
use Rattle.std.specs.Prelude.{◌≡◌, refl, ℕ, pos, negsuc, List, [], ◌∷◌, ◌++◌, flat_map, string_bytes, codes, decimal, None, Result, Ok, Err, ◌⊎◌}
use Rattle.std.specs.Fmt.{digits, signed_decimal}
use Rattle.tt_core.specs.declared.collection.Reading.{Reading}
use Rattle.tt_core.specs.Faults.{Fault}
use Rattle.tt_core.specs.Outcomes.{◌>>=◌}
use Rattle.tt_cmap.specs.Units.{plain_unit, selected_unit}
use Rattle.tt_face.specs.Faces.{Face}
use Rattle.tt_line.specs.declared.measured.LineSize.{LineSize}
use Rattle.tt_line.specs.Layout.{text_glyphs}
use Rattle.tt_render_streams.specs.CodePoints.{code_point}
use Rattle.tt_render_streams.specs.Traffic.{Traffic}
use Rattle.tt_strike.specs.declared.layouts.Layout.{Layout}
use Rattle.tt_strike.specs.declared.layouts.Pen.{Pen}
use Rattle.tt_strike.specs.Job.{Job}
use Rattle.tt_strike.specs.Layouts.{HasLayoutDefect, layout_outcome, pens_outcome}
use Rattle.tt_strike.specs.Refusals.{Refused}
use Rattle.tt_strike.specs.Strikes.{Strike, job_of}
use Rattle.tt_render_lines.specs.declared.layout_answers.ReadyLayout.{ReadyLayout}
use Rattle.tt_render_texts.specs.declared.refusal.TextsFault.{TextsFault}
use Rattle.tt_render_settings.specs.declared.setting.Setting.{Setting}
use Rattle.tt_render_settings.specs.MeasureText.{face_text, font_text}
use Rattle.tt_render_texts.specs.Printing.{Errors}
use Rattle.tt_render_texts.specs.Reports.{report_text_of}
use Rattle.tt_render_settings.specs.Settings.{ByFaceAsked, IsOpeningDefect}
use Rattle.tt_render_texts.specs.Answers.{TextAnswer}
use Rattle.tt_render_settings.specs.Texts.{TextRefusal, answer_of, missing_tested}
use Rattle.tt_render_settings.specs.Lines.{stream}
use Rattle.tt_render_settings.specs.TextsOutcome.{FontAnswers, IsNotReady}

-- `picture <width> <height> baseline <rows above it>` and a line feed
abbrev pub frame_text : Layout → List ℕ
frame_text l =
    codes "picture " ++ (decimal l.size.width ++ (codes " " ++ (decimal l.size.height
    ++ (codes " baseline " ++ (signed_decimal l.baseline ++ codes "\n")))))

-- `line <rise> <depth> <gap> <step>` and a line feed
abbrev pub line_text : LineSize → List ℕ
line_text z =
    codes "line " ++ (signed_decimal z.rise ++ (codes " " ++ (signed_decimal z.depth ++ (codes " " ++ (decimal z.gap
    ++ (codes " " ++ (decimal z.step ++ codes "\n")))))))

abbrev pub size_text : Layout → List ℕ
size_text l = frame_text l ++ line_text l.size

-- `U+<code point> <glyph> <pen> <advance>` and a line feed
abbrev pub pen_text : Pen → List ℕ
pen_text p =
    codes "U+" ++ (code_point p.unit.character ++ (codes " " ++ (decimal p.glyph ++ (codes " " ++ (decimal p.pen
    ++ (codes " " ++ (decimal p.advance ++ codes "\n")))))))

-- the face's line, the font's, the picture's, the line's, and one for each pen
unfoldable pub layout_text : Reading → List ℕ → Face → Layout → List Pen → List ℕ
layout_text r file face l ps =
    face_text r file ++ (font_text face.metrics ++ (size_text l ++ flat_map pen_text ps))

-- these lines of a job, by the tables of a face and by the reading that gave the face; or the first refusal
unfoldable pub laid_text : Reading → Face → Job → Result (List ℕ) Refused
laid_text r face j =
    pens_outcome face j >>= λ ps.
    layout_outcome face j >>= λ l.
    Ok (layout_text r face.directory.file face l ps)

-- the answer of a text
unfoldable pub layout_answer : Setting → Strike → List ℕ → Result TextAnswer TextRefusal
layout_answer a s text =
    answer_of (laid_text a.opening.reading s.face (job_of s text a.margin)) (Ok []) (missing_tested s.face.cmap a.missing text)
    (Ok 0)

-- the answer that is ready to be written
abbrev pub layout_view : ReadyLayout → TextAnswer
layout_view r =
    record { bytes = r.lines.items; unfitted = []; lacking = r.lacking.items; cost = 0; label = None }

-- its report, as it is printed
abbrev pub TellsLayout : ReadyLayout → Type 0
TellsLayout r = string_bytes r.report ≡ report_text_of None [] r.lacking.items

-- one text by an opened font, or the refusal
abbrev pub LayoutReadies : (Strike → Result TextAnswer TextRefusal) → Result Strike Refused → Result ReadyLayout TextsFault
    → Type 0
LayoutReadies answer opened (Ok r) = (s : Strike) × (opened ≡ Ok s) × (answer s ≡ Ok (layout_view r))
LayoutReadies answer opened (Err fault) = IsNotReady answer opened fault.refusal fault.line

-- a call stopped before it laid the text out, or memory ran out by then; or it laid the text out by a font
abbrev pub FontLayoutGives : {V : Type 0} → Setting → List ℕ → Result V TextsFault → Traffic → Errors → Type 0
FontLayoutGives a text r t e = FontAnswers stream a (λ s. layout_answer a s text) text r t e

-- a defect that stops the lines of a job, by a face
abbrev pub IsLaidDefect : Face → Job → Fault → Type 0
IsLaidDefect face j f = HasLayoutDefect face j (text_glyphs face.cmap j.text) f

-- a defect of the tables that every text needs, of the instance, or of the data that this text is laid out from
abbrev pub IsLayoutDefect : Setting → List ℕ → List ℕ → Fault → Type 0
IsLayoutDefect a text file f = IsOpeningDefect a file f ⊎ ByFaceAsked (λ face j. IsLaidDefect face j f) a text file

-- worked values: two units of four columns and of three, after a margin of one
a_layout : Layout
a_layout = record {
  size = record { width = 9; height = 14; rise = pos 10; depth = negsuc 1; gap = 2; step = 10 };
  baseline = pos 11;
  characters = 3;
}

its_size : size_text a_layout ≡ codes "picture 9 14 baseline 11\nline 10 -2 2 10\n"
unfolding a_layout digits
its_size = refl

its_pens : flat_map pen_text
    (record { unit = plain_unit 65; glyph = 36; advance = 4; pen = 1 }
    ∷ record { unit = selected_unit 0x1F600 0xFE0F; glyph = 3; advance = 3; pen = 5 } ∷ [])
    ≡ codes "U+0041 36 1 4\nU+1F600 3 5 3\n"
unfolding digits
its_pens = refl
