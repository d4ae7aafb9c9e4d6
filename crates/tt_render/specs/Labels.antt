-- No part of the standard: the answer of a text that is drawn as a label, by a font at a size (profile). A label is the
-- picture of the lines of its text.
use Rattle.std.specs.Prelude.{◌≡◌, ◌⊎◌, refl, ℕ, false, List, [], ◌∷◌, length, find, chars, encode_utf8_all, string_bytes, Option, Some, None, is_some, Result, Ok, Err, ⊤}
use Rattle.tt_advice.specs.Advice.{axis_advice}
use Rattle.tt_advice.specs.declared.hint.Hint.{Hint}
use Rattle.tt_advice.specs.declared.signs.Sign.{Sign}
use Rattle.tt_advice.specs.declared.signs.Sign.TheVariants as sign
use Rattle.tt_advice.specs.Notes.{font_notes}
use Rattle.tt_advice.specs.Signs.{is_of}
use Rattle.tt_cmap.specs.Lacking.{distinct_after, lacking_of}
use Rattle.tt_cmap.specs.Maps.{CharacterMap}
use Rattle.tt_core.specs.declared.collection.Reading.{Reading}
use Rattle.tt_core.specs.declared.collection.Reading.TheVariants as reading
use Rattle.tt_core.specs.Outcomes.{◌>>=◌}
use Rattle.tt_strike.specs.Job.{tested}
use Rattle.tt_strike.specs.Refusals.{Refused, as_job, font}
use Rattle.tt_strike.specs.Strikes.{Strike, job_of}
use Rattle.tt_render_streams.specs.declared.pictures.NotPut.{NotPut}
use Rattle.tt_render_streams.specs.File.{file_in}
use Rattle.tt_render_streams.specs.Formed.{IsWhole, formed_bytes, formed_picture}
use Rattle.tt_render_streams.specs.Putting.{IsPart}
use Rattle.tt_rows.specs.Composed.{composed}
use Rattle.tt_render_settings.specs.Help.{label_lines_of}
use Rattle.tt_render_settings.specs.declared.label.Label.{Label}
use Rattle.tt_render_settings.specs.declared.label.LabelsDrawn.{LabelsDrawn}
use Rattle.tt_render_settings.specs.declared.setting.Setting.{Setting}
use Rattle.tt_render.specs.declared.label_answers.ReadyLabel.{ReadyLabel}
use Rattle.tt_render.specs.LabelSpaces.{HasSpace, IsMisfit, cost_in, cut_of, label_image, report_in}
use Rattle.tt_render_texts.specs.declared.refusal.Refusal.{Refusal}
use Rattle.tt_render_texts.specs.declared.refusal.Refusal.TheVariants as reason
use Rattle.tt_render_texts.specs.declared.refusal.TextsFault.{TextsFault}
use Rattle.tt_render_texts.specs.declared.label_reports.CutInk.{CutInk}
use Rattle.tt_render_texts.specs.declared.label_reports.Signs.{Signs}
use Rattle.tt_render_settings.specs.Lines.{Drawing, Outlet, line_answer}
use Rattle.tt_render_texts.specs.Printing.{Errors}
use Rattle.tt_render_texts.specs.Reports.{label_report_of, told_view}
use Rattle.tt_render_settings.specs.Settings.{axes_in, job_by, setting_tested, strike_of}
use Rattle.tt_label.specs.Label.{label_glyphs}
use Rattle.tt_line.specs.Labels.{label_lines}
use Rattle.tt_render_texts.specs.Answers.{LabelTold, TextAnswer}
use Rattle.tt_render_settings.specs.Texts.{TextRefusal, answer_with, as_text, missing_among}
use Rattle.tt_render_settings.specs.TextsOutcome.{FontAnswers, IsIdle, IsNotReady, IsSilent, LinesGive, OpensFont, StopsAtFont, line_fault, reader_in, telling}
use Rattle.tt_render_streams.specs.Traffic.{Traffic}
use Rattle.tt_render_streams.specs.Reading.{FontIsUnread, FontReader}
use Rattle.tt_render_texts.specs.Views.{refusal_of_put}

-- the first character of some lines that has a sign
abbrev pub or_later : Option ℕ → Option ℕ → Option ℕ
or_later (Some c) later = Some c
or_later None later = later

abbrev pub first_sign : Sign → List (List ℕ) → Option ℕ
first_sign which [] = None
first_sign which (line ∷ lines) = or_later (find (is_of which) (chars line)) (first_sign which lines)

-- the first character of each sign
abbrev pub signs_of : List (List ℕ) → Signs
signs_of lines = record {
  control = first_sign sign.Control lines;
  right_to_left = first_sign sign.RightToLeft lines;
  shaped = first_sign sign.Shaped lines;
  joining = first_sign sign.Joining lines;
}

-- a list of distinct characters, extended by the characters of some lines without a glyph
abbrev pub lacking_after : CharacterMap → List ℕ → List (List ℕ) → List ℕ
lacking_after m before [] = before
lacking_after m before (line ∷ lines) = lacking_after m (distinct_after before (lacking_of m (chars line))) lines

-- the distinct characters of some lines without a glyph, in order of first appearance
abbrev pub lines_lacking : CharacterMap → List (List ℕ) → List ℕ
lines_lacking m lines = lacking_after m [] lines

-- the number of the face that a reading gives
abbrev pub face_number : Reading → ℕ
face_number reading.Strict = 0
face_number (reading.Wide face) = face

-- the lines about a label's font, by its file
abbrev pub label_notes : Label → List ℕ → List ℕ
label_notes l file =
    font_notes l.path.now file (face_number l.setting.opening.reading) l.face_given (is_some l.setting.instance)

-- what is reported of a label, by its font's file and by the ink that its picture lacks
abbrev pub label_told : Label → List ℕ → CutInk → List ℕ → LabelTold
label_told l file cut text = record {
  fit = l.setting.fit;
  cut = cut;
  signs = signs_of (label_lines text);
  font = label_notes l file;
}

-- a text with composed letters. No line feed is one of a pair that composes, so each line is composed by itself
unfoldable pub composed_text : CharacterMap → List ℕ → List ℕ
composed_text m text = encode_utf8_all (composed m (chars text))

-- the glyphs of its lines
abbrev pub composed_glyphs : CharacterMap → List ℕ → List ℕ
composed_glyphs m text = label_glyphs m (composed_text m text)

-- the answer of a label's text, whose letters are composed, by a font's tables at a size
unfoldable pub composed_answer : Label → Strike → List ℕ → Result TextAnswer TextRefusal
composed_answer l s text =
    label_image l s text >>= λ i.
    answer_with (Some (label_told l s.face.directory.file (cut_of i) text))
    (Ok (file_in l.format i.shown))
    (report_in l.space s.face (job_of s text l.setting.margin) l.align)
    (missing_among l.setting.missing (lines_lacking s.face.cmap (label_lines text)))
    (cost_in l.space s.face (job_of s text l.setting.margin) l.align)

-- the answer of a label's text: its characters are counted before they are composed
unfoldable pub label_answer : Label → Strike → List ℕ → Result TextAnswer TextRefusal
label_answer l s text =
    as_text (as_job (tested (job_by l.setting text))) >>= λ u. composed_answer l s (composed_text s.face.cmap text)

-- the answer of a line that is drawn as a label
unfoldable pub line_labelled : Label → Strike → List ℕ → Result TextAnswer TextRefusal
line_labelled l s line = line_answer (label_answer l s) line

-- the answer that is ready to be written
abbrev pub label_view : ReadyLabel → TextAnswer
label_view r = record {
  bytes = formed_bytes r.formed;
  unfitted = (formed_picture r.formed).unfitted;
  lacking = r.lacking.items;
  cost = (formed_picture r.formed).cost;
  label = Some (told_view r.told);
}

-- its report, as it is printed
abbrev pub TellsLabel : Option ℕ → ReadyLabel → Type 0
TellsLabel number r =
    string_bytes r.report ≡ label_report_of number (told_view r.told) (length (formed_picture r.formed).unfitted) r.lacking.items

-- its picture is written without more memory
abbrev pub CanGoOut : ReadyLabel → Type 0
CanGoOut r = IsWhole r.formed

-- why a label is not in its place, and what stands there of it
abbrev pub IsNotSent : (List ℕ → List ℕ) → ℕ → Option (List ℕ) → Option (List ℕ) → List ℕ → TextsFault → Type 0
IsNotSent shown number before after bytes e =
    (f : NotPut) × (e ≡ record { line = Some number; refusal = refusal_of_put f }) × IsPart shown before after bytes f

-- the report of a refused line
abbrev pub label_told_of : Label → ℕ → TextRefusal → List ℕ
label_told_of l number why = label_lines_of l false (line_fault number why) None

-- the drawing of lines as labels
abbrev pub labels_drawing : Outlet → Label → Strike → Drawing
labels_drawing to l s =
    record { to = to; answer = line_labelled l s; tells = telling l.setting.keep_going (label_told_of l) }

-- what is reported to a person of the font's file, where the font is refused
abbrev pub hint_for : Refusal → List ℕ → Setting → Option Hint
hint_for (reason.Font f) file a = Some (axis_advice f file (face_number a.opening.reading) (axes_in a))
hint_for why file a = None

-- the hint of an answer
abbrev pub hint_of : Result (Option TextsFault) TextsFault → List ℕ → Setting → Option Hint
hint_of (Ok u) file a = None
hint_of (Err fault) file a = hint_for fault.refusal file a

-- the hint beside an answer is that about the font's file
abbrev pub HintsBy : Label → LabelsDrawn → List ℕ → Type 0
HintsBy l e file = e.hint ≡ hint_of e.answer file l.setting

-- a call stopped for the space of its label; or it stopped before it drew the text, or memory ran out by then; or it drew
-- the text by a font
abbrev pub FontLabelGives : {V : Type 0} → Outlet → Label → List ℕ → Result V TextsFault → Traffic → Errors → Type 0
FontLabelGives to l text r t e =
    (IsMisfit l r × FontIsUnread (reader_in t) × IsSilent t e)
    ⊎ (HasSpace l × FontAnswers to l.setting (λ s. label_answer l s text) text r t e)

-- a call drew the lines of a text by an opened font, each as a label of its own
abbrev pub LabelsGive : Outlet → Label → Strike → Result (Option TextsFault) TextsFault → Traffic → Errors → Type 0
LabelsGive to l s r t e = LinesGive (λ first. first) (labels_drawing to l s) r t e

-- a call stopped before it read a line, or drew the lines of a text by a font
abbrev pub OpenedLabelsGive : Outlet → Label → Result (Option TextsFault) TextsFault → FontReader → Traffic → Errors → Type 0
OpenedLabelsGive to l r f t e =
    (StopsAtFont (setting_tested l.setting) (strike_of l.setting) r f × IsIdle t e)
    ⊎ OpensFont (setting_tested l.setting) (strike_of l.setting) f (λ s. LabelsGive to l s r t e)

-- the same, or the call stopped for the space of its labels
abbrev pub FontLabelsGive : Outlet → Label → Result (Option TextsFault) TextsFault → FontReader → Traffic → Errors → Type 0
FontLabelsGive to l r f t e =
    (IsMisfit l r × FontIsUnread f × IsIdle t e) ⊎ (HasSpace l × OpenedLabelsGive to l r f t e)

-- by the bytes of the font: a table that every text needs is refused, or memory ran out, before a line was read;
-- or the lines are drawn
abbrev pub IsUnopened : Result Strike Refused → Refusal → Option ℕ → Type 0
IsUnopened opened (reason.Font f) None = opened ≡ Err (font f)
IsUnopened opened reason.Memory None = ⊤
IsUnopened opened why line = ⊥

abbrev pub StopsUnopened : {V : Type 0} → Result Strike Refused → Result V TextsFault → Type 0
StopsUnopened opened (Ok v) = ⊥
StopsUnopened opened (Err fault) = IsUnopened opened fault.refusal fault.line

abbrev pub FileLabelsGive : Outlet → Label → List ℕ → Result (Option TextsFault) TextsFault → Traffic → Errors → Type 0
FileLabelsGive to l file r t e =
    (StopsUnopened (strike_of l.setting file) r × IsIdle t e)
    ⊎ ((s : Strike) × (strike_of l.setting file ≡ Ok s) × LabelsGive to l s r t e)

-- one label by an opened font, or the refusal
abbrev pub LabelReadies : (Strike → Result TextAnswer TextRefusal) → Result Strike Refused → Result ReadyLabel TextsFault
    → Type 0
LabelReadies answer opened (Ok r) = (s : Strike) × (opened ≡ Ok s) × (answer s ≡ Ok (label_view r))
LabelReadies answer opened (Err fault) = IsNotReady answer opened fault.refusal fault.line

-- worked value: of three lines the second has the sign first
the_first_line_with_the_sign : or_later None (or_later (Some 9) (or_later (Some 10) None)) ≡ Some 9
the_first_line_with_the_sign = refl
