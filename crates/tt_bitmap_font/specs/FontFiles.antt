-- No part of a standard: the file of a font at a size, and the order of its refusals (profile). All glyphs are made
-- before a byte is written.
use Rattle.std.specs.Prelude.{◌≡◌, refl, ℕ, false, List, [], length, codes, string_bytes, Option, Some, None, is_some, Result, Ok, Err}
use Rattle.std.specs.Fmt.{digits}
use Rattle.tt_advice.specs.Advice.{axis_advice}
use Rattle.tt_advice.specs.declared.hint.FixedHint.TheVariants as fixed
use Rattle.tt_advice.specs.declared.hint.Hint.{Hint}
use Rattle.tt_advice.specs.declared.hint.Hint.TheVariants as hint
use Rattle.tt_advice.specs.Notes.{font_notes}
use Rattle.tt_bdf.specs.Asked.{file_characters}
use Rattle.tt_bdf.specs.File.{bdf_text}
use Rattle.tt_core.specs.declared.collection.Reading.TheVariants as reading
use Rattle.tt_core.specs.declared.fault.JobFault.{JobFault}
use Rattle.tt_core.specs.declared.fault.JobFault.TheVariants as job
use Rattle.tt_core.specs.Faults.{Fault}
use Rattle.tt_core.specs.Outcomes.{◌>>=◌}
use Rattle.tt_face.specs.declared.rules.Opening.{Opening}
use Rattle.tt_face.specs.Faces.{Face}
use Rattle.tt_face.specs.Rules.{plain_opening}
use Rattle.tt_fit.specs.declared.programs.Fit.{Fit}
use Rattle.tt_fit.specs.declared.programs.Fit.TheVariants as fit
use Rattle.tt_glyphs.specs.Requests.{Bitmaps, GlyphJob, job_for, sound_outcome}
use Rattle.tt_render_settings.specs.declared.label.Labelled.{Labelled}
use Rattle.tt_render_texts.specs.declared.refusal.Refusal.{Refusal}
use Rattle.tt_render_texts.specs.declared.refusal.Refusal.TheVariants as reason
use Rattle.tt_render_texts.specs.declared.refusal.TextsFault.{TextsFault}
use Rattle.tt_render_settings.specs.declared.setting.Setting.{Setting}
use Rattle.tt_render_texts.specs.declared.label_reports.Signs.{Signs}
use Rattle.tt_render_settings.specs.LinesDefects.{IsTextDefect}
use Rattle.tt_render_texts.specs.Printing.{Errors}
use Rattle.tt_render_texts.specs.Reports.{label_report_of, nothing_cut}
use Rattle.tt_render_settings.specs.Settings.{axes_in, job_by, plain_setting}
use Rattle.tt_render_texts.specs.Answers.{LabelTold, TextAnswer}
use Rattle.tt_render_settings.specs.Texts.{TextRefusal, as_text}
use Rattle.tt_render_settings.specs.Lines.{stream}
use Rattle.tt_render_settings.specs.TextsOutcome.{FontAnswers, IsNotReady}
use Rattle.tt_render_streams.specs.Traffic.{Traffic}
use Rattle.tt_strike.specs.Defects.{IsLineDefect}
use Rattle.tt_strike.specs.Job.{size_tested, tested}
use Rattle.tt_strike.specs.Refusals.{Refused, as_job}
use Rattle.tt_strike.specs.Strikes.{Strike}
use Rattle.tt_bitmap_font.specs.Bitmaps.{characters_by, size_of_rows_tested, unfitted_of}
use Rattle.tt_bitmap_font.specs.Characters.{asked_ranges, file_glyphs, glyphs_for, text_lacking}
use Rattle.tt_bitmap_font.specs.declared.answers.ReadyFile.{ReadyFile}
use Rattle.tt_bitmap_font.specs.declared.font_file.FontFile.{FontFile}
use Rattle.tt_bitmap_font.specs.Facts.{face_facts}

-- how the face of a file is opened: the wide reading, and no kerning
abbrev pub opening_of : FontFile → Opening
opening_of a =
    record { reading = reading.Wide a.face; rules = record { heights = a.heights; kerned = false } }

-- the setting of a file: no margin
abbrev pub setting_of : FontFile → Setting
setting_of a = record (plain_setting a.size 0 a.fit (opening_of a)) { instance = a.instance }

-- the tests before the font is read: the size, and then the length of the text
abbrev pub asked_tested : FontFile → Result (Unit {0}) JobFault
asked_tested a = tested (job_by (setting_of a) a.text.now)

-- the glyphs of some characters as a request
abbrev pub glyph_job : FontFile → Face → List ℕ → GlyphJob
glyph_job a face cs = job_for (glyphs_for face.cmap cs) a.size a.fit

-- the characters of a file and their bitmaps, or the first refusal
unfoldable pub file_bitmaps : FontFile → Face → Result (List ℕ × Bitmaps) Refused
file_bitmaps a face =
    as_job (file_characters face.cmap (asked_ranges a.ranges.now a.text.now)) >>= λ cs.
    sound_outcome face (glyph_job a face cs) >>= λ b.
    as_job (size_of_rows_tested b) >>= λ u.
    Ok (cs, b)

abbrev pub no_signs : Signs
no_signs = record { control = None; right_to_left = None; shaped = None; joining = None }

-- what is reported of a file beside its unfitted glyphs and its characters without a glyph
abbrev pub told_by : Fit → List ℕ → LabelTold
told_by how notes = record { fit = how; cut = nothing_cut; signs = no_signs; font = notes }

-- the bytes of a file
abbrev pub file_text : FontFile → Face → List ℕ → Bitmaps → List ℕ
file_text a face cs b = bdf_text (face_facts face a.size) (characters_by face cs b.entries) b.rows

-- the lines about the font, by the font's file
abbrev pub file_notes : FontFile → List ℕ → List ℕ
file_notes a file = font_notes a.path.now file a.face a.face_given (is_some a.instance)

-- the file by its bitmaps, and its report; a file takes nothing of the budget of many lines
abbrev pub answer_by : FontFile → Face → List ℕ × Bitmaps → TextAnswer
answer_by a face p = record {
  bytes = file_text a face p.0 p.1;
  unfitted = unfitted_of face p.0 p.1.entries;
  lacking = text_lacking face.cmap a.text.now;
  cost = 0;
  label = Some (told_by a.fit (file_notes a face.directory.file));
}

-- the file of a font by a face, or the first refusal
unfoldable pub bdf_outcome : FontFile → Face → Result TextAnswer TextRefusal
bdf_outcome a face = as_text (file_bitmaps a face) >>= λ p. Ok (answer_by a face p)

-- the file that is ready to be written
abbrev pub file_view : ReadyFile → TextAnswer
file_view r = record {
  bytes = r.file.items;
  unfitted = r.unfitted.items;
  lacking = r.lacking.items;
  cost = 0;
  label = Some (told_by r.fit (string_bytes r.notes));
}

-- its report, as it is printed
abbrev pub TellsFile : ReadyFile → Type 0
TellsFile r = string_bytes r.report
    ≡ label_report_of None (told_by r.fit (string_bytes r.notes)) (length r.unfitted.items) r.lacking.items

-- a file by an opened font, or the refusal
abbrev pub FileReadies : (Strike → Result TextAnswer TextRefusal) → Result Strike Refused → Result ReadyFile TextsFault
    → Type 0
FileReadies answer opened (Ok r) = (s : Strike) × (opened ≡ Ok s) × (answer s ≡ Ok (file_view r))
FileReadies answer opened (Err fault) = IsNotReady answer opened fault.refusal fault.line

-- a call stopped before it made the file, or memory ran out by then; or it made the file by a font
abbrev pub FontFileGives : {V : Type 0} → FontFile → Result V TextsFault → Traffic → Errors → Type 0
FontFileGives a r t e = FontAnswers stream (setting_of a) (λ s. bdf_outcome a s.face) a.text.now r t e

-- a defect of a face that stops its file: of the tables and programs that glyphs need, or of a glyph of the file
abbrev pub IsGlyphsDefect : FontFile → Face → Fault → Type 0
IsGlyphsDefect a face f =
    IsLineDefect face (job_by (setting_of a) a.text.now) (file_glyphs a.ranges.now face.cmap a.text.now) f

-- a defect of the tables needed for every text, of the instance, or of the data that this file is made from
abbrev pub IsFileDefect : FontFile → List ℕ → Fault → Type 0
IsFileDefect a file f = IsTextDefect (file_glyphs a.ranges.now) (setting_of a) a.text.now file f

-- which of the requested characters a font has
abbrev pub characters_hint : JobFault → Option Hint
characters_hint job.TextLong = Some (hint.Fixed fixed.ManyCharacters)
characters_hint job.EmptyPicture = Some (hint.Fixed fixed.NoCharacter)
characters_hint j = None

-- what is reported to a person of the font's file: why the font is refused, and which of its characters are requested
abbrev pub hint_for : Refusal → List ℕ → FontFile → Option Hint
hint_for (reason.Font f) file a = Some (axis_advice f file a.face (axes_in (setting_of a)))
hint_for (reason.Job j) file a = characters_hint j
hint_for why file a = None

-- the hint of a fault, by the tests before the font is read: a text that is too long is no matter of the font
abbrev pub hint_behind : Result (Unit {0}) JobFault → Refusal → List ℕ → FontFile → Option Hint
hint_behind (Ok u) why file a = hint_for why file a
hint_behind (Err j) why file a = None

-- the hint of an answer
abbrev pub hint_of : FontFile → Result (Unit {0}) TextsFault → List ℕ → Option Hint
hint_of a (Ok u) file = None
hint_of a (Err fault) file = hint_behind (asked_tested a) fault.refusal file a

abbrev pub HintsBy : FontFile → Labelled → List ℕ → Type 0
HintsBy a e file = e.hint ≡ hint_of a e.answer file

-- worked values: the size is tested first; a text that is too long is no matter of the font, its characters are
size_before_the_text : tested (job_by (plain_setting 301 0 fit.Best (plain_opening (reading.Wide 0))) []) ≡ Err job.SizeRange
unfolding tested size_tested
size_before_the_text = refl

a_long_text : (a : FontFile) → hint_behind (Err job.TextLong) (reason.Job job.TextLong) [] a ≡ None
a_long_text a = refl

many_characters : (a : FontFile) → hint_behind (Ok tt) (reason.Job job.TextLong) [] a ≡ Some (hint.Fixed fixed.ManyCharacters)
many_characters a = refl

no_character : (a : FontFile) → hint_behind (Ok tt) (reason.Job job.EmptyPicture) [] a ≡ Some (hint.Fixed fixed.NoCharacter)
no_character a = refl

a_large_glyph : (a : FontFile) → hint_behind (Ok tt) (reason.Job job.PictureLarge) [] a ≡ None
a_large_glyph a = refl

-- the report of a file with an unfitted glyph, and of one without the two characters Z and z
one_unfitted_and_two_lacking : label_report_of None (told_by fit.Best []) 1 (codes "Zz")
    ≡ codes "tt_render: 1 glyph is not fitted; draw --fit best names it\ntt_render: U+005A has no glyph\ntt_render: U+007A has no glyph\n"
unfolding label_report_of digits
one_unfitted_and_two_lacking = refl
