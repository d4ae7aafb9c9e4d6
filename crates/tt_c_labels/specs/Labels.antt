-- No part of the standard: the label of a text, for C (profile).
use Rattle.std.specs.Prelude.{◌≡◌, ◌≢◌, ◌⊎◌, ℕ, List, length, Option, None, Some, Result, Ok, Err, IsOkAnd}
use Rattle.tt_core.specs.Faults.{Fault}
use Rattle.tt_core.specs.Outcomes.{◌>>=◌}
use Rattle.tt_box.specs.Boxes.{BoxPlace, Boxed, box_outcome}
use Rattle.tt_cmap.specs.Maps.{CharacterMap}
use Rattle.tt_face.specs.Faces.{Face}
use Rattle.tt_face.specs.Instance.{IsDefectAtInstance}
use Rattle.tt_label.specs.Gathered.{gathered, units_glyphs}
use Rattle.tt_label.specs.Label.{label_glyphs, label_outcome, label_report}
use Rattle.tt_label.specs.Widths.{CutImage, width_outcome}
use Rattle.tt_line.specs.declared.align.Align.{Align}
use Rattle.tt_line.specs.Labels.{label_lines}
use Rattle.tt_picture.specs.declared.report.Unfitted.{Unfitted}
use Rattle.tt_picture.specs.Pictures.{Image, IsReady, image_of}
use Rattle.tt_render.specs.Labels.{composed_text, lines_lacking}
use Rattle.tt_strike.specs.Defects.{IsLineDefect}
use Rattle.tt_strike.specs.Job.{Job}
use Rattle.tt_strike.specs.Refusals.{Refused, font}
use Rattle.tt_strike.specs.Report.{line_report}
use Rattle.tt_strike.specs.Strikes.{Strike}
use Rattle.tt_c_calls.specs.declared.answer.CAnswer.{CAnswer}
use Rattle.tt_c_calls.specs.Answers.{DefectStands, TellsRefusal}
use Rattle.tt_c_calls.specs.Fonts.{opened_wanted}
use Rattle.tt_c_calls.specs.Pictures.{IsBandSmall, IsBandWritten, picture_told}
use Rattle.tt_c_calls.specs.Refusals.{Refusal, as_call, box_small}
use Rattle.tt_c_labels.specs.declared.request.CLabelJob.{CLabelJob}
use Rattle.tt_c_labels.specs.declared.request.LabelSpace.{LabelSpace}
use Rattle.tt_c_labels.specs.declared.request.LabelSpace.TheVariants as space
use Rattle.tt_c_labels.specs.declared.drawing.DrawnLabel.{DrawnLabel}
use Rattle.tt_c_labels.specs.declared.labelling.CLabel.{CLabel}
use Rattle.tt_c_labels.specs.Requests.{LabelAsked, label_asked, label_instance, label_opening}

-- a label: its picture, its size in pixels per em, and the columns of ink that are cut at each side
pub record LabelImage : Type 0 where
  pub shown : Image
  pub size : ℕ
  pub left : ℕ
  pub right : ℕ

abbrev pub of_lines : ℕ → Image → LabelImage
of_lines size i = record { shown = i; size = size; left = 0; right = 0 }

abbrev pub of_width : ℕ → CutImage → LabelImage
of_width size c = record { shown = c.shown; size = size; left = c.left; right = c.right }

-- a box cuts no ink; none where the text fits at no size
abbrev pub of_box : Option Boxed → Option LabelImage
of_box None = None
of_box (Some b) = Some (of_lines b.ppem b.shown)

abbrev pub box_place : Align → ℕ → ℕ → ℕ → BoxPlace
box_place how margin width height = record { width = width; height = height; margin = margin; align = how }

-- the label of a job by a font's tables, or the first refusal; none where its text fits into its box at no size. The size
-- of the job is the greatest that is tried for a box
unfoldable pub label_drawn : Align → LabelSpace → Face → Job → Result (Option LabelImage) Refused
label_drawn how space.Lines face a = label_outcome face a how >>= λ i. Ok (Some (of_lines a.ppem i))
label_drawn how (space.Width n) face a = width_outcome face a how n >>= λ c. Ok (Some (of_width a.ppem c))
label_drawn how (space.Box n m) face a =
    box_outcome face a.fit a.ppem a.text (box_place how a.margin n m) >>= λ b. Ok (of_box b)

-- a label, or the refusal of a text that fits at no size
abbrev pub some_label : Option LabelImage → Result LabelImage Refusal
some_label None = Err box_small
some_label (Some i) = Ok i

-- the unfitted glyphs of a label at the size of a job. Rows are those of the glyphs of the whole text
unfoldable pub label_unfitted : Align → LabelSpace → Face → Job → Result (List Unfitted) Refused
label_unfitted how space.Lines face a = label_report face a how
label_unfitted how (space.Width n) face a = line_report face a (gathered (units_glyphs face a))
label_unfitted how (space.Box n m) face a = line_report face a (gathered (units_glyphs face a))

-- the job of the same text with composed letters
abbrev pub composed_job : CharacterMap → Job → Job
composed_job m a = record a { text = composed_text m a.text }

-- the tables of a label by a font file, or the first refusal
abbrev pub label_opened : CLabelJob → List ℕ → Result Face Refusal
label_opened j file = opened_wanted (label_opening j) (label_instance j) file

-- a defect of these tables
abbrev pub IsLabelFaceDefect : CLabelJob → List ℕ → Fault → Type 0
IsLabelFaceDefect j file fault = IsDefectAtInstance file (label_opening j) (label_instance j) fault

-- the label of a text by a font file, or the first refusal
unfoldable pub label_wanted : CLabelJob → List ℕ → List ℕ → Result LabelImage Refusal
label_wanted j text file =
    label_asked j text >>= λ a.
    label_opened j file >>= λ face.
    as_call (label_drawn a.align a.space face (composed_job face.cmap a.job)) >>= λ i.
    some_label i

-- a strike for a requested label
pub record IsStrikeOf (a : LabelAsked) (s : Strike) : Type 0 where
  pub size : s.ppem ≡ a.job.ppem
  pub fit : s.fit ≡ a.job.fit

abbrev pub drawn_view : DrawnLabel → LabelImage
drawn_view l = record { shown = image_of l.picture; size = l.size; left = l.left; right = l.right }

abbrev pub drawn_if : Option DrawnLabel → Option LabelImage
drawn_if None = None
drawn_if (Some l) = Some (drawn_view l)

-- what holds of a label that is drawn: it has the unfitted glyphs of the size that was drawn, and so many distinct
-- characters lack a glyph
pub record IsLabelMade (how : Align) (s : LabelSpace) (face : Face) (a : Job) (count : ℕ) (l : DrawnLabel) : Type 0 where
  pub unfitted : label_unfitted how s face (record a { ppem = l.size }) ≡ Ok l.picture.unfitted
  pub missing : l.missing ≡ count

-- the distinct characters of a text with composed letters that have no glyph
abbrev pub missing_count : CharacterMap → List ℕ → ℕ
missing_count m text = length (lines_lacking m (label_lines (composed_text m text)))

-- what holds of the label of a request by a font
abbrev pub IsDrawnOf : LabelAsked → Face → DrawnLabel → Type 0
IsDrawnOf a face l =
    IsLabelMade a.align a.space face (composed_job face.cmap a.job) (missing_count face.cmap a.job.text) l

-- a label that is drawn is that of a text by a font file
pub record IsLabelOf (j : CLabelJob) (text file : List ℕ) (l : DrawnLabel) : Type 0 where
  pub image : label_wanted j text file ≡ Ok (drawn_view l)
  pub ready : IsReady l.picture
  pub made : IsOkAnd (label_asked j text) (λ a. IsOkAnd (label_opened j file) (λ face. IsDrawnOf a face l))

-- a defect of a font that the picture of a label meets. Of a given width or box it is the one that the definition names
abbrev pub IsSpaceDefect : Align → LabelSpace → Face → Job → Fault → Type 0
IsSpaceDefect how space.Lines face a fault = IsLineDefect face a (label_glyphs face.cmap a.text) fault
IsSpaceDefect how (space.Width n) face a fault = width_outcome face a how n ≡ Err (font fault)
IsSpaceDefect how (space.Box n m) face a fault =
    box_outcome face a.fit a.ppem a.text (box_place how a.margin n m) ≡ Err (font fault)

abbrev pub IsDrawnDefect : LabelAsked → Face → Fault → Type 0
IsDrawnDefect a face fault = IsSpaceDefect a.align a.space face (composed_job face.cmap a.job) fault

-- a defect of a font that a label meets: one of the tables that every text needs, or one of its picture
abbrev pub IsLabelDefect : CLabelJob → List ℕ → List ℕ → Fault → Type 0
IsLabelDefect j text file fault = IsLabelFaceDefect j file fault
    ⊎ IsOkAnd (label_asked j text) (λ a. IsOkAnd (label_opened j file) (λ face. IsDrawnDefect a face fault))

-- a label for C
abbrev pub label_told : DrawnLabel → CLabel
label_told l = record {
  picture = picture_told l.picture;
  size = l.size;
  cut_left = l.left;
  cut_right = l.right;
  missing = l.missing;
}

-- a label was written at the front of a room, and described
pub record IsLabelWritten (l : DrawnLabel) (old new : List ℕ) (told : CLabel) (a : CAnswer) : Type 0 where
  pub rows : IsBandWritten l.picture 0 4096 old new told.picture a
  pub label : told ≡ label_told l

-- the label of a text was written
abbrev pub IsLabelDrawn : CLabelJob → List ℕ → List ℕ → List ℕ → List ℕ → CLabel → CAnswer → Type 0
IsLabelDrawn j text file old new told a = (l : DrawnLabel) × IsLabelOf j text file l × IsLabelWritten l old new told a

-- the label of a text is more than a room has, and the answer reports its size
abbrev pub IsLabelLarge : CLabelJob → List ℕ → List ℕ → List ℕ → CAnswer → Type 0
IsLabelLarge j text file room a = (l : DrawnLabel) × IsLabelOf j text file l × IsBandSmall l.picture 0 4096 room a

-- a call drew the label of a text into a room and described the label, or says why not
pub record DrawsLabel (j : CLabelJob) (text file : List ℕ) (rows_before rows : List ℕ) (told_before told : CLabel)
    (a : CAnswer) : Type 0 where
  pub done : a.status ≡ 0 → IsLabelDrawn j text file rows_before rows told a
  pub refused : a.status ≢ 0 → a.status ≢ 7 → TellsRefusal (label_wanted j text file) a
  pub small : a.status ≡ 7 → IsLabelLarge j text file rows_before a
  pub kept : a.status ≢ 0 → rows ≡ rows_before
  pub told_kept : a.status ≢ 0 → told ≡ told_before
  pub stands : DefectStands (IsLabelDefect j text file) a
