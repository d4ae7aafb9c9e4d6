-- Laws of labels of one line. Such a label is the grown picture of the line. Where the plain picture would have no pixel,
-- the line stands in one of at least one column and one row. Labels go by the lines of their texts.
use Rattle.std.specs.Prelude.{◌≡◌, ◌≢◌, refl, ℕ, ◌*◌, pos, negsuc, List, [], ◌∷◌, map, codes, Result, Ok, Err}
use Rattle.tt_core.specs.declared.fault.JobFault.{JobFault}
use Rattle.tt_core.specs.declared.fault.JobFault.TheVariants as fault
use Rattle.tt_core.specs.Outcomes.{◌>>=◌}
use Rattle.tt_face.specs.Faces.{Face}
use Rattle.tt_line.specs.declared.align.Align.{Align}
use Rattle.tt_line.specs.declared.extent.PictureExtent.{PictureExtent}
use Rattle.tt_line.specs.Labels.{greater, label_lines}
use Rattle.tt_line.specs.Layout.{Placement, depth_of, extent_by, placed_in, rise_of, within_limits}
use Rattle.tt_line.specs.Steps.{at_least}
use Rattle.tt_metrics.specs.Metrics.{Metrics}
use Rattle.tt_picture.specs.Pictures.{Image}
use Rattle.tt_strike.specs.Grown.{grown_line, grown_outcome}
use Rattle.tt_strike.specs.Job.{Job, tested}
use Rattle.tt_strike.specs.Layouts.{steps_outcome}
use Rattle.tt_strike.specs.Picture.{drawn}
use Rattle.tt_strike.specs.Refusals.{Refused, as_job, job}
use Rattle.tt_strike.specs.Report.{report_by}
use Rattle.tt_label.specs.Label.{label_outcome, label_report}

-- the extent of a picture, with at least one column and one row
abbrev pub with_a_pixel : PictureExtent → PictureExtent
with_a_pixel e = record { width = greater 1 e.width; height = pos (at_least 1 e.height) }

-- the layout of some glyphs with their steps in such a picture, or the refusal
abbrev pub laid_with_a_pixel : Metrics → ℕ → ℕ → List (ℕ × ℕ) → Result Placement JobFault
laid_with_a_pixel m ppem margin line =
    let glyphs : List ℕ = map (λ g. g.0) line in
    let steps : List ℕ = map (λ g. g.1) line in
    within_limits (with_a_pixel (extent_by steps margin (rise_of m ppem) (depth_of m ppem))) >>= λ e.
    Ok (placed_in glyphs steps (rise_of m ppem) e)

-- the line of a text that is laid out so, or the first refusal
unfoldable pub line_with_a_pixel : Face → Job → Result Placement Refused
line_with_a_pixel face a =
    as_job (tested a) >>= λ u.
    steps_outcome face a >>= λ line.
    as_job (laid_with_a_pixel face.metrics a.ppem a.margin line)

-- the grown picture of that line, or the first refusal
unfoldable pub outcome_with_a_pixel : Face → Job → Result Image Refused
outcome_with_a_pixel face a =
    line_with_a_pixel face a >>= λ line.
    grown_line face a line >>= λ larger.
    drawn face a larger

-- a text that is one line, without a mark at its start and without a line feed
abbrev pub IsOneLine : List ℕ → Type 0
IsOneLine text = label_lines text ≡ text ∷ []

-- the picture of a line is not refused for want of a pixel
abbrev pub IsNotEmpty : Face → Job → Type 0
IsNotEmpty face a = grown_outcome face a ≢ Err (job fault.EmptyPicture)

-- the label of one line is the grown picture of the line, or is refused for the same reason
abbrev pub OneLineIsGrown : Type 0
OneLineIsGrown = (face : Face) (a : Job) (how : Align) → IsOneLine a.text → IsNotEmpty face a
    → label_outcome face a how ≡ grown_outcome face a

-- the unfitted glyphs of that label are those of the line
abbrev pub OneLineReports : Type 0
OneLineReports = (face : Face) (a : Job) (how : Align) → IsOneLine a.text → IsNotEmpty face a
    → label_report face a how ≡ (as_job (tested a) >>= λ u. report_by face a)

-- in each case that label is the grown picture of the line in at least one column and one row
abbrev pub OneLineHasPixels : Type 0
OneLineHasPixels = (face : Face) (a : Job) (how : Align) → IsOneLine a.text
    → label_outcome face a how ≡ outcome_with_a_pixel face a

-- no label is refused for want of a pixel
abbrev pub LabelsAreNeverEmpty : Type 0
LabelsAreNeverEmpty = (face : Face) (a : Job) (how : Align) → label_outcome face a how ≢ Err (job fault.EmptyPicture)

-- two texts within the limits that have the same lines have the same label
abbrev pub LinesMakeLabels : Type 0
LinesMakeLabels = (face : Face) (a : Job) (other : List ℕ) (how : Align) → label_lines other ≡ label_lines a.text
    → tested a ≡ Ok tt → tested (record a { text = other }) ≡ Ok tt
    → label_outcome face (record a { text = other }) how ≡ label_outcome face a how

-- a text without a character is a picture as wide as two margins, and at least one column
abbrev pub EmptyTextsAreColumns : Type 0
EmptyTextsAreColumns = (face : Face) (a : Job) (how : Align) (i : Image) → a.text ≡ [] → label_outcome face a how ≡ Ok i
    → i.frame.width ≡ greater 1 (2 * a.margin)

-- worked values: texts of one line
no_character_is_one_line : IsOneLine []
unfolding label_lines
no_character_is_one_line = refl

a_word_is_one_line : IsOneLine (codes "Hello")
unfolding label_lines
a_word_is_one_line = refl

-- the same lines, with a last line feed
a_last_feed_is_no_line : label_lines (codes "Hello\n") ≡ label_lines (codes "Hello")
unfolding label_lines
a_last_feed_is_no_line = refl

-- worked values: no column and less than a row, a row alone, and a picture that has both
no_pixel_at_all : with_a_pixel (record { width = 0; height = negsuc 2 }) ≡ record { width = 1; height = pos 1 }
no_pixel_at_all = refl

no_column_alone : with_a_pixel (record { width = 0; height = pos 5 }) ≡ record { width = 1; height = pos 5 }
no_column_alone = refl

both_are_there : with_a_pixel (record { width = 9; height = pos 1 }) ≡ record { width = 9; height = pos 1 }
both_are_there = refl
