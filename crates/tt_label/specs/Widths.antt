-- No part of the standard: the picture of a label of a given width, whose lines are broken into rows (profile). Rows and
-- columns of ink are added above and below alone. Ink past the sides is cut.
use Rattle.std.specs.Prelude.{◌≡◌, refl, ℕ, ◌+◌, ◌-◌, ◌*◌, pos, negsuc, ◌-ℤ◌, List, length, Option, None, Some, Result, Ok}
use Rattle.tt_bitmap.specs.declared.ink.LeastBox.{LeastBox}
use Rattle.tt_core.specs.declared.fault.JobFault.{JobFault}
use Rattle.tt_core.specs.Outcomes.{◌>>=◌}
use Rattle.tt_face.specs.Faces.{Face}
use Rattle.tt_fit.specs.Fitting.{Fitter}
use Rattle.tt_label_rows.specs.declared.picture.RowsPicture.{RowsPicture}
use Rattle.tt_label_rows.specs.Heights.{row_heights}
use Rattle.tt_label_rows.specs.Pictures.{below_zero, rows_placed, width_picture}
use Rattle.tt_label_rows.specs.Rows.{text_rows}
use Rattle.tt_line.specs.declared.align.Align.{Align}
use Rattle.tt_line.specs.Labels.{line_step_of, widest}
use Rattle.tt_line.specs.Layout.{Placement, rise_of}
use Rattle.tt_metrics.specs.Metrics.{Metrics}
use Rattle.tt_picture.specs.declared.ink_box.InkBox.{InkBox}
use Rattle.tt_picture.specs.Pictures.{Image, image, narrowed}
use Rattle.tt_strike.specs.Grown.{past}
use Rattle.tt_strike.specs.Job.{Job}
use Rattle.tt_strike.specs.Measures.{line_ink}
use Rattle.tt_strike.specs.Picture.{frame_of, line_shapes}
use Rattle.tt_strike.specs.Refusals.{Refused, as_job}
use Rattle.tt_strike.specs.Work.{line_fitter}
use Rattle.tt_label.specs.Begun.{begun_outcome}
use Rattle.tt_label.specs.Gathered.{gathered, units_glyphs, units_in}
use Rattle.tt_label.specs.Label.{grown_lines, joint, label_ink, some_line_shows}

-- rows that are laid out, and where they stand in their picture
pub record LaidRows : Type 0 where
  pub picture : RowsPicture
  pub lines : List Placement

-- rows in a picture that is n columns wide
abbrev pub laid_in_width : Metrics → ℕ → ℕ → Align → ℕ → List (List (ℕ × ℕ)) → Result LaidRows JobFault
laid_in_width m ppem margin how n rows =
    width_picture (row_heights m ppem) (length rows - 1) (widest rows) n margin how >>= λ p.
    Ok (record { picture = p; lines = rows_placed p (line_step_of m ppem) (rise_of m ppem) rows })

-- ink that needs no more columns
abbrev pub upright : Option InkBox → Option InkBox
upright None = None
upright (Some b) = Some (record { left = pos 0; top = b.top; right = pos 0; bottom = b.bottom })

-- the columns of ink that are cut at the left of a picture, whose first columns are skipped, and at its right
abbrev pub cut_left : ℕ → Option InkBox → ℕ
cut_left skipped None = 0
cut_left skipped (Some b) = below_zero (b.left -ℤ pos skipped)

abbrev pub cut_right : ℕ → ℕ → Option InkBox → ℕ
cut_right skipped n None = 0
cut_right skipped n (Some b) = past (skipped + n) b.right

-- a picture of a label, and how many columns of ink it lacks on each side
pub record CutImage : Type 0 where
  pub shown : Image
  pub left : ℕ
  pub right : ℕ

-- the columns of some lines that a picture of n columns shows
abbrev pub columns_shown : (ℕ → Fitter) → ℕ → ℕ → ℕ → List Placement → Image
columns_shown maker margin skipped n lines =
    image (narrowed (frame_of (joint lines) margin) n) (λ c r. some_line_shows maker margin lines (skipped + c) r)

-- the rows of a text in a picture that is n columns wide, by the fitter of its glyphs
abbrev pub rows_in_width : Face → Job → Align → ℕ → Fitter → Result LaidRows JobFault
rows_in_width face a how n s =
    laid_in_width face.metrics a.ppem a.margin how n (text_rows (n - 2 * a.margin) (units_in face a s))

-- rows of glyphs that are made, drawn in a picture that is high enough for their ink, by the ink of each glyph and its fitter
abbrev pub rows_drawn : (ℕ → Option LeastBox) → (ℕ → Fitter) → ℕ → ℕ → LaidRows → Result CutImage JobFault
rows_drawn inked maker margin n laid =
    let ink = label_ink inked margin laid.lines in
    grown_lines laid.lines (upright ink) >>= λ larger.
    Ok (record {
      shown = columns_shown maker margin laid.picture.skipped n larger;
      left = cut_left laid.picture.skipped ink;
      right = cut_right laid.picture.skipped n ink;
    })

-- the same, once the glyphs of the text are tested
abbrev pub drawn_in_width : Face → Job → ℕ → Fitter → LaidRows → Result CutImage Refused
drawn_in_width face a n s laid =
    let gs = units_glyphs face a in
    line_shapes s a (gathered gs) >>= λ shapes.
    as_job (rows_drawn (line_ink s (gathered gs)) (line_fitter s gs) a.margin n laid)

-- the picture of a label that is n columns wide, or the first refusal
unfoldable pub width_outcome : Face → Job → Align → ℕ → Result CutImage Refused
width_outcome face a how n =
    begun_outcome face a >>= λ s.
    as_job (rows_in_width face a how n s) >>= λ laid.
    drawn_in_width face a n s laid

-- worked values: ink from two columns left of a picture of nine columns up to its eleventh
some_ink : InkBox
some_ink = record { left = negsuc 1; top = negsuc 0; right = pos 10; bottom = pos 4 }

two_columns : cut_left 0 (Some some_ink) ≡ 2
unfolding some_ink
two_columns = refl

-- where three columns are skipped, five are cut at the left; the twelfth column is the last
five_columns : cut_left 3 (Some some_ink) ≡ 5
unfolding some_ink
five_columns = refl

two_at_the_right : cut_right 0 9 (Some some_ink) ≡ 2
unfolding some_ink
two_at_the_right = refl

none_at_the_right : cut_right 3 9 (Some some_ink) ≡ 0
unfolding some_ink
none_at_the_right = refl
