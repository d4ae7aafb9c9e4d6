-- Laws of boxes: the size of the picture is the greatest, and no ink is cut.
use Rattle.std.specs.Prelude.{◌≡◌, ℕ, ◌+◌, ◌<◌, ◌≤◌, true, ◌⊎◌, List, Option, None, Some, Ok}
use Rattle.tt_box.specs.Boxes.{BoxPlace, Boxed, Tried, boxed_from, is_inside, is_too_high, laid_if_fits, size_tried}
use Rattle.tt_face.specs.Faces.{Face}
use Rattle.tt_fit.specs.Fitting.{Fitter}
use Rattle.tt_label.specs.Begun.{begun_outcome}
use Rattle.tt_label.specs.Gathered.{gathered, units_glyphs, units_in}
use Rattle.tt_label.specs.Label.{joint, label_ink, some_line_shows}
use Rattle.tt_label_rows.specs.Heights.{row_heights}
use Rattle.tt_line.specs.Layout.{Placement}
use Rattle.tt_picture.specs.Pictures.{Image, image}
use Rattle.tt_strike.specs.Job.{Job}
use Rattle.tt_strike.specs.Measures.{line_ink}
use Rattle.tt_strike.specs.Picture.{frame_of}
use Rattle.tt_strike.specs.Work.{line_fitter}

-- a text does not fit at the size of a job: a row is too high, or the size was tried and has no picture
abbrev pub DoesNotFit : Face → Job → BoxPlace → Type 0
DoesNotFit face a b =
    (is_too_high face b a.ppem ≡ true) ⊎ ((t : Tried) × (size_tried face a b ≡ Ok t) × (t.shown ≡ None))

-- at no greater size, down from the greatest, does the text fit
abbrev pub SizesAreGreatest : Type 0
SizesAreGreatest = (face : Face) (a : ℕ → Job) (b : BoxPlace) (least count : ℕ) (left : Option ℕ) (d : Boxed)
    → boxed_from face a b least count left ≡ Ok (Some d)
    → (ppem : ℕ) → d.ppem < ppem → ppem < least + count → DoesNotFit face (a ppem) b

-- a text that is in no box fits at no size
abbrev pub NoSizeIsLeft : Type 0
NoSizeIsLeft = (face : Face) (a : ℕ → Job) (b : BoxPlace) (least count : ℕ) (left : Option ℕ)
    → boxed_from face a b least count left ≡ Ok None
    → (ppem : ℕ) → least ≤ ppem → ppem < least + count → DoesNotFit face (a ppem) b

-- a picture shows rows of unbroken words that fit, by this fitter of their glyphs, and all their ink lies in it
pub record ShowsRows (face : Face) (a : Job) (b : BoxPlace) (i : Image) (s : Fitter) (lines : List Placement) : Type 0 where
  pub begun : begun_outcome face a ≡ Ok s
  pub fits : laid_if_fits (row_heights face.metrics a.ppem) b (units_in face a s) ≡ Some lines
  pub inside : is_inside b.width b.height (label_ink (line_ink s (gathered (units_glyphs face a))) a.margin lines) ≡ true
  pub shown : i ≡ image (frame_of (joint lines) a.margin) (some_line_shows (line_fitter s (units_glyphs face a)) a.margin lines)

-- the picture of a box cuts no ink
abbrev pub BoxesCutNone : Type 0
BoxesCutNone = (face : Face) (a : ℕ → Job) (b : BoxPlace) (least count : ℕ) (left : Option ℕ) (d : Boxed)
    → boxed_from face a b least count left ≡ Ok (Some d)
    → (s : Fitter) × ((lines : List Placement) × ShowsRows face (a d.ppem) b d.shown s lines)
