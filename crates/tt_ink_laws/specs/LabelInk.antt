-- Laws of the ink of a label. No ink of its lines lies outside of its picture, and no smaller picture holds all ink.
use Rattle.std.specs.Prelude.{◌≡◌, refl, ℕ, ◌||◌, Bool, true, false, ℤ, pos, List, [], ◌∷◌, Result, Ok, Err, ◌⊎◌}
use Rattle.tt_core.specs.Faults.{Fault}
use Rattle.tt_core.specs.Outcomes.{each}
use Rattle.tt_face.specs.Faces.{Face}
use Rattle.tt_fit.specs.Fitting.{Fitter}
use Rattle.tt_line.specs.declared.align.Align.{Align}
use Rattle.tt_line.specs.Layout.{Placement}
use Rattle.tt_picture.specs.declared.ink_box.InkBox.{InkBox}
use Rattle.tt_picture.specs.Pixels.{Shape}
use Rattle.tt_picture.specs.Shapes.{glyph_shape}
use Rattle.tt_scan_edges.specs.declared.edge.Frame.{Frame}
use Rattle.tt_strike.specs.Grown.{lacking}
use Rattle.tt_strike.specs.Job.{Job}
use Rattle.tt_strike.specs.Picture.{frame_of}
use Rattle.tt_strike.specs.Work.{line_fitter}
use Rattle.tt_strike_laws.specs.InkLaws.{AreGlyphs, AreNeeded, IsInPicture, is_ink}
use Rattle.tt_label.specs.InkLaws.{with_room}
use Rattle.tt_label.specs.Label.{joint, joint_numbers, label_grown, label_placed, some_line_shows}

-- some glyphs have ink at column c of row r, in the picture or outside, if they are made
abbrev pub is_inked : Frame → Result (List Shape) Fault → ℤ → ℤ → Bool
is_inked f (Ok glyphs) c r = is_ink f glyphs c r
is_inked f (Err fault) c r = false

-- a line has it, by the fitter of each glyph
abbrev pub line_inks : (ℕ → Fitter) → ℕ → Placement → ℤ → ℤ → Bool
line_inks maker margin line c r = is_inked (frame_of line margin) (each (glyph_shape maker) line.glyphs) c r

-- one of some lines has it
abbrev pub some_line_inks : (ℕ → Fitter) → ℕ → List Placement → ℤ → ℤ → Bool
some_line_inks maker margin [] c r = false
some_line_inks maker margin (line ∷ lines) c r =
    line_inks maker margin line c r || some_line_inks maker margin lines c r

-- the ink of a label whose glyphs are made by this fitter
abbrev pub ink_of_label : Fitter → Job → List Placement → ℤ → ℤ → Bool
ink_of_label s a lines = some_line_inks (line_fitter s (joint_numbers lines)) a.margin lines

-- the ink within a picture is its black pixels
abbrev pub LabelInkIsDrawn : Type 0
LabelInkIsDrawn = (maker : ℕ → Fitter) (margin : ℕ) (lines : List Placement) (c r : ℕ)
    → some_line_inks maker margin lines (pos c) (pos r) ≡ some_line_shows maker margin lines c r

-- no ink of a label lies outside of its picture
abbrev pub LabelsCutNone : Type 0
LabelsCutNone = (face : Face) (a : Job) (how : Align) (lines larger : List Placement) (glyphs : List Shape) (c r : ℤ)
    → label_placed face a how ≡ Ok lines → label_grown face a lines ≡ Ok larger
    → (are : AreGlyphs face a (joint larger) glyphs) → ink_of_label are.setting a larger c r ≡ true
    → IsInPicture (joint larger) c r

-- the lines of a label are the plain ones, or these with the fewest columns and rows added on each side
abbrev pub LabelsAddFewest : Type 0
LabelsAddFewest = (face : Face) (a : Job) (how : Align) (lines larger : List Placement) (glyphs : List Shape)
    → label_placed face a how ≡ Ok lines → label_grown face a lines ≡ Ok larger
    → (are : AreGlyphs face a (joint larger) glyphs)
    → (larger ≡ lines) ⊎ ((b : InkBox) × (larger ≡ with_room (joint lines).width (joint lines).height b lines)
    × AreNeeded (lacking (joint lines).width (joint lines).height b) (joint larger) (ink_of_label are.setting a larger))

-- worked value
no_line_has_ink : (maker : ℕ → Fitter) → some_line_inks maker 0 [] (pos 0) (pos 0) ≡ false
no_line_has_ink maker = refl
