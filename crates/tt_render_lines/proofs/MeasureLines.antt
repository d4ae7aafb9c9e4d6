-- The lines of a measured text, one more at a time.
use Rattle.std.proofs.Common.{◌≡◌, ◌∙◌, ℕ, List, ◌∷◌, ◌++◌, append_assoc, chars, Some}
use Rattle.std.specs.Fmt.{signed_decimal}
use Rattle.std.specs.List.{zip}
use Rattle.tt_cmap.specs.Maps.{units_by}
use Rattle.tt_core.specs.declared.collection.Reading.{Reading}
use Rattle.tt_face.specs.Faces.{Face}
use Rattle.tt_strike.specs.picture.declared.ink_box.InkBox.{InkBox}
use Rattle.tt_render_settings.specs.MeasureText.{box_words, face_text, font_text, measure_text, picture_text, unit_lines}
use Rattle.tt_strike.specs.Measures.{Measure}

-- the first lines and those of the units
pub append_all : (r : Reading) (file : List ℕ) (face : Face) (text : List ℕ) (m : Measure)
    → ((face_text r file ++ font_text face.metrics) ++ picture_text m)
    ++ unit_lines (zip (units_by face.cmap (chars text)) m.characters) ≡ measure_text r file face text m
unfolding measure_text
append_all r file face text m =
    let lines = unit_lines (zip (units_by face.cmap (chars text)) m.characters) in
    append_assoc (face_text r file ++ font_text face.metrics) (picture_text m) lines
    ∙ append_assoc (face_text r file) (font_text face.metrics) (picture_text m ++ lines)

-- a box is put before a text number by number
pub box_before : (b : InkBox) (text : List ℕ)
    → signed_decimal b.left ++ (32 ∷ (signed_decimal b.top ++ (32 ∷ (signed_decimal b.right
    ++ (32 ∷ (signed_decimal b.bottom ++ text)))))) ≡ box_words (Some b) ++ text
box_before b text = simp append_assoc
