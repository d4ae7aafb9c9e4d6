-- The lines of `map`: for each unit its code points, its glyph and the glyph's advance in font units, at the requested
-- instance.
use Rattle.std.specs.Prelude.{ℕ, List, ◌++◌, flat_map, chars, codes, decimal, Option, Some, None, Result, Ok, IsOkAnd, ◌⊎◌, ◌≡◌, refl}
use Rattle.std.specs.Fmt.{digits}
use Rattle.tt_core.specs.declared.collection.Reading.{Reading}
use Rattle.tt_core.specs.Faults.{Fault}
use Rattle.tt_core.specs.Outcomes.{◌>>=◌}
use Rattle.tt_advances.specs.Defects.{IsAdvanceDefect}
use Rattle.tt_advances.specs.Found.{advances_tested, units_of}
use Rattle.tt_cmap.specs.Maps.{glyph_of_unit, units_by}
use Rattle.tt_cmap.specs.declared.units.TextUnit.{TextUnit}
use Rattle.tt_cmap.specs.Units.{plain_unit, selected_unit}
use Rattle.tt_face.specs.Faces.{Face}
use Rattle.tt_face.specs.Instance.{Asked, IsDefectAtInstance, face_at_instance}
use Rattle.tt_face.specs.Rules.{plain_opening}
use Rattle.tt_line.specs.Layout.{text_glyphs}
use Rattle.tt_strike.specs.Job.{text_tested}
use Rattle.tt_strike.specs.Refusals.{Refused, as_font}
use Rattle.tt_render_streams.specs.CodePoints.{named}
use Rattle.tt_render_run.specs.Outcome.{Wanted, outcome_of}

-- `U+NNNN glyph advance` and a line feed
abbrev pub line_text : ℕ → ℕ → ℕ → List ℕ
line_text c glyph advance = named c (decimal glyph ++ (codes " " ++ (decimal advance ++ codes "\n")))

-- the same after a character, if that has a selector
abbrev pub selected_text : ℕ → Option ℕ → ℕ → ℕ → List ℕ
selected_text c None glyph advance = line_text c glyph advance
selected_text c (Some v) glyph advance = named c (line_text v glyph advance)

-- the line of a unit: `U+NNNN glyph advance`, or with a selector `U+NNNN U+NNNN glyph advance`
abbrev pub unit_text : TextUnit → ℕ → ℕ → List ℕ
unit_text u glyph advance = selected_text u.character u.selector glyph advance

abbrev pub map_line : Face → TextUnit → List ℕ
map_line face u = unit_text u (glyph_of_unit face.cmap u) (units_of face (glyph_of_unit face.cmap u))

-- the lines of the units of a text, in the order of the text
abbrev pub map_lines : Face → List ℕ → List ℕ
map_lines face text = flat_map (map_line face) (units_by face.cmap (chars text))

-- the same once the advances are found, or the first fault
unfoldable pub lines_in : Face → List ℕ → Result (List ℕ) Fault
lines_in face text = advances_tested face (text_glyphs face.cmap text) >>= λ u. Ok (map_lines face text)

-- the lines by the face that a reading of a file gives at an instance, or the file's first fault in the order of reading
unfoldable pub lines_of : Reading → Option Asked → List ℕ → List ℕ → Result (List ℕ) Fault
lines_of r i file text = face_at_instance file (plain_opening r) i >>= λ face. lines_in face text

-- the bytes for a text by a reading of a font file, or the refusal: the text is tested first, then the file's size
unfoldable pub map_outcome : Reading → Option Asked → List ℕ → List ℕ → Result (List ℕ) Refused
map_outcome r i text file = outcome_of (text_tested text) (λ font. as_font (lines_of r i font text)) file

abbrev pub map_wanted : Reading → Option Asked → List ℕ → Wanted
map_wanted r i text = record { tested = text_tested text; bytes = map_outcome r i text }

-- a defect of the face, of its instance, or of the advances of the text's glyphs
abbrev pub IsMapDefect : Reading → Option Asked → List ℕ → List ℕ → Fault → Type 0
IsMapDefect r i text file fault = IsDefectAtInstance file (plain_opening r) i fault
    ⊎ IsOkAnd (face_at_instance file (plain_opening r) i) (λ face. IsAdvanceDefect face (text_glyphs face.cmap text) fault)

-- worked values
a_letter : unit_text (plain_unit 65) 1 256 ≡ codes "U+0041 1 256\n"
unfolding digits
a_letter = refl

a_letter_with_a_selector : unit_text (selected_unit 66 0xFE01) 1 256 ≡ codes "U+0042 U+FE01 1 256\n"
unfolding digits
a_letter_with_a_selector = refl
