-- No part of the standard: the measure of a text as lines of text.
use Rattle.std.specs.Prelude.{◌≡◌, refl, ℕ, pos, negsuc, not, ◌||◌, nat_lt, if◌then◌else◌, List, [], ◌∷◌, ◌++◌, length, map, chars, flat_map, codes, decimal, Option, Some, None}
use Rattle.std.specs.Fmt.{digits, signed_decimal}
use Rattle.std.specs.List.{zip}
use Rattle.tt_cmap.specs.Maps.{units_by}
use Rattle.tt_cmap.specs.declared.units.TextUnit.{TextUnit}
use Rattle.tt_cmap.specs.Units.{plain_unit, selected_unit}
use Rattle.tt_core.specs.Collections.{font_count, is_collection}
use Rattle.tt_core.specs.declared.collection.Reading.{Reading}
use Rattle.tt_core.specs.declared.collection.Reading.TheVariants as reading
use Rattle.tt_face.specs.Faces.{Face}
use Rattle.tt_metrics.specs.Metrics.{Metrics, ascent_of, descent_of, glyphs_of, line_gap_of, units_per_em_of}
use Rattle.tt_render_texts.specs.streams.CodePoints.{code_point}
use Rattle.tt_strike.specs.picture.declared.ink_box.InkBox.{InkBox}
use Rattle.tt_strike.specs.declared.measuring.CharacterMeasure.{CharacterMeasure}
use Rattle.tt_strike.specs.Measures.{Measure}

-- `<left> <top> <right> <bottom>` of ink, or `none`
abbrev pub box_words : Option InkBox → List ℕ
box_words None = codes "none"
box_words (Some b) =
    signed_decimal b.left ++ (codes " " ++ (signed_decimal b.top
    ++ (codes " " ++ (signed_decimal b.right ++ (codes " " ++ signed_decimal b.bottom)))))

-- how many fonts a collection has; none for any other file
abbrev pub fonts_in : List ℕ → Option ℕ
fonts_in file = if nat_lt (length file) 12 || not (is_collection file) then None else Some (font_count file)

-- `face <number> <fonts>` and a line feed for a font of a collection, nothing for a font that is alone in its file
abbrev pub collected_text : ℕ → Option ℕ → List ℕ
collected_text n None = []
collected_text n (Some count) = codes "face " ++ (decimal n ++ (codes " " ++ (decimal count ++ codes "\n")))

abbrev pub face_text : Reading → List ℕ → List ℕ
face_text reading.Strict file = []
face_text (reading.Wide n) file = collected_text n (fonts_in file)

-- `font <units per em> <ascent> <descent> <glyphs> <line gap>` and a line feed, all but the glyphs in font units
abbrev pub font_text : Metrics → List ℕ
font_text m =
    codes "font " ++ (decimal (units_per_em_of m) ++ (codes " " ++ (signed_decimal (ascent_of m)
    ++ (codes " " ++ (signed_decimal (descent_of m) ++ (codes " " ++ (decimal (glyphs_of m)
    ++ (codes " " ++ (signed_decimal (line_gap_of m) ++ codes "\n")))))))))

-- `picture <width> <height> baseline <rows above it> ink <box>` and a line feed
abbrev pub picture_text : Measure → List ℕ
picture_text m =
    codes "picture " ++ (decimal m.width ++ (codes " " ++ (decimal m.height
    ++ (codes " baseline " ++ (signed_decimal m.baseline ++ (codes " ink " ++ (box_words m.ink ++ codes "\n")))))))

-- `U+<code point> <glyph> <pen> <advance> <box>` and a line feed
abbrev pub character_text : ℕ → CharacterMeasure → List ℕ
character_text c m =
    codes "U+" ++ (code_point c ++ (codes " " ++ (decimal m.glyph ++ (codes " " ++ (signed_decimal m.pen
    ++ (codes " " ++ (decimal m.advance ++ (codes " " ++ (box_words m.ink ++ codes "\n")))))))))

-- the lines of units, each with its measure and named by its character
abbrev pub unit_lines : List (TextUnit × CharacterMeasure) → List ℕ
unit_lines measured = flat_map (λ p. character_text p.0.character p.1) measured

-- the face's line, the font's, the picture's, and one for each unit of a text
unfoldable pub measure_text : Reading → List ℕ → Face → List ℕ → Measure → List ℕ
measure_text r file face text m =
    face_text r file ++ (font_text face.metrics
    ++ (picture_text m ++ unit_lines (zip (units_by face.cmap (chars text)) m.characters)))

-- worked values: an A that begins in the margin and reaches below the base line, and a space
two_characters : Measure
two_characters = record {
  width = 20;
  height = 14;
  baseline = pos 11;
  ink = Some (record { left = negsuc 0; top = pos 2; right = pos 7; bottom = pos 12 });
  characters = record { glyph = 36; pen = pos 1; advance = 9; ink = Some (record { left = negsuc 0; top = pos 2; right = pos 7; bottom = pos 12 }) }
      ∷ record { glyph = 3; pen = pos 10; advance = 4; ink = None } ∷ [];
}

its_picture : picture_text two_characters ≡ codes "picture 20 14 baseline 11 ink -1 2 7 12\n"
unfolding two_characters digits
its_picture = refl

its_characters : unit_lines (zip (map plain_unit (codes "A ")) two_characters.characters)
    ≡ codes "U+0041 36 1 9 -1 2 7 12\nU+0020 3 10 4 none\n"
unfolding two_characters digits
its_characters = refl

a_unit_by_its_character : unit_lines (zip (selected_unit 65 0xFE00 ∷ []) two_characters.characters)
    ≡ codes "U+0041 36 1 9 -1 2 7 12\n"
unfolding two_characters digits
a_unit_by_its_character = refl

-- the headers of a collection of two fonts, and of a file with one
two_fonts : List ℕ
two_fonts = 116 ∷ 116 ∷ 99 ∷ 102 ∷ 0 ∷ 1 ∷ 0 ∷ 0 ∷ 0 ∷ 0 ∷ 0 ∷ 2 ∷ []

one_font : List ℕ
one_font = 0 ∷ 1 ∷ 0 ∷ 0 ∷ 0 ∷ 0 ∷ 0 ∷ 0 ∷ 0 ∷ 0 ∷ 0 ∷ 0 ∷ []

each_face : map (λ n. face_text (reading.Wide n) two_fonts) (0 ∷ 1 ∷ []) ≡ codes "face 0 2\n" ∷ codes "face 1 2\n" ∷ []
unfolding two_fonts digits
each_face = refl

alone_in_its_file : face_text (reading.Wide 0) one_font ≡ []
unfolding one_font
alone_in_its_file = refl

no_ink : picture_text (record two_characters { baseline = negsuc 3; ink = None })
    ≡ codes "picture 20 14 baseline -4 ink none\n"
unfolding two_characters digits
no_ink = refl
