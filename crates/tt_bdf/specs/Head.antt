-- Adobe, "Glyph Bitmap Distribution Format (BDF) Specification", version 2.1: the lines of a font. X Consortium, "X
-- Logical Font Description Conventions": the font's name and its properties. The resolution is 72 dots per inch, so a
-- point is a pixel (profile). No line has a date or a program (profile).
use Rattle.std.specs.Prelude.{ℕ, ◌*◌, Bool, true, false, ◌-ℤ◌, List, [], ◌++◌, length, codes, decimal, Option, Some, None}
use Rattle.std.specs.Fmt.{signed_decimal}
use Rattle.tt_bdf.specs.Advances.{average_width, default_character, is_monospaced}
use Rattle.tt_bdf.specs.declared.character.BdfCharacter.{BdfCharacter}
use Rattle.tt_bdf.specs.declared.extent.InkExtent.{InkExtent}
use Rattle.tt_bdf.specs.declared.spacing.Spacing.{Spacing}
use Rattle.tt_bdf.specs.Extent.{joined_from}
use Rattle.tt_bdf.specs.Facts.{FontFacts}

abbrev pub weight_name : Bool → List ℕ
weight_name true = codes "Bold"
weight_name false = codes "Medium"

abbrev pub slant : Bool → List ℕ
slant true = codes "I"
slant false = codes "R"

abbrev pub spacing_name : Bool → List ℕ
spacing_name true = codes "M"
spacing_name false = codes "P"

abbrev pub spacing_of : List BdfCharacter → Spacing
spacing_of cs = record { monospaced = is_monospaced cs; average = average_width cs }

-- the family, the weight and the slant, as the name of the font has them
abbrev pub style_text : FontFacts → List ℕ
style_text f = f.family ++ (codes "-" ++ (weight_name f.bold ++ (codes "-" ++ slant f.italic)))

-- the name of the font, by XLFD
abbrev pub name_text : FontFacts → Spacing → List ℕ
name_text f s =
    codes "FONT -misc-" ++ (style_text f
    ++ (codes "-Normal--" ++ (decimal f.size
    ++ (codes "-" ++ (decimal (10 * f.size)
    ++ (codes "-72-72-" ++ (spacing_name s.monospaced
    ++ (codes "-" ++ (signed_decimal s.average ++ codes "-ISO10646-1\n")))))))))

-- `FONTBOUNDINGBOX <width> <height> <left> <bottom>`
abbrev pub extent_text : InkExtent → List ℕ
extent_text e =
    codes "FONTBOUNDINGBOX " ++ (signed_decimal (e.right -ℤ e.left)
    ++ (codes " " ++ (signed_decimal (e.top -ℤ e.bottom)
    ++ (codes " " ++ (signed_decimal e.left
    ++ (codes " " ++ (signed_decimal e.bottom ++ codes "\n")))))))

abbrev pub box_text : Option InkExtent → List ℕ
box_text None = codes "FONTBOUNDINGBOX 0 0 0 0\n"
box_text (Some e) = extent_text e

-- the number of lines up to ENDPROPERTIES
abbrev pub property_count : Option ℕ → ℕ
property_count None = 16
property_count (Some d) = 17

abbrev pub names_text : FontFacts → ℕ → List ℕ
names_text f count =
    codes "STARTPROPERTIES " ++ (decimal count
    ++ (codes "\nFOUNDRY \"misc\"\nFAMILY_NAME \"" ++ (f.family
    ++ (codes "\"\nWEIGHT_NAME \"" ++ (weight_name f.bold
    ++ (codes "\"\nSLANT \"" ++ (slant f.italic ++ codes "\"\nSETWIDTH_NAME \"Normal\"\nADD_STYLE_NAME \"\"\n")))))))

abbrev pub sizes_text : FontFacts → Spacing → List ℕ
sizes_text f s =
    codes "PIXEL_SIZE " ++ (decimal f.size
    ++ (codes "\nPOINT_SIZE " ++ (decimal (10 * f.size)
    ++ (codes "\nRESOLUTION_X 72\nRESOLUTION_Y 72\nSPACING \"" ++ (spacing_name s.monospaced
    ++ (codes "\"\nAVERAGE_WIDTH " ++ (signed_decimal s.average
    ++ codes "\nCHARSET_REGISTRY \"ISO10646\"\nCHARSET_ENCODING \"1\"\n")))))))

abbrev pub lines_text : FontFacts → List ℕ
lines_text f =
    codes "FONT_ASCENT " ++ (signed_decimal f.rise ++ (codes "\nFONT_DESCENT " ++ (signed_decimal f.depth ++ codes "\n")))

abbrev pub default_text : Option ℕ → List ℕ
default_text None = []
default_text (Some d) = codes "DEFAULT_CHAR " ++ (decimal d ++ codes "\n")

abbrev pub first_text : FontFacts → Spacing → List ℕ
first_text f s = codes "STARTFONT 2.1\n" ++ (name_text f s ++ (codes "SIZE " ++ (decimal f.size ++ codes " 72 72\n")))

abbrev pub properties_text : FontFacts → Spacing → Option ℕ → List ℕ
properties_text f s d =
    names_text f (property_count d) ++ (sizes_text f s ++ (lines_text f ++ (default_text d ++ codes "ENDPROPERTIES\n")))

abbrev pub count_text : ℕ → List ℕ
count_text n = codes "CHARS " ++ (decimal n ++ codes "\n")

-- the lines of a font before its characters
abbrev pub head_text : FontFacts → List BdfCharacter → List ℕ
head_text f cs =
    first_text f (spacing_of cs) ++ (box_text (joined_from None cs)
    ++ (properties_text f (spacing_of cs) (default_character cs) ++ count_text (length cs)))
