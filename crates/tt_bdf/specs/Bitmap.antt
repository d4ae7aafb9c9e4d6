-- Adobe, "Glyph Bitmap Distribution Format (BDF) Specification", version 2.1: the lines of a character. Each row of its
-- bitmap is a line of two hexadecimal digits a byte. The letters are capital (profile).
use Rattle.std.specs.Prelude.{◌≡◌, refl, ℕ, ◌+◌, ◌-◌, ◌*◌, ◌/◌, ◌%◌, true, pos, negsuc, List, [], ◌∷◌, ◌++◌, length, replicate, flat_map, slice_range, codes, decimal}
use Rattle.std.specs.Fmt.{digit_glyph, digits, signed_decimal}
use Rattle.std.specs.List.{range_with_len}
use Rattle.tt_bdf.specs.Advances.{scalable_width}
use Rattle.tt_bdf.specs.declared.character.BdfCharacter.{BdfCharacter}
use Rattle.tt_bdf.specs.Extent.{bottom_of}

-- a byte as two digits
abbrev pub byte_digits : ℕ → List ℕ
byte_digits b = digit_glyph true (b / 16) ∷ digit_glyph true (b % 16) ∷ []

-- the line of a row
abbrev pub row_text : List ℕ → List ℕ
row_text row = flat_map byte_digits row ++ codes "\n"

-- the bytes of a row of pixels
abbrev pub row_bytes : ℕ → ℕ
row_bytes width = (width + 7) / 8

-- row i of a bitmap of `stride` bytes a row
abbrev pub row_at : List ℕ → ℕ → ℕ → List ℕ
row_at bitmap stride i = slice_range bitmap (stride * i) (stride * (i + 1))

-- the lines of the rows of a bitmap
abbrev pub rows_text : List ℕ → ℕ → ℕ → List ℕ
rows_text bitmap stride height = flat_map (λ i. row_text (row_at bitmap stride i)) (range_with_len 0 height)

-- the bytes of a character's bitmap
abbrev pub bitmap_bytes : BdfCharacter → ℕ
bitmap_bytes c = row_bytes c.width * c.height

-- a character's bitmap among the bytes of all rows
abbrev pub bitmap_of : List ℕ → BdfCharacter → List ℕ
bitmap_of rows c = slice_range rows c.at (c.at + bitmap_bytes c)

-- a code point in capital hexadecimal, with zeros in front to make at least four digits
abbrev pub at_least_four : List ℕ → List ℕ
at_least_four ds = replicate (4 - length ds) 48 ++ ds

abbrev pub code_point : ℕ → List ℕ
code_point c = at_least_four (digits 16 true c)

-- the lines of a character before its rows
abbrev pub character_head : ℕ → BdfCharacter → List ℕ
character_head em c =
    codes "STARTCHAR U+" ++ (code_point c.code
    ++ (codes "\nENCODING " ++ (decimal c.code
    ++ (codes "\nSWIDTH " ++ (signed_decimal (scalable_width c.units em)
    ++ (codes " 0\nDWIDTH " ++ (decimal c.advance
    ++ (codes " 0\nBBX " ++ (decimal c.width
    ++ (codes " " ++ (decimal c.height
    ++ (codes " " ++ (signed_decimal c.left
    ++ (codes " " ++ (signed_decimal (bottom_of c) ++ codes "\nBITMAP\n")))))))))))))))

-- the lines of a character
abbrev pub character_text : ℕ → List ℕ → BdfCharacter → List ℕ
character_text em rows c =
    character_head em c ++ (rows_text (bitmap_of rows c) (row_bytes c.width) c.height ++ codes "ENDCHAR\n")

-- worked values: a square of two by two, and a blank
abbrev a_square : BdfCharacter
a_square = record { code = 65; units = 256; advance = 4; left = pos 1; top = pos 2; width = 2; height = 2; at = 0 }

abbrev a_blank : BdfCharacter
a_blank = record { code = 66; units = 256; advance = 4; left = pos 0; top = pos 0; width = 0; height = 0; at = 2 }

its_lines : character_text 1024 (0xC0 ∷ 0xC0 ∷ []) a_square
    ≡ codes "STARTCHAR U+0041\nENCODING 65\nSWIDTH 250 0\nDWIDTH 4 0\nBBX 2 2 1 0\nBITMAP\nC0\nC0\nENDCHAR\n"
unfolding digits
its_lines = refl

-- no empty line stands between
blank_lines : character_text 1024 (0xC0 ∷ 0xC0 ∷ []) a_blank
    ≡ codes "STARTCHAR U+0042\nENCODING 66\nSWIDTH 250 0\nDWIDTH 4 0\nBBX 0 0 0 0\nBITMAP\nENDCHAR\n"
unfolding digits
blank_lines = refl

-- nine columns and two rows of an emoji, left of its pen and below the base line: the second bitmap of three bytes and four
two_bytes_a_row : character_text 1000 (1 ∷ 2 ∷ 3 ∷ 0xFF ∷ 0x80 ∷ 0x0A ∷ 0 ∷ [])
    (record { code = 0x1F600; units = 601; advance = 10; left = negsuc 1; top = negsuc 0; width = 9; height = 2; at = 3 })
    ≡ codes "STARTCHAR U+1F600\nENCODING 128512\nSWIDTH 601 0\nDWIDTH 10 0\nBBX 9 2 -2 -3\nBITMAP\nFF80\n0A00\nENDCHAR\n"
unfolding digits
two_bytes_a_row = refl
