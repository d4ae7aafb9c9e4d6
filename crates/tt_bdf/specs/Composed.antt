-- Adobe, "Glyph Bitmap Distribution Format (BDF) Specification", version 2.1: DWIDTH, BBX and BITMAP. The pixels of a
-- text that a reader of a file composes: each character stands at its origin, and DWIDTH leads to the next origin. A
-- column counts rightwards from an origin, a line upwards from the base line.
use Rattle.std.specs.Prelude.{◌≡◌, refl, ℕ, Bool, true, false, ◌&&◌, ◌||◌, ◌==◌, ℤ, pos, negsuc, ◌+ℤ◌, ◌-ℤ◌, int_le, int_lt, unsigned_abs, List, [], ◌∷◌, filter_map, find, map}
use Rattle.tt_core.specs.Bits.{bit}
use Rattle.tt_bdf.specs.Bitmap.{bitmap_of, row_at, row_bytes}
use Rattle.tt_bdf.specs.declared.character.BdfCharacter.{BdfCharacter}
use Rattle.tt_bdf.specs.Extent.{bottom_of}

-- a column and a line lie in a character's box, which BBX gives
abbrev pub lies_in_box : BdfCharacter → ℤ → ℤ → Bool
lies_in_box c column line =
    (int_le c.left column && int_lt column (c.left +ℤ pos c.width)) && (int_le (bottom_of c) line && int_lt line c.top)

-- bit x of row y of a character's bitmap, which BITMAP gives, the highest row first
abbrev pub bitmap_bit : List ℕ → BdfCharacter → ℕ → ℕ → Bool
bitmap_bit rows c x y = bit (row_at (bitmap_of rows c) (row_bytes c.width) y) x

-- a character is black at a column and a line
abbrev pub character_shows : List ℕ → BdfCharacter → ℤ → ℤ → Bool
character_shows rows c column line =
    lies_in_box c column line
    && bitmap_bit rows c (unsigned_abs (column -ℤ c.left)) (unsigned_abs ((c.top -ℤ pos 1) -ℤ line))

-- some characters, one after the other, are black there
abbrev pub composed : List ℕ → List BdfCharacter → ℤ → ℤ → Bool
composed rows [] column line = false
composed rows (c ∷ cs) column line = character_shows rows c column line || composed rows cs (column -ℤ pos c.advance) line

-- the characters of a text, by ENCODING. A code point that the file lacks is passed over
abbrev pub characters_in : List BdfCharacter → List ℕ → List BdfCharacter
characters_in file text = filter_map (λ x. find (λ (c : BdfCharacter). c.code == x) file) text

-- worked values: a square of two by two above the base line, and nine columns below it, left of their origin
abbrev a_square : BdfCharacter
a_square = record { code = 65; units = 256; advance = 4; left = pos 1; top = pos 2; width = 2; height = 2; at = 0 }

abbrev a_line : BdfCharacter
a_line = record { code = 66; units = 256; advance = 9; left = negsuc 0; top = pos 0; width = 9; height = 1; at = 2 }

abbrev both_rows : List ℕ
both_rows = 0xC0 ∷ 0x80 ∷ 0x80 ∷ 0x80 ∷ []

abbrev are_black : List BdfCharacter → ℤ → List ℤ → List Bool
are_black cs line columns = map (λ (c : ℤ). composed both_rows cs c line) columns

upper_row : are_black (a_square ∷ []) (pos 1) (pos 0 ∷ pos 1 ∷ pos 2 ∷ pos 3 ∷ []) ≡ false ∷ true ∷ true ∷ false ∷ []
upper_row = refl

lower_row : are_black (a_square ∷ []) (pos 0) (pos 0 ∷ pos 1 ∷ pos 2 ∷ pos 3 ∷ []) ≡ false ∷ true ∷ false ∷ false ∷ []
lower_row = refl

above_it : are_black (a_square ∷ []) (pos 2) (pos 1 ∷ []) ≡ false ∷ []
above_it = refl

-- four columns to the right
the_second_square : are_black (a_square ∷ a_square ∷ []) (pos 0) (pos 1 ∷ pos 4 ∷ pos 5 ∷ pos 6 ∷ [])
    ≡ true ∷ false ∷ true ∷ false ∷ []
the_second_square = refl

-- from column 3 to column 11
left_of_an_origin : are_black (a_square ∷ a_line ∷ []) (negsuc 0) (pos 2 ∷ pos 3 ∷ pos 4 ∷ pos 11 ∷ [])
    ≡ false ∷ true ∷ false ∷ true ∷ []
left_of_an_origin = refl

by_encoding : characters_in (a_square ∷ a_line ∷ []) (66 ∷ 67 ∷ 65 ∷ 66 ∷ []) ≡ a_line ∷ a_square ∷ a_line ∷ []
by_encoding = refl
