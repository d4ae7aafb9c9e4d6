-- No part of the standard: the black pixels of a box. A column counts rightwards from the pen, a line upwards from the base
-- line.
use Rattle.std.specs.Prelude.{◌≡◌, refl, ℕ, ◌+◌, ◌*◌, ◌/◌, ◌%◌, ◌^◌, ◌<◌, Bool, true, false, ◌&&◌, nat_lt, ℤ, pos, negsuc, ◌+ℤ◌, ◌-ℤ◌, int_le, int_lt, unsigned_abs, List, [], ◌∷◌, map, slice_index}
use Rattle.std.specs.Ordering.{int_eq}
use Rattle.tt_bitmap.specs.Words.{in_word}

-- the rows of a box from the top line down, each as words of 56 columns
pub record BoxBitmap : Type 0 where
  pub left : ℤ
  pub top : ℤ
  pub width : ℕ
  pub height : ℕ
  pub words : List ℕ

-- a box that is near and small enough that no computed place wraps
pub record BoxFits (left top : ℤ) (width height : ℕ) : Type 0 where
  pub near_left : unsigned_abs left < 2 ^ 20
  pub near_top : unsigned_abs top < 2 ^ 20
  pub narrow : width < 2 ^ 20
  pub low : height < 2 ^ 20

-- the words of a row
abbrev pub strips : ℕ → ℕ
strips width = (width + 55) / 56

-- one of `count` columns from the first rightwards
abbrev pub is_column : ℤ → ℕ → ℤ → Bool
is_column first count c = int_le first c && int_lt c (first +ℤ pos count)

-- one of `count` lines from the first down
abbrev pub is_line : ℤ → ℕ → ℤ → Bool
is_line first count j = int_lt (first -ℤ pos count) j && int_le j first

-- a pixel lies in a box
abbrev pub has_box : ℤ → ℤ → ℕ → ℕ → ℤ → ℤ → Bool
has_box left top width height c j = is_column left width c && is_line top height j

abbrev pub has : BoxBitmap → ℤ → ℤ → Bool
has b c j = has_box b.left b.top b.width b.height c j

-- pixel n of words, 56 to a word
abbrev pub pixel : List ℕ → ℕ → Bool
pixel words n = in_word (slice_index words (n / 56)) (n % 56)

-- the number of a pixel, if it is column m of row r
abbrev pub number_at : ℕ → ℕ → ℕ → ℕ
number_at width r m = 56 * (strips width * r) + m

-- the number of a pixel of a box
abbrev pub number : BoxBitmap → ℤ → ℤ → ℕ
number b c j = number_at b.width (unsigned_abs (b.top -ℤ j)) (unsigned_abs (c -ℤ b.left))

-- a pixel is black; no pixel outside of the box is
abbrev pub is_black : BoxBitmap → ℤ → ℤ → Bool
is_black b c j = has b c j && pixel b.words (number b c j)

-- column c of a picture is black, by the first `count` columns of row r of words; the row begins at column `at`
abbrev pub shown_in : List ℕ → ℕ → ℤ → ℕ → ℕ → ℕ → Bool
shown_in words width at count r c = (int_le at (pos c) && nat_lt (unsigned_abs (pos c -ℤ at)) count)
    && pixel words (number_at width r (unsigned_abs (pos c -ℤ at)))

-- a pixel is one of the columns of a word that begins at column `low` of a line
abbrev pub in_line : ℤ → ℤ → ℕ → ℤ → ℤ → Bool
in_line line low word c j = int_eq j line && (int_le low c && in_word word (unsigned_abs (c -ℤ low)))

-- worked values: 58 columns from -1 on, two lines from 1 down. Black are the last column of the first word of line 1, the
-- first of its second word, and the last column of line 0
two_lines : BoxBitmap
two_lines = record { left = negsuc 0; top = pos 1; width = 58; height = 2; words = 2 ^ 8 ∷ 2 ^ 63 ∷ 0 ∷ 2 ^ 62 ∷ [] }

beside_the_border_of_two_words : map (λ c. is_black two_lines c (pos 1)) (pos 53 ∷ pos 54 ∷ pos 55 ∷ pos 56 ∷ []) ≡ false ∷ true ∷ true ∷ false ∷ []
unfolding two_lines
beside_the_border_of_two_words = refl

the_last_column : map (λ c. is_black two_lines c (pos 0)) (pos 55 ∷ pos 56 ∷ pos 57 ∷ []) ≡ false ∷ true ∷ false ∷ []
unfolding two_lines
the_last_column = refl

above_and_below_is_nothing : map (is_black two_lines (pos 56)) (pos 2 ∷ negsuc 0 ∷ []) ≡ false ∷ false ∷ []
unfolding two_lines
above_and_below_is_nothing = refl

its_corners_are_in_it : map (has two_lines (negsuc 0)) (pos 2 ∷ pos 1 ∷ pos 0 ∷ negsuc 0 ∷ []) ≡ false ∷ true ∷ true ∷ false ∷ []
unfolding two_lines
its_corners_are_in_it = refl

left_of_it : has two_lines (negsuc 1) (pos 1) ≡ false
unfolding two_lines
left_of_it = refl

-- painted from column 3 on, line 1 is black in columns 57 and 58
in_a_picture : map (shown_in two_lines.words 58 (pos 2) 58 0) (1 ∷ 56 ∷ 57 ∷ 58 ∷ 59 ∷ []) ≡ false ∷ false ∷ true ∷ true ∷ false ∷ []
unfolding two_lines
in_a_picture = refl

no_pixel_is_in_a_box_without_columns : has_box (pos 0) (pos 0) 0 1 (pos 0) (pos 0) ≡ false
no_pixel_is_in_a_box_without_columns = refl

nor_in_one_without_lines : has_box (pos 0) (pos 0) 1 0 (pos 0) (pos 0) ≡ false
nor_in_one_without_lines = refl

an_empty_box_has_no_words : strips 0 ≡ 0
an_empty_box_has_no_words = refl

a_word_is_full_at_56 : map strips (1 ∷ 56 ∷ 57 ∷ 112 ∷ []) ≡ 1 ∷ 1 ∷ 2 ∷ 2 ∷ []
a_word_is_full_at_56 = refl

-- columns -2 and 0 of line 1
from_column_minus_2 : map (λ c. in_line (pos 1) (negsuc 1) (2 ^ 63 + 2 ^ 61) c (pos 1)) (negsuc 2 ∷ negsuc 1 ∷ negsuc 0 ∷ pos 0 ∷ pos 1 ∷ [])
    ≡ false ∷ true ∷ false ∷ true ∷ false ∷ []
from_column_minus_2 = refl

in_no_other_line : map (in_line (pos 1) (negsuc 1) (2 ^ 63) (negsuc 1)) (pos 0 ∷ pos 1 ∷ pos 2 ∷ negsuc 0 ∷ []) ≡ false ∷ true ∷ false ∷ false ∷ []
in_no_other_line = refl
