-- No part of the standard: columns in words, the leftmost in the highest bit, and a word at its place in a row of bytes.
use Rattle.std.specs.Prelude.{◌≡◌, refl, ℕ, ◌+◌, ◌-◌, ◌*◌, ◌^◌, Bool, true, false, ◌&&◌, ◌==◌, nat_le, nat_lt, ℤ, pos, negsuc, ◌+ℤ◌, ◌-ℤ◌, int_le, unsigned_abs, [], ◌∷◌, map, bit_and}
use Rattle.std.specs.Int.{bit_at, rotate_right, w64}
use Rattle.tt_bitmap.specs.declared.place.WordPlace.{WordPlace}

-- column j of a word is black
abbrev pub in_word : ℕ → ℕ → Bool
in_word word j = bit_at word (63 - j) == 1

-- column c of a row is black, and is one of a word's first `room`; the word begins at column `at`, maybe before the row
abbrev pub in_strip : ℤ → ℕ → ℕ → ℕ → Bool
in_strip at room word c =
    (int_le at (pos c) && nat_lt (unsigned_abs (pos c -ℤ at)) room) && in_word word (unsigned_abs (pos c -ℤ at))

-- column c of a row is black, by a word whose 64 columns are those of eight bytes from byte `start` on
abbrev pub in_eight : ℕ → ℕ → ℕ → Bool
in_eight start word c = (nat_le (8 * start) c && nat_lt c (8 * start + 64)) && in_word word (c - 8 * start)

-- the columns of a word that a mask has, turned to the right
abbrev pub turned_by : ℕ → ℕ → ℕ → ℕ
turned_by mask turn word = rotate_right w64 (bit_and word mask) turn

-- column c of a row is black, by a word at its place
abbrev pub stamped : WordPlace → ℕ → ℕ → Bool
stamped p word c = in_eight p.start (turned_by p.mask p.turn word) c

-- a row of `width` pixels in at least eight bytes has all of some columns from column `at` on, which one word has
abbrev pub is_whole : ℤ → ℕ → ℕ → ℕ → Bool
is_whole at columns width bytes =
    (nat_lt 0 columns && nat_le columns 56) && (nat_le 8 bytes && (int_le (pos 0) at && int_le (at +ℤ pos columns) (pos width)))

-- worked values: columns 0, 1 and 55 of a word
ends : ℕ
ends = 2 ^ 63 + 2 ^ 62 + 2 ^ 8

its_columns : map (in_word ends) (0 ∷ 1 ∷ 2 ∷ 54 ∷ 55 ∷ []) ≡ true ∷ true ∷ false ∷ false ∷ true ∷ []
unfolding ends
its_columns = refl

-- it begins one column before a row
from_the_left : map (in_strip (negsuc 0) 56 ends) (0 ∷ 1 ∷ 53 ∷ 54 ∷ 55 ∷ []) ≡ true ∷ false ∷ false ∷ true ∷ false ∷ []
unfolding ends
from_the_left = refl

-- its last column is not among its first 55
with_less_room : in_strip (pos 0) 55 ends 55 ≡ false
unfolding ends
with_less_room = refl

with_no_room : in_strip (pos 0) 0 ends 0 ≡ false
unfolding ends
with_no_room = refl

-- turned right by 3 it begins at column 3 of eight bytes; column 58 is black, and the first byte of a row has no part in it
three_to_the_right : map (in_eight 1 (turned_by (2 ^ 64 - 1) 3 ends)) (3 ∷ 10 ∷ 11 ∷ 12 ∷ 13 ∷ 66 ∷ []) ≡ false ∷ false ∷ true ∷ true ∷ false ∷ true ∷ []
unfolding ends
three_to_the_right = refl

-- turned right by 63 it begins one column earlier; the mask lacks its first column
one_to_the_left : map (in_eight 0 (turned_by (2 ^ 63 - 1) 63 ends)) (0 ∷ 1 ∷ 54 ∷ 63 ∷ []) ≡ true ∷ false ∷ true ∷ false ∷ []
unfolding ends
one_to_the_left = refl

-- nine columns in a row of 70 pixels
up_to_both_ends_of_a_row : map (λ at. is_whole at 9 70 9) (negsuc 0 ∷ pos 0 ∷ pos 61 ∷ pos 62 ∷ []) ≡ false ∷ true ∷ true ∷ false ∷ []
up_to_both_ends_of_a_row = refl

at_least_a_column_and_at_most_a_word : map (λ columns. is_whole (pos 0) columns 70 9) (0 ∷ 1 ∷ 56 ∷ 57 ∷ []) ≡ false ∷ true ∷ true ∷ false ∷ []
at_least_a_column_and_at_most_a_word = refl

not_in_seven_bytes : map (is_whole (pos 0) 9 56) (7 ∷ 8 ∷ []) ≡ false ∷ true ∷ []
not_in_seven_bytes = refl
