-- Netpbm, "PBM", format P4: the pixels of a row of bytes, the leftmost in the highest bit of the first byte.
use Rattle.std.specs.Prelude.{◌≡◌, refl, ℕ, ◌+◌, ◌-◌, ◌/◌, ◌%◌, Bool, true, false, ◌==◌, List, [], ◌∷◌, slice_index}
use Rattle.std.specs.Int.{bit_at}

-- whether pixel k of a row is black; there is no black pixel past the last byte
abbrev pub bit : List ℕ → ℕ → Bool
bit row k = bit_at (slice_index row (k / 8)) (7 - k % 8) == 1

-- bytes of a row of w pixels
abbrev pub stride : ℕ → ℕ
stride w = (w + 7) / 8

-- worked values
a_first_column : bit (0x80 ∷ []) 0 ≡ true
a_first_column = refl

a_tenth_column : bit (0x00 ∷ 0x40 ∷ []) 9 ≡ true
a_tenth_column = refl

past_the_row : bit (0xFF ∷ []) 8 ≡ false
past_the_row = refl
