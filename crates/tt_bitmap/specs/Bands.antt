-- No part of the standard: rows of bytes one after the other, where more pixels are black.
use Rattle.std.specs.Prelude.{◌≡◌, ◌≢◌, refl, ℕ, ◌+◌, ◌*◌, ◌<◌, Bool, true, false, ◌||◌, List, [], ◌∷◌, length, map}
use Rattle.tt_core.specs.Bits.{bit}

-- the bits of some columns are set, and all other bits are unchanged
pub record IsBlackened (black : ℕ → Bool) (old new : List ℕ) : Type 0 where
  pub bits : (k : ℕ) → bit new k ≡ (bit old k || black k)
  pub len : length new ≡ length old

-- column c of row i is black; a row has this many bytes
abbrev pub column : ℕ → List ℕ → ℕ → ℕ → Bool
column bytes band i c = bit band (8 * (bytes * i) + c)

-- columns of row i are set, and all other columns are unchanged
pub record IsRowBlackened (bytes i : ℕ) (black : ℕ → Bool) (old new : List ℕ) : Type 0 where
  pub row : (c : ℕ) → c < 8 * bytes → column bytes new i c ≡ (column bytes old i c || black c)
  pub others : (j c : ℕ) → j ≢ i → c < 8 * bytes → column bytes new j c ≡ column bytes old j c
  pub len : length new ≡ length old

-- columns of this many rows are set, and all other columns of these rows are unchanged
pub record IsBandBlackened (bytes rows : ℕ) (black : ℕ → ℕ → Bool) (old new : List ℕ) : Type 0 where
  pub columns : (i c : ℕ) → i < rows → c < 8 * bytes → column bytes new i c ≡ (column bytes old i c || black i c)
  pub len : length new ≡ length old

-- worked value: of two rows of two bytes the second is black in its tenth column
a_tenth_column : column 2 (0x00 ∷ 0x00 ∷ 0x00 ∷ 0x40 ∷ []) 1 9 ≡ true
a_tenth_column = refl

-- of three rows of one byte the second is black in its first column, the third in its last
in_rows_of_one_byte : map (λ i. column 1 (0x00 ∷ 0x80 ∷ 0x01 ∷ []) i 7) (0 ∷ 1 ∷ 2 ∷ 3 ∷ []) ≡ false ∷ false ∷ true ∷ false ∷ []
in_rows_of_one_byte = refl

their_first_column : map (λ i. column 1 (0x00 ∷ 0x80 ∷ 0x01 ∷ []) i 0) (0 ∷ 1 ∷ 2 ∷ []) ≡ false ∷ true ∷ false ∷ []
their_first_column = refl
