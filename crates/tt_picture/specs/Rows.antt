-- The bytes of a picture's rows, from the top (Netpbm, "PBM", format P4). A byte has 8 pixels, the leftmost in the
-- highest bit, with 1 for black. The bits after a row's last pixel are 0 (profile).
use Rattle.std.specs.Prelude.{◌≡◌, refl, ℕ, zero, suc, ◌+◌, ◌*◌, ◌/◌, ◌%◌, ◌^◌, Bool, true, false, ◌&&◌, nat_lt, if◌then◌else◌, List, [], ◌∷◌, map}
use Rattle.std.specs.List.{range_with_len, sum_by}
use Rattle.std.proofs.Common.{arith}
use Rattle.tt_core.specs.Bits.{stride}

-- n columns as the binary digits of a number, the first column highest, 1 for black
abbrev pub columns : ℕ → (ℕ → Bool) → ℕ
columns zero is_black = 0
columns (suc n) is_black = 2 * columns n is_black + (if is_black n then 1 else 0)

weighed : (b : Bool) (n : ℕ) → (if b then n else 0) ≡ n * (if b then 1 else 0)
weighed true n = omega arith
weighed false n = omega arith

-- a byte is the sum of 128 / 2^j over its black columns j
pub byte_sum : (is_black : ℕ → Bool) → columns 8 is_black ≡ sum_by (λ j. if is_black j then 128 / 2 ^ j else 0)
    (range_with_len 0 8)
byte_sum is_black = omega
    (arith, weighed (is_black 0) 128, weighed (is_black 1) 64, weighed (is_black 2) 32, weighed (is_black 3) 16, weighed (is_black 4) 8, weighed (is_black 5) 4, weighed (is_black 6) 2)

-- whether column c is within the width and black in row r
abbrev pub shows : ℕ → (ℕ → ℕ → Bool) → ℕ → ℕ → Bool
shows w black r c = nat_lt c w && black c r

-- byte k of row r: columns 8k to 8k + 7
abbrev pub byte_of : ℕ → (ℕ → ℕ → Bool) → ℕ → ℕ → ℕ
byte_of w black r k = columns 8 (λ j. shows w black r (8 * k + j))

-- byte i of all rows in sequence
abbrev pub byte_at : ℕ → (ℕ → ℕ → Bool) → ℕ → ℕ
byte_at w black i = byte_of w black (i / stride w) (i % stride w)

-- `len` bytes of the rows, from byte `from` on
abbrev pub rows : ℕ → (ℕ → ℕ → Bool) → ℕ → ℕ → List ℕ
rows w black from len = map (byte_at w black) (range_with_len from len)

-- worked value: the ninth column is the highest bit of a second byte, and the other bits of that byte are 0
nine_columns : rows 9 (λ c r. true) 0 4 ≡ 0xFF ∷ 0x80 ∷ 0xFF ∷ 0x80 ∷ []
nine_columns = refl
