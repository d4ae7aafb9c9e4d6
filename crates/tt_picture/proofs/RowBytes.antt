-- The bytes of a picture's rows.
use Rattle.std.specs.Prelude.{◌≡◌, refl, ℕ, zero, suc, ◌+◌, ◌*◌, ◌/◌, ◌%◌, ◌-◌, ◌^◌, ◌<◌, ◌≤◌, Bool, true, false, ◌==◌, if◌then◌else◌, ◌∷◌, ◌++◌, map, length, take, slice_index, replicate}
use Rattle.std.specs.List.{range_with_len}
use Rattle.std.specs.Int.{bit_at}
use Rattle.std.proofs.Common.{arith, sym, ◌∙◌, ap, add-zero, zero-add, add-one}
use Rattle.std.proofs.lemmas.Bool.Decides.{nat_tests}
use Rattle.std.proofs.lemmas.Grind.{pow_more}
use Rattle.std.proofs.lemmas.List.{map-append}
use Rattle.std.proofs.lemmas.List.FromFn.{length-map-range_with_len, take-map-range_with_len}
use Rattle.std.proofs.lemmas.Nat.Bits.{bit_at_lowest, bit_at-suc, bit_at-lt, bit_at-zero, same_from_bits_below}
use Rattle.tt_picture.specs.Rows.{columns, byte_at, rows}
use Rattle.tt_core.specs.Bits.{bit}

-- ---- splitting

range_more : (from m n : ℕ) → range_with_len from (m + n) ≡ range_with_len from m ++ range_with_len (from + m) n
range_more from zero n = rw (zero-add, add-zero) refl
range_more from (suc m) n =
    let longer : suc m + n ≡ suc (m + n) = omega arith in
    let later : from + suc m ≡ from + 1 + m = omega arith in
    rw (longer, later) (ap (λ ns. from ∷ ns) (range_more (from + 1) m n))

pub rows_more : (w : ℕ) (black : ℕ → ℕ → Bool) (from m n : ℕ) → rows w black from (m + n) ≡ rows w black from m
    ++ rows w black (from + m) n
rows_more w black from m n = ap (map (byte_at w black)) (range_more from m n) ∙ map-append (byte_at w black)
    (range_with_len from m) (range_with_len (from + m) n)

pub length-rows : (w : ℕ) (black : ℕ → ℕ → Bool) (from n : ℕ) → length (rows w black from n) ≡ n
length-rows w black from n = length-map-range_with_len (byte_at w black) from n

-- the first bytes of the rows are rows
pub take-rows : (w : ℕ) (black : ℕ → ℕ → Bool) (from n k : ℕ) → k ≤ n → take k (rows w black from n)
    ≡ rows w black from k
take-rows w black from n k within = take-map-range_with_len (byte_at w black) from n k within

-- ---- bits

if_small : (b : Bool) → (if b then 1 else 0) < 2
if_small true = omega arith
if_small false = omega arith

columns_below : (n : ℕ) (is_black : ℕ → Bool) → columns n is_black < 2 ^ n
columns_below zero is_black = omega arith
columns_below (suc n) is_black =
    let below = columns_below n is_black in
    let small = if_small (is_black n) in
    let twice : 2 ^ suc n ≡ 2 * 2 ^ n = omega (arith, pow_more 2 n, add-one n) in
    omega arith

pub columns_bit : (n i : ℕ) (is_black : ℕ → Bool) → i < n → bit_at (columns n is_black) i
    ≡ (if is_black (n - 1 - i) then 1 else 0)
columns_bit zero i is_black within = absurd (omega arith)
columns_bit (suc n) zero is_black within =
    let small = if_small (is_black n) in
    let last : suc n - 1 - 0 ≡ n = omega arith in
    let low : (2 * columns n is_black + (if is_black n then 1 else 0)) % 2 ≡ (if is_black n then 1 else 0) =
    omega arith in
    rw (bit_at_lowest, last) low
columns_bit (suc n) (suc i) is_black within =
    let small = if_small (is_black n) in
    let earlier : suc n - 1 - suc i ≡ n - 1 - i = omega arith in
    let half : (2 * columns n is_black + (if is_black n then 1 else 0)) / 2 ≡ columns n is_black = omega arith in
    rw (bit_at-suc, half, earlier) (columns_bit n i is_black (omega arith))

by_test : (n : ℕ) (b : Bool) → n < 2 → (n == 1) ≡ b → n ≡ (if b then 1 else 0)
by_test n true small holds = grind (arith, nat_tests)
by_test n false small fails = grind (arith, nat_tests)

pub byte_is : (b : ℕ) (is_black : ℕ → Bool) → b < 256 → ((j : ℕ) → j < 8 → (bit_at b (7 - j) == 1) ≡ is_black j) → b
    ≡ columns 8 is_black
byte_is b is_black small same =
    same_from_bits_below 8 b (columns 8 is_black) small (columns_below 8 is_black) (λ i within.
    let place : 7 - (7 - i) ≡ i = omega arith in
    let test : (bit_at b i == 1) ≡ is_black (7 - i) = rw place at (same (7 - i) (omega arith)) in
    by_test (bit_at b i) (is_black (7 - i)) (bit_at-lt b i) test ∙ sym (columns_bit 8 i is_black within))

zero_everywhere : (n i : ℕ) → slice_index (replicate n 0) i ≡ 0
zero_everywhere zero i = refl
zero_everywhere (suc n) zero = refl
zero_everywhere (suc n) (suc i) = zero_everywhere n i

-- a row of zeros is white
pub bit-replicate_zero : (n k : ℕ) → bit (replicate n 0) k ≡ false
bit-replicate_zero n k = rw (zero_everywhere n (k / 8), bit_at-zero) refl
