-- Columns of a row of bytes made black.
use Rattle.std.proofs.Common.{◌≡◌, refl, ℕ, ◌+◌, ◌-◌, ◌*◌, ◌/◌, ◌%◌, ◌^◌, ◌<◌, ◌≤◌, Bool, true, false, ◌&&◌, ◌||◌, ◌==◌, nat_le, nat_lt, List, length, slice_index, slice_set, bit_or, arith, inl, inr, get_or-set_same, get_or-set_other}
use Rattle.std.specs.Int.{bit_at}
use Rattle.std.proofs.Math.Pow.{pow_mono}
use Rattle.std.proofs.lemmas.Bool.Decides.{nat_tests}
use Rattle.std.proofs.lemmas.Bool.{cases_eq, cases_lt}
use Rattle.std.proofs.lemmas.Nat.{pow_pos}
use Rattle.std.proofs.lemmas.Nat.Bits.{bit_at_or, bit_at-lt, bit_at_ones, ones_shr, bit_at_mask_inside, bit_at_mask_below, bit_at_mask_above}
use Rattle.tt_core.specs.Bits.{bit}

-- the columns of a mask

pub mask_is : (from to : ℕ) → from ≤ to → to ≤ 8 → 255 / 2 ^ from - 255 / 2 ^ to ≡ 2 ^ (8 - from) - 2 ^ (8 - to)
mask_is from to order fits =
    let one : 255 / 2 ^ from ≡ 2 ^ (8 - from) - 1 = ones_shr 8 from (omega arith) in
    let two : 255 / 2 ^ to ≡ 2 ^ (8 - to) - 1 = ones_shr 8 to fits in
    rw (one, two) (omega (arith, pow_pos (8 - from), pow_pos (8 - to)))

pub mask_order : (from to : ℕ) → from ≤ to → to ≤ 8 → 255 / 2 ^ to ≤ 255 / 2 ^ from
mask_order from to order fits =
    let one : 255 / 2 ^ from ≡ 2 ^ (8 - from) - 1 = ones_shr 8 from (omega arith) in
    let two : 255 / 2 ^ to ≡ 2 ^ (8 - to) - 1 = ones_shr 8 to fits in
    let more : 2 ^ (8 - to) ≤ 2 ^ (8 - from) = pow_mono (omega arith) in
    omega arith

pub mask_bit : (from to j : ℕ) → from ≤ to → to ≤ 8 → j < 8
    → (bit_at (2 ^ (8 - from) - 2 ^ (8 - to)) (7 - j) == 1) ≡ (nat_le from j && nat_lt j to)
mask_bit from to j order fits within = elim (cases_lt (7 - j) (8 - from)) [
  | inl right ↦ elim (cases_lt (7 - j) (8 - to)) [
    | inl past ↦ let none = bit_at_mask_below (8 - to) (8 - from) (7 - j) past in grind (arith, nat_tests)
    | inr inside ↦ let one = bit_at_mask_inside (8 - to) (8 - from) (7 - j) inside right in grind (arith, nat_tests)
  ]
  | inr left ↦ let none = bit_at_mask_above (8 - to) (8 - from) (7 - j) left in grind (arith, nat_tests)
]

-- one byte of a row

pub or_bit : (a b i : ℕ) → (bit_at (bit_or a b) i == 1) ≡ ((bit_at a i == 1) || (bit_at b i == 1))
or_bit a b i =
    let both = bit_at_or a b i in let one = bit_at-lt a i in let two = bit_at-lt b i in grind (arith, nat_tests)

pub byte_filled : (row : List ℕ) (byte from to mask k : ℕ) → byte < length row → to ≤ 8
    → ((j : ℕ) → j < 8 → (bit_at mask (7 - j) == 1) ≡ (nat_le from j && nat_lt j to))
    → bit (slice_set row byte (bit_or (slice_index row byte) mask)) k ≡ (bit row k || (nat_le (8 * byte + from) k && nat_lt k (8 * byte + to)))
byte_filled row byte from to mask k within fits is = elim (cases_eq (k / 8) byte) [
  | inl same ↦
      let value : slice_index (slice_set row byte (bit_or (slice_index row byte) mask)) byte ≡ bit_or (slice_index row byte) mask =
      rw get_or-set_same refl in
      let columns = is (k % 8) (omega arith) in
      rw (same, value, or_bit (slice_index row byte) mask (7 - k % 8)) (grind (arith, nat_tests))
  | inr other ↦
      let kept : bit (slice_set row byte (bit_or (slice_index row byte) mask)) k ≡ bit row k =
      rw get_or-set_other refl in
      rw kept (grind (arith, nat_tests))
]

-- one more whole byte
pub byte_whole : (row : List ℕ) (byte k : ℕ) → byte < length row
    → bit (slice_set row byte 255) k ≡ (bit row k || (nat_le (8 * byte) k && nat_lt k (8 * (byte + 1))))
byte_whole row byte k within = elim (cases_eq (k / 8) byte) [
  | inl same ↦
      let value : slice_index (slice_set row byte 255) byte ≡ 255 = rw get_or-set_same refl in
      let black : bit_at 255 (7 - k % 8) ≡ 1 = bit_at_ones 8 (7 - k % 8) (omega arith) in
      rw (same, value, black) (grind (arith, nat_tests))
  | inr other ↦
      let kept : bit (slice_set row byte 255) k ≡ bit row k = rw get_or-set_other refl in
      rw kept (grind (arith, nat_tests))
]

-- an empty range of columns has none
pub nothing_more : (b : Bool) (at k : ℕ) → b ≡ (b || (nat_le at k && nat_lt k at))
nothing_more true at k = refl
nothing_more false at k = grind (arith, nat_tests)

pub one_byte_more : (old row : List ℕ) (from byte k : ℕ) → byte < length row → from ≤ byte
    → bit row k ≡ (bit old k || (nat_le (8 * from) k && nat_lt k (8 * byte)))
    → bit (slice_set row byte 255) k ≡ (bit old k || (nat_le (8 * from) k && nat_lt k (8 * (byte + 1))))
one_byte_more old row from byte k within order so_far =
    rw (byte_whole row byte k within, so_far) (grind (arith, nat_tests))
