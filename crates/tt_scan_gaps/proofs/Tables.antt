-- Marks in a table, eight places a byte, and the places of numbers.
use Rattle.std.proofs.Common.{◌≡◌, refl, ℕ, ◌+◌, ◌*◌, ◌/◌, ◌%◌, ◌^◌, ◌<◌, true, List, length, slice_index, slice_set, bit_or, w8, ℤ, pos, negsuc, ◌+ℤ◌, ◌*ℤ◌, ◌≤ℤ◌, ◌<ℤ◌, unsigned_abs, inl, inr, get_or-set_same, get_or-set_other, arith}
use Rattle.std.specs.Int.{bit_at, int_div_euclid, int_rem_euclid}
use Rattle.std.proofs.lemmas.Bool.{cases_eq}
use Rattle.std.proofs.lemmas.Int.{ints}
use Rattle.std.proofs.lemmas.Nat.Bits.{bit_at_set_same, bit_at_set_other}
use Rattle.tt_scan_gaps.specs.BothWays.{has_mark}

-- a byte with one bit more
abbrev pub with_bit : ℕ → ℕ → ℕ
with_bit byte k = bit_or byte (1 * 2 ^ k % 256)

-- a table with one mark more
abbrev pub with_mark : List ℕ → ℕ → List ℕ
with_mark table at = slice_set table (at / 8) (with_bit (slice_index table (at / 8)) (at % 8))

pub marked : (table : List ℕ) (at : ℕ) → at / 8 < length table → has_mark (with_mark table at) at ≡ true
unfolding has_mark
marked table at within =
    let byte = slice_index table (at / 8) in
    let value : slice_index (with_mark table at) (at / 8) ≡ with_bit byte (at % 8) = rw get_or-set_same refl in
    let one : bit_at (with_bit byte (at % 8)) (at % 8) ≡ 1 = bit_at_set_same w8 byte (at % 8) (omega arith) in
    rw (value, one) refl

pub kept : (table : List ℕ) (at s : ℕ) → at / 8 < length table → has_mark table s ≡ true
    → has_mark (with_mark table at) s ≡ true
unfolding has_mark
kept table at s within has = elim (cases_eq (s / 8) (at / 8)) [
  | inl same ↦ elim (cases_eq (s % 8) (at % 8)) [
    | inl here ↦
        let is : s ≡ at = omega arith in
        rw is (marked table at within)
    | inr apart ↦
        let byte = slice_index table (at / 8) in
        let value : slice_index (with_mark table at) (at / 8) ≡ with_bit byte (at % 8) = rw get_or-set_same refl in
        let stays : bit_at (with_bit byte (at % 8)) (s % 8) ≡ bit_at byte (s % 8) =
        bit_at_set_other w8 byte (at % 8) (omega arith) (s % 8) apart in
        rw (same, value, stays) (rw same at has)
  ]
  | inr other ↦
      let value : slice_index (with_mark table at) (s / 8) ≡ slice_index table (s / 8) = rw get_or-set_other refl in
      rw value has
]

-- a number by its whole tables and what is left

pub record IsSplit (n : ℤ) : Type 0 where
  pub is : n ≡ pos 128 *ℤ int_div_euclid n (pos 128) +ℤ int_rem_euclid n (pos 128)
  pub low : pos 0 ≤ℤ int_rem_euclid n (pos 128)
  pub high : int_rem_euclid n (pos 128) <ℤ pos 128

pub split : (n : ℤ) → IsSplit n
split (pos a) = record { is = omega (arith, ints); low = omega (arith, ints); high = omega (arith, ints) }
split (negsuc a) = record { is = omega (arith, ints); low = omega (arith, ints); high = omega (arith, ints) }

pub slot_is : (a b : ℤ) → pos 0 ≤ℤ a → pos 0 ≤ℤ b
    → unsigned_abs (pos 128 *ℤ a +ℤ b) ≡ 128 * unsigned_abs a + unsigned_abs b
slot_is a b line gap = omega (arith, ints)
