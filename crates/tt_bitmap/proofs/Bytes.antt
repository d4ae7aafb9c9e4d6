-- A word ORed to few bytes, one by one.
use Rattle.std.proofs.Common.{◌≡◌, ◌∙◌, sym, ap, refl, ℕ, ◌+◌, ◌-◌, ◌*◌, ◌/◌, ◌%◌, ◌<◌, ◌≤◌, Bool, true, false, ◌&&◌, ◌||◌, ◌==◌, nat_le, nat_lt, List, length, slice_index, slice_set, bit_or, arith, inl, inr, get_or-set_same, get_or-set_other}
use Rattle.std.specs.Int.{bit_at}
use Rattle.std.proofs.lemmas.Bool.{cases_eq}
use Rattle.std.proofs.lemmas.Bool.Decides.{nat_tests}
use Rattle.tt_core.specs.Bits.{bit}
use Rattle.tt_bitmap.specs.Words.{in_eight, in_word}
use Rattle.tt_bitmap.proofs.Bools.{or_false, or_off}
use Rattle.tt_bitmap.proofs.Turns.{or_bit}

pub byte_ored : (row : List ℕ) (byte mask k : ℕ) → byte < length row
    → bit (slice_set row byte (bit_or (slice_index row byte) mask)) k ≡ (bit row k || ((k / 8 == byte) && (bit_at mask (7 - k % 8) == 1)))
byte_ored row byte mask k within = elim (cases_eq (k / 8) byte) [
  | inl same ↦
      let value : slice_index (slice_set row byte (bit_or (slice_index row byte) mask)) byte ≡ bit_or (slice_index row byte) mask =
      rw get_or-set_same refl in
      let here : (byte == byte) ≡ true = grind (arith, nat_tests) in
      rw (same, value, here) (or_bit (slice_index row byte) mask (7 - k % 8))
  | inr other ↦
      let kept : bit (slice_set row byte (bit_or (slice_index row byte) mask)) k ≡ bit row k =
      rw get_or-set_other refl in
      let off : (k / 8 == byte) ≡ false = grind (arith, nat_tests) in
      rw (kept, off) (or_false (bit row k))
]

pub no_byte : (b s : Bool) (k : ℕ) → b ≡ (b || (nat_lt k (8 * 0) && s))
no_byte b s k = or_off b (nat_lt k (8 * 0)) s (grind (arith, nat_tests))

pub one_byte : (word i k mask : ℕ) (old row new : Bool) → i < 8
    → ((b : ℕ) → b < 8 → bit_at mask b ≡ bit_at word ((56 - 8 * i) + b))
    → row ≡ (old || (nat_lt k (8 * i) && in_word word k))
    → new ≡ (row || ((k / 8 == i) && (bit_at mask (7 - k % 8) == 1)))
    → new ≡ (old || (nat_lt k (8 * (i + 1)) && in_word word k))
one_byte word i k mask old row new within is_mask is_row is_new = elim (cases_eq (k / 8) i) [
  | inl here ↦
      let on : (k / 8 == i) ≡ true = grind (arith, nat_tests) in
      let before : nat_lt k (8 * i) ≡ false = grind (arith, nat_tests) in
      let after : nat_lt k (8 * (i + 1)) ≡ true = grind (arith, nat_tests) in
      let place : (56 - 8 * i) + (7 - k % 8) ≡ 63 - k = omega arith in
      let byte = is_mask (7 - k % 8) (omega arith) ∙ ap (λ x. bit_at word x) place in
      is_new ∙ rw (is_row, on, before, after, byte) (ap (λ (b : Bool). b || in_word word k) (sym (or_false old)))
  | inr other ↦
      let off : (k / 8 == i) ≡ false = grind (arith, nat_tests) in
      let same : nat_lt k (8 * i) ≡ nat_lt k (8 * (i + 1)) = grind (arith, nat_tests) in
      is_new ∙ rw (is_row, off, same) (sym (or_false (old || (nat_lt k (8 * (i + 1)) && in_word word k))))
]

-- in few bytes
pub few_shown : (start word k len : ℕ) → start ≡ 0 → len ≤ 8 → k < 8 * len → (nat_lt k (8 * len) && in_word word k) ≡ in_eight start word k
few_shown start word k len none few inside =
    let on : nat_lt k (8 * len) ≡ true = grind (arith, nat_tests) in
    let left : nat_le (8 * 0) k ≡ true = grind (arith, nat_tests) in
    let right : nat_lt k (8 * 0 + 64) ≡ true = grind (arith, nat_tests) in
    let at : k - 8 * 0 ≡ k = omega arith in
    rw (none, on, left, right, at) refl
