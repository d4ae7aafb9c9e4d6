-- Pixels of words made black, one word more at a time.
use Rattle.std.proofs.Common.{◌≡◌, ◌∙◌, sym, ap, refl, ℕ, ◌+◌, ◌-◌, ◌*◌, ◌/◌, ◌%◌, ◌<◌, ◌≤◌, Bool, true, false, ◌&&◌, ◌||◌, ◌==◌, nat_le, nat_lt, min, List, length, slice_index, slice_set, bit_or, arith, inl, inr, get_or-set_same, get_or-set_other}
use Rattle.std.proofs.lemmas.Bool.{cases_eq}
use Rattle.std.proofs.lemmas.Bool.Decides.{nat_tests}
use Rattle.tt_bitmap.specs.Bitmaps.{pixel}
use Rattle.tt_bitmap.specs.Words.{in_word}
use Rattle.tt_bitmap.proofs.Bools.{never, or_false}
use Rattle.tt_bitmap.proofs.Turns.{or_bit}

pub word_ored : (words : List ℕ) (at mask i : ℕ) → at < length words
    → pixel (slice_set words at (bit_or (slice_index words at) mask)) i ≡ (pixel words i || ((i / 56 == at) && in_word mask (i % 56)))
word_ored words at mask i within = elim (cases_eq (i / 56) at) [
  | inl same ↦
      let value : slice_index (slice_set words at (bit_or (slice_index words at) mask)) at ≡ bit_or (slice_index words at) mask =
      rw get_or-set_same refl in
      let here : (at == at) ≡ true = grind (arith, nat_tests) in
      rw (same, value, here) (or_bit (slice_index words at) mask (63 - i % 56))
  | inr other ↦
      let kept : pixel (slice_set words at (bit_or (slice_index words at) mask)) i ≡ pixel words i =
      rw get_or-set_other refl in
      let off : (i / 56 == at) ≡ false = grind (arith, nat_tests) in
      rw (kept, off) (or_false (pixel words i))
]

pub no_word_yet : (b : Bool) (from past at i : ℕ) → 56 * at ≤ from → b ≡ (b || (nat_le from i && nat_lt i (min past (56 * at))))
no_word_yet b from past at i begins =
    let off : (nat_le from i && nat_lt i (min past (56 * at))) ≡ false = grind (arith, nat_tests) in
    rw off (or_false b)

-- the pixels of one word more
pub one_word_more : (b was now : Bool) (from past at mask i : ℕ) → from ≤ past
    → ((j : ℕ) → j < 64 → in_word mask j ≡ (nat_le (min 56 (from - 56 * at)) j && nat_lt j (min 56 (past - 56 * at))))
    → was ≡ (b || (nat_le from i && nat_lt i (min past (56 * at))))
    → now ≡ (was || ((i / 56 == at) && in_word mask (i % 56)))
    → now ≡ (b || (nat_le from i && nat_lt i (min past (56 * (at + 1)))))
one_word_more b was now from past at mask i order is_mask is_was is_now = elim (cases_eq (i / 56) at) [
  | inl here ↦
      let on : (i / 56 == at) ≡ true = grind (arith, nat_tests) in
      let column : i ≡ 56 * at + i % 56 = omega (arith, here) in
      let before : nat_lt i (min past (56 * at)) ≡ false = grind (arith, nat_tests) in
      let none : (nat_le from i && nat_lt i (min past (56 * at))) ≡ false = rw before (never (nat_le from i)) in
      let low : nat_le (min 56 (from - 56 * at)) (i % 56) ≡ nat_le from i = grind (arith, nat_tests) in
      let high : nat_lt (i % 56) (min 56 (past - 56 * at)) ≡ nat_lt i (min past (56 * (at + 1))) = grind (arith, nat_tests) in
      is_now ∙ rw (is_was, none, on, is_mask (i % 56) (omega arith), low, high) (ap (λ (x : Bool). x || (nat_le from i && nat_lt i (min past (56 * (at + 1))))) (sym (or_false b)))
  | inr other ↦
      let off : (i / 56 == at) ≡ false = grind (arith, nat_tests) in
      let same : nat_lt i (min past (56 * at)) ≡ nat_lt i (min past (56 * (at + 1))) = grind (arith, nat_tests) in
      is_now ∙ rw (is_was, off, same) (sym (or_false _))
]
