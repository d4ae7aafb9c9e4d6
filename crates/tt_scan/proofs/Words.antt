-- Words of columns, painted by bytes.
use Rattle.std.proofs.Common.{◌≡◌, ◌∙◌, sym, ap, refl, ℕ, ◌+◌, ◌-◌, ◌*◌, ◌/◌, ◌%◌, ◌^◌, ◌<◌, ◌≤◌, Bool, true, false, ◌&&◌, ◌||◌, ◌==◌, nat_le, nat_lt, List, length, slice_index, slice_set, bit_or, arith, inl, inr, get_or-set_same, get_or-set_other}
use Rattle.std.specs.Int.{bit_at}
use Rattle.std.proofs.Math.Pow.{pow_mono}
use Rattle.std.proofs.lemmas.Bool.Decides.{nat_tests}
use Rattle.std.proofs.lemmas.Bool.{cases_eq, cases_lt}
use Rattle.std.proofs.lemmas.Nat.{pow_pos, shr-shr}
use Rattle.std.proofs.lemmas.Nat.Bits.{bit_at_above, bit_at_cat_low, ones_shr, bit_at_mask_inside, bit_at_mask_below, bit_at_mask_above}
use Rattle.tt_core.specs.Bits.{bit}
use Rattle.tt_scan.specs.Stamps.{in_word}
use Rattle.tt_scan.proofs.Columns.{or_bit}
use Rattle.tt_scan_edges.proofs.Bools.{or_false}

-- a word with columns

pub ones_is : (from to : ℕ) → from ≤ to → to ≤ 64 → (2 ^ 64 - 1) / 2 ^ from - (2 ^ 64 - 1) / 2 ^ to ≡ 2 ^ (64 - from) - 2 ^ (64 - to)
ones_is from to order fits =
    let one : (2 ^ 64 - 1) / 2 ^ from ≡ 2 ^ (64 - from) - 1 = ones_shr 64 from (omega arith) in
    let two : (2 ^ 64 - 1) / 2 ^ to ≡ 2 ^ (64 - to) - 1 = ones_shr 64 to fits in
    rw (one, two) (omega (arith, pow_pos (64 - from), pow_pos (64 - to)))

pub ones_order : (from to : ℕ) → from ≤ to → to ≤ 64 → (2 ^ 64 - 1) / 2 ^ to ≤ (2 ^ 64 - 1) / 2 ^ from
ones_order from to order fits =
    let one : (2 ^ 64 - 1) / 2 ^ from ≡ 2 ^ (64 - from) - 1 = ones_shr 64 from (omega arith) in
    let two : (2 ^ 64 - 1) / 2 ^ to ≡ 2 ^ (64 - to) - 1 = ones_shr 64 to fits in
    let more : 2 ^ (64 - to) ≤ 2 ^ (64 - from) = pow_mono (omega arith) in
    rw (one, two) (omega arith)

pub ones_bit : (from to j : ℕ) → from ≤ to → to ≤ 64 → j < 64
    → (bit_at (2 ^ (64 - from) - 2 ^ (64 - to)) (63 - j) == 1) ≡ (nat_le from j && nat_lt j to)
ones_bit from to j order fits within = elim (cases_lt (63 - j) (64 - from)) [
  | inl right ↦ elim (cases_lt (63 - j) (64 - to)) [
    | inl past ↦ let none = bit_at_mask_below (64 - to) (64 - from) (63 - j) past in grind (arith, nat_tests)
    | inr inside ↦ let one = bit_at_mask_inside (64 - to) (64 - from) (63 - j) inside right in grind (arith, nat_tests)
  ]
  | inr left ↦ let none = bit_at_mask_above (64 - to) (64 - from) (63 - j) left in grind (arith, nat_tests)
]

-- eight bits of a word

pub shifted_bit : (n k i : ℕ) → bit_at (n / 2 ^ k) i ≡ bit_at n (k + i)
shifted_bit n k i = ap (λ x. x % 2) (shr-shr n k i)

pub low_bit : (n i : ℕ) → i < 8 → bit_at (n % 256) i ≡ bit_at n i
low_bit n i low =
    let split : n / 256 * 2 ^ 8 + n % 256 ≡ n = omega arith in
    sym (bit_at_cat_low (n / 256) 8 (n % 256) i low) ∙ ap (λ m. bit_at m i) split

pub byte_bit : (n k i : ℕ) → i < 8 → bit_at (n / 2 ^ k % 256) i ≡ bit_at n (k + i)
byte_bit n k i low = low_bit (n / 2 ^ k) i low ∙ shifted_bit n k i

-- one byte of a row

or_none : (b : Bool) → b ≡ (b || false)
or_none true = refl
or_none false = refl

pub byte_ored : (row : List ℕ) (byte mask k : ℕ) → byte < length row
    → bit (slice_set row byte (bit_or (slice_index row byte) mask)) k ≡ (bit row k || ((k / 8 == byte) && (bit_at mask (7 - k % 8) == 1)))
byte_ored row byte mask k within = elim (cases_eq (k / 8) byte) [
  | inl same ↦
      let value : slice_index (slice_set row byte (bit_or (slice_index row byte) mask)) byte ≡ bit_or (slice_index row byte) mask =
      rw get_or-set_same refl in
      let here : (byte == byte) ≡ true = grind (arith, nat_tests) in
      rw (same, value, here) (or_bit (slice_index row byte) mask (7 - k % 8))
  | inr other ↦
      let kept : bit (slice_set row byte (bit_or (slice_index row byte) mask)) k ≡ bit row k =
      rw get_or-set_other refl in
      let off : (k / 8 == byte) ≡ false = grind (arith, nat_tests) in
      rw (kept, off) (or_none (bit row k))
]

-- one byte more of a word's columns

left_bit : (word at i k : ℕ) → word < 2 ^ 64 → k < at → k / 8 ≡ at / 8 + i → bit_at word ((56 + at % 8 - 8 * i) + (7 - k % 8)) ≡ 0
left_bit word at i k fits left here = bit_at_above word 64 ((56 + at % 8 - 8 * i) + (7 - k % 8)) fits (omega arith)

column_bit : (word at i k : ℕ) → word < 2 ^ 64 → ((b : ℕ) → b < 7 → bit_at word b ≡ 0) → i < 8 → k / 8 ≡ at / 8 + i
    → (bit_at word ((56 + at % 8 - 8 * i) + (7 - k % 8)) == 1) ≡ (nat_le at k && in_word word (k - at))
column_bit word at i k fits free within here = elim (cases_lt k at) [
  | inl left ↦
      let none = left_bit word at i k fits left here in
      let off : nat_le at k ≡ false = grind (arith, nat_tests) in
      rw (none, off) refl
  | inr right ↦ elim (cases_lt (k - at) 57) [
    | inl shown ↦
        let same : (56 + at % 8 - 8 * i) + (7 - k % 8) ≡ 63 - (k - at) = omega arith in
        let on : nat_le at k ≡ true = grind (arith, nat_tests) in
        let in_it : nat_lt (k - at) 57 ≡ true = grind (arith, nat_tests) in
        rw (same, on, in_it) refl
    | inr past ↦
        let none : bit_at word ((56 + at % 8 - 8 * i) + (7 - k % 8)) ≡ 0 = free ((56 + at % 8 - 8 * i) + (7 - k % 8)) (omega arith) in
        let on : nat_le at k ≡ true = grind (arith, nat_tests) in
        let out : nat_lt (k - at) 57 ≡ false = grind (arith, nat_tests) in
        rw (none, on, out) refl
  ]
]

pub word_step : (word at i k mask : ℕ) (old row new : Bool) → word < 2 ^ 64 → ((b : ℕ) → b < 7 → bit_at word b ≡ 0) → i < 8
    → ((b : ℕ) → b < 8 → bit_at mask b ≡ bit_at word ((56 + at % 8 - 8 * i) + b))
    → row ≡ (old || (nat_lt k (8 * (at / 8 + i)) && (nat_le at k && in_word word (k - at))))
    → new ≡ (row || ((k / 8 == at / 8 + i) && (bit_at mask (7 - k % 8) == 1)))
    → new ≡ (old || (nat_lt k (8 * (at / 8 + (i + 1))) && (nat_le at k && in_word word (k - at))))
word_step word at i k mask old row new fits free within is_mask is_row is_new = elim (cases_eq (k / 8) (at / 8 + i)) [
  | inl here ↦
      let yes_here : (k / 8 == at / 8 + i) ≡ true = grind (arith, nat_tests) in
      let before : nat_lt k (8 * (at / 8 + i)) ≡ false = grind (arith, nat_tests) in
      let after : nat_lt k (8 * (at / 8 + (i + 1))) ≡ true = grind (arith, nat_tests) in
      let shown = column_bit word at i k fits free within here in
      let byte = is_mask (7 - k % 8) (omega arith) in
      is_new ∙ rw (is_row, yes_here, before, after, byte, shown) (ap (λ (b : Bool). b || (nat_le at k && in_word word (k - at))) (or_false old))
  | inr other ↦
      let not_here : (k / 8 == at / 8 + i) ≡ false = grind (arith, nat_tests) in
      let same : nat_lt k (8 * (at / 8 + i)) ≡ nat_lt k (8 * (at / 8 + (i + 1))) = grind (arith, nat_tests) in
      is_new ∙ rw (is_row, not_here, same) (or_false (old || (nat_lt k (8 * (at / 8 + (i + 1))) && (nat_le at k && in_word word (k - at)))))
]

pub word_begin : (b s : Bool) (at k : ℕ) → b ≡ (b || (nat_lt k (8 * (at / 8 + 0)) && (nat_le at k && s)))
word_begin true s at k = refl
word_begin false s at k = elim (cases_lt k at) [
  | inl left ↦ let off : nat_le at k ≡ false = grind (arith, nat_tests) in rw off (grind (arith, nat_tests))
  | inr right ↦ let off : nat_lt k (8 * (at / 8 + 0)) ≡ false = grind (arith, nat_tests) in rw off refl
]

-- a word has no columns past its last

pub past_last : (word columns j : ℕ) → columns ≤ 57 → ((b : ℕ) → b < 64 - columns → bit_at word b ≡ 0) → columns ≤ j → in_word word j ≡ false
past_last word columns j few free past = elim (cases_lt j 57) [
  | inl inside ↦ let none = free (63 - j) (omega arith) in
      let on : nat_lt j 57 ≡ true = grind (arith, nat_tests) in rw (none, on) refl
  | inr out ↦ let off : nat_lt j 57 ≡ false = grind (arith, nat_tests) in rw off refl
]

pub word_end : (old row : Bool) (word columns at i k : ℕ) → columns ≤ 57 → ((b : ℕ) → b < 64 - columns → bit_at word b ≡ 0) → (at % 8 + columns + 7) / 8 ≤ i
    → row ≡ (old || (nat_lt k (8 * (at / 8 + i)) && (nat_le at k && in_word word (k - at)))) → row ≡ (old || (nat_le at k && in_word word (k - at)))
word_end old row word columns at i k few free done is = elim (cases_lt k (8 * (at / 8 + i))) [
  | inl inside ↦ let on : nat_lt k (8 * (at / 8 + i)) ≡ true = grind (arith, nat_tests) in rw on at is
  | inr past ↦
      let off : nat_lt k (8 * (at / 8 + i)) ≡ false = grind (arith, nat_tests) in
      let out = past_last word columns (k - at) few free (omega arith) in
      is ∙ rw (off, out) (grind (arith, nat_tests))
]
