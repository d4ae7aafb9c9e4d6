-- Bits of words: masked, turned, and parted into bytes.
use Rattle.std.proofs.Common.{◌≡◌, ◌∙◌, sym, ap, refl, ℕ, ◌+◌, ◌-◌, ◌*◌, ◌/◌, ◌%◌, ◌^◌, ◌<◌, ◌≤◌, Bool, true, false, ◌&&◌, ◌||◌, ◌==◌, nat_le, nat_lt, bit_and, bit_or, w64, arith, inl, inr}
use Rattle.std.specs.Int.{bit_at, rotate_right}
use Rattle.std.proofs.Math.Pow.{pow_mono}
use Rattle.std.proofs.lemmas.Bool.{cases_lt}
use Rattle.std.proofs.lemmas.Bool.Decides.{nat_tests}
use Rattle.std.proofs.lemmas.Nat.{pow_pos, shr-shr}
use Rattle.std.proofs.lemmas.Nat.Bits.{bit_at_above, bit_at_and, bit_at-lt, bit_at-zero, bit_at_cat_high, bit_at_cat_low, bit_at_or, ones_shr, bit_at_mask_inside, bit_at_mask_below, bit_at_mask_above}
use Rattle.tt_bitmap.specs.Words.{in_word}
use Rattle.tt_bitmap.proofs.Bools.{or_false}

-- a word with some columns

pub ones_is : (from to : ℕ) → from ≤ to → to ≤ 64 → (2 ^ 64 - 1) / 2 ^ from - (2 ^ 64 - 1) / 2 ^ to ≡ 2 ^ (64 - from) - 2 ^ (64 - to)
ones_is from to order fits =
    let one : (2 ^ 64 - 1) / 2 ^ from ≡ 2 ^ (64 - from) - 1 = ones_shr 64 from (omega arith) in
    let two : (2 ^ 64 - 1) / 2 ^ to ≡ 2 ^ (64 - to) - 1 = ones_shr 64 to fits in
    rw (one, two) (omega (arith, pow_pos (64 - from), pow_pos (64 - to)))

pub ones_order : (from to : ℕ) → from ≤ to → to ≤ 64 → (2 ^ 64 - 1) / 2 ^ to ≤ (2 ^ 64 - 1) / 2 ^ from
ones_order from to order fits =
    let one : (2 ^ 64 - 1) / 2 ^ from ≡ 2 ^ (64 - from) - 1 = ones_shr 64 from (omega arith) in
    let two : (2 ^ 64 - 1) / 2 ^ to ≡ 2 ^ (64 - to) - 1 = ones_shr 64 to fits in
    let more : 2 ^ (64 - to) ≤ 2 ^ (64 - from) = pow_mono (omega arith) in
    rw (one, two) (omega arith)

pub ones_bit : (from to j : ℕ) → from ≤ to → to ≤ 64 → j < 64
    → (bit_at (2 ^ (64 - from) - 2 ^ (64 - to)) (63 - j) == 1) ≡ (nat_le from j && nat_lt j to)
ones_bit from to j order fits within = elim (cases_lt (63 - j) (64 - from)) [
  | inl right ↦ elim (cases_lt (63 - j) (64 - to)) [
    | inl past ↦ let none = bit_at_mask_below (64 - to) (64 - from) (63 - j) past in grind (arith, nat_tests)
    | inr inside ↦ let one = bit_at_mask_inside (64 - to) (64 - from) (63 - j) inside right in grind (arith, nat_tests)
  ]
  | inr left ↦ let none = bit_at_mask_above (64 - to) (64 - from) (63 - j) left in grind (arith, nat_tests)
]

-- two words

pub or_bit : (a b i : ℕ) → (bit_at (bit_or a b) i == 1) ≡ ((bit_at a i == 1) || (bit_at b i == 1))
or_bit a b i =
    let of_both = bit_at_or a b i in let one = bit_at-lt a i in let two = bit_at-lt b i in grind (arith, nat_tests)

pub and_bit : (a b i : ℕ) → (bit_at (bit_and a b) i == 1) ≡ ((bit_at a i == 1) && (bit_at b i == 1))
and_bit a b i =
    let of_both = bit_at_and a b i in let one = bit_at-lt a i in let two = bit_at-lt b i in grind (arith, nat_tests)

-- eight bits of a word

pub shifted_bit : (n k i : ℕ) → bit_at (n / 2 ^ k) i ≡ bit_at n (k + i)
shifted_bit n k i = ap (λ x. x % 2) (shr-shr n k i)

pub low_bit : (n i : ℕ) → i < 8 → bit_at (n % 256) i ≡ bit_at n i
low_bit n i low =
    let split : n / 256 * 2 ^ 8 + n % 256 ≡ n = omega arith in
    sym (bit_at_cat_low (n / 256) 8 (n % 256) i low) ∙ ap (λ m. bit_at m i) split

pub byte_bit : (n k i : ℕ) → i < 8 → bit_at (n / 2 ^ k % 256) i ≡ bit_at n (k + i)
byte_bit n k i low = low_bit (n / 2 ^ k) i low ∙ shifted_bit n k i

-- a word turned to the right

wrapped_bit : (n i : ℕ) → i < 64 → bit_at (n % 2 ^ 64) i ≡ bit_at n i
wrapped_bit n i low =
    let split : n / 2 ^ 64 * 2 ^ 64 + n % 2 ^ 64 ≡ n = omega arith in
    sym (bit_at_cat_low (n / 2 ^ 64) 64 (n % 2 ^ 64) i low) ∙ ap (λ m. bit_at m i) split

shifted_up : (word s i : ℕ) → s ≤ i → bit_at (word * 2 ^ s) i ≡ bit_at word (i - s)
shifted_up word s i high =
    let same : word * 2 ^ s + 0 ≡ word * 2 ^ s = omega arith in
    ap (λ n. bit_at n i) (sym same) ∙ bit_at_cat_high word s 0 i (pow_pos s) high

shifted_in : (word s i : ℕ) → i < s → bit_at (word * 2 ^ s) i ≡ 0
shifted_in word s i low =
    let same : word * 2 ^ s + 0 ≡ word * 2 ^ s = omega arith in
    ap (λ n. bit_at n i) (sym same) ∙ bit_at_cat_low word s 0 i low ∙ bit_at-zero i

or_same : (b : Bool) → (b || b) ≡ b
or_same true = refl
or_same false = refl

pub turned_bit : (word by b : ℕ) → word < 2 ^ 64 → by < 64 → b < 64
    → (bit_at (rotate_right w64 word by) b == 1) ≡ (bit_at word ((b + by) % 64) == 1)
turned_bit word by b fits low within =
    let is : by % 64 ≡ by = omega (arith, low) in
    let whole : rotate_right w64 word by ≡ bit_or (word / 2 ^ by) (word * 2 ^ ((64 - by) % 64) % 2 ^ 64) =
    ap (λ (n : ℕ). bit_or (word / 2 ^ n) (word * 2 ^ ((64 - n) % 64) % 2 ^ 64)) is in
    ap (λ (n : ℕ). bit_at n b == 1) whole
    ∙ or_bit (word / 2 ^ by) (word * 2 ^ ((64 - by) % 64) % 2 ^ 64) b
    ∙ rw (shifted_bit word by b, wrapped_bit (word * 2 ^ ((64 - by) % 64)) b within) (elim (cases_lt 0 by) [
      | inl some ↦
          let up : (64 - by) % 64 ≡ 64 - by = omega (arith, some) in
          elim (cases_lt (by + b) 64) [
            | inl below ↦
                let at : (b + by) % 64 ≡ by + b = omega (arith, below) in
                let none : bit_at (word * 2 ^ (64 - by)) b ≡ 0 = shifted_in word (64 - by) b (omega (arith, below)) in
                rw (up, at, none) (sym (or_false (bit_at word (by + b) == 1)))
            | inr above ↦
                let at : (b + by) % 64 ≡ b - (64 - by) = omega (arith, above, low, within) in
                let none : bit_at word (by + b) ≡ 0 = bit_at_above word 64 (by + b) fits above in
                let other : bit_at (word * 2 ^ (64 - by)) b ≡ bit_at word (b - (64 - by)) =
                shifted_up word (64 - by) b (omega (arith, above)) in
                rw (up, at, none, other) refl
          ]
      | inr none ↦
          let zero_by : by ≡ 0 = omega (arith, none) in
          let up : (64 - by) % 64 ≡ 0 = omega (arith, none) in
          let at : (b + by) % 64 ≡ b = omega (arith, none, within) in
          let first : by + b ≡ b = omega (arith, none) in
          let other : bit_at (word * 2 ^ 0) b ≡ bit_at word b =
          shifted_up word 0 b (omega arith) ∙ ap (bit_at word) (omega arith) in
          rw (up, at, first, other) (or_same (bit_at word b == 1))
    ])

pub ones_masked : (word mask j : ℕ) → in_word (bit_and word mask) j ≡ (in_word word j && in_word mask j)
ones_masked word mask j = and_bit word mask (63 - j)
