-- A word clipped to a row, and turned to its place.
use Rattle.std.proofs.Common.{◌≡◌, ◌∙◌, sym, ap, refl, ℕ, ◌+◌, ◌-◌, ◌*◌, ◌/◌, ◌%◌, ◌^◌, ◌<◌, ◌≤◌, Bool, true, false, ◌&&◌, ◌==◌, nat_le, nat_lt, min, ℤ, pos, ◌+ℤ◌, ◌-ℤ◌, ◌≤ℤ◌, ◌<ℤ◌, int_le, unsigned_abs, bit_and, arith, inl, inr}
use Rattle.std.specs.Int.{bit_at}
use Rattle.std.specs.Int.Bits.{and_lt, and_zero_r}
use Rattle.std.proofs.lemmas.Bool.{cases_Bool, cases_lt, false≢true}
use Rattle.std.proofs.lemmas.Bool.Decides.{nat_tests}
use Rattle.std.proofs.lemmas.Int.{by_lt_z, ints}
use Rattle.std.proofs.lemmas.Nat.Bits.{bit_at-zero}
use Rattle.tt_bitmap.specs.Words.{in_eight, in_strip, in_word, is_whole, turned_by}
use Rattle.tt_bitmap.proofs.Bools.{never, parts}
use Rattle.tt_bitmap.proofs.Turns.{ones_masked, turned_bit}

-- the columns of a word from `from` up to `to` are those that the row has
pub record IsClipped (at : ℤ) (room width from to : ℕ) : Type 0 where
  pub before : (i : ℕ) → i < to → (at +ℤ pos i) <ℤ pos width
  pub past : (i : ℕ) → to ≤ i → i < room → pos width ≤ℤ (at +ℤ pos i)
  pub left : (i : ℕ) → i < from → (at +ℤ pos i) <ℤ pos 0
  pub right : (i : ℕ) → from ≤ i → i < room → pos 0 ≤ℤ (at +ℤ pos i)
  pub most : to ≤ room
  pub few : room ≤ 56

clipped_strip : (at : ℤ) (room width from to word k : ℕ) → IsClipped at room width from to
    → (nat_lt k width && in_strip at room word k)
    ≡ ((int_le at (pos k) && (nat_le from (unsigned_abs (pos k -ℤ at)) && nat_lt (unsigned_abs (pos k -ℤ at)) to)) && in_word word (unsigned_abs (pos k -ℤ at)))
clipped_strip at room width from to word k is =
    by_lt_z (pos k) at
    (λ before.
    let off : int_le at (pos k) ≡ false = grind (arith, ints) in
    rw off (never (nat_lt k width)))
    (λ after.
    let m : ℕ = unsigned_abs (pos k -ℤ at) in
    let here : at +ℤ pos m ≡ pos k = omega (arith, ints) in
    let on : int_le at (pos k) ≡ true = grind (arith, ints) in
    elim (cases_lt m from) [
      | inl under ↦ let out = is.left m under in absurd (omega (arith, ints, out, here))
      | inr begun ↦
          let has_begun : nat_le from m ≡ true = grind (arith, nat_tests) in
          elim (cases_lt m to) [
            | inl inside ↦
                let seen = is.before m inside in
                let most = is.most in
                let shown : nat_lt k width ≡ true = let less : k < width = omega (arith, ints, seen, here) in grind (arith, nat_tests) in
                let has : nat_lt m room ≡ true = grind (arith, nat_tests) in
                let not_over : nat_lt m to ≡ true = grind (arith, nat_tests) in
                rw (on, shown, has, has_begun, not_over) refl
            | inr over ↦
                let ended : nat_lt m to ≡ false = grind (arith, nat_tests) in
                elim (cases_lt m room) [
                  | inl has ↦
                      let out = is.past m over has in
                      let off : nat_lt k width ≡ false = let more : width ≤ k = omega (arith, ints, out, here) in grind (arith, nat_tests) in
                      rw (on, off, has_begun, ended) refl
                  | inr beyond ↦
                      let none : nat_lt m room ≡ false = grind (arith, nat_tests) in
                      rw (on, none, has_begun, ended) (never (nat_lt k width))
                ]
          ]
    ])

-- where a word's first column `first` that the row has is one of the eight bytes, and how far the word is turned
pub record IsPlaced (at : ℤ) (start turn first from to : ℕ) : Type 0 where
  pub is_first : pos first ≡ at +ℤ pos from
  pub begins : 8 * start ≤ first
  pub ends : first + to ≤ 8 * start + 64 + from
  pub turns : turn ≡ ((64 + (first - 8 * start)) - from) % 64

-- the column of a word that the turned word has at column j
abbrev source : ℕ → ℕ → ℕ
source turn j = 63 - ((63 - j) + turn) % 64

turned_column : (mask turn from to word j : ℕ) → ((i : ℕ) → i < 64 → in_word mask i ≡ (nat_le from i && nat_lt i to))
    → word < 2 ^ 64 → mask < 2 ^ 64 → turn < 64 → j < 64
    → in_word (turned_by mask turn word) j ≡ (in_word word (source turn j) && (nat_le from (source turn j) && nat_lt (source turn j) to))
turned_column mask turn from to word j is_mask fits mask_fits low within =
    let at : ((63 - j) + turn) % 64 ≡ 63 - source turn j = omega (arith, low, within) in
    turned_bit (bit_and word mask) turn (63 - j) (and_lt 64 word mask fits mask_fits) low (omega arith)
    ∙ ap (λ (n : ℕ). bit_at (bit_and word mask) n == 1) at
    ∙ ones_masked word mask (source turn j)
    ∙ ap (λ (x : Bool). in_word word (source turn j) && x) (is_mask (source turn j) (omega arith))

-- a column that is shown lies in the eight bytes, and comes from its own column of the word
shown_within : (at : ℤ) (room width start turn first from to k : ℕ) → IsClipped at room width from to → IsPlaced at start turn first from to
    → at ≤ℤ pos k → from ≤ unsigned_abs (pos k -ℤ at) → unsigned_abs (pos k -ℤ at) < to
    → (8 * start ≤ k) × ((k < 8 * start + 64) × (source turn (k - 8 * start) ≡ unsigned_abs (pos k -ℤ at)))
shown_within at room width start turn first from to k is place after from_on under =
    let m : ℕ = unsigned_abs (pos k -ℤ at) in
    let is_first = place.is_first in
    let begins = place.begins in
    let ends = place.ends in
    let turns = place.turns in
    let most = is.most in
    let few = is.few in
    let column : m + first ≡ k + from = omega (arith, ints, after, is_first) in (
      omega (arith, column, begins, from_on),
      (
        omega (arith, column, ends, under),
        omega (arith, column, begins, ends, turns, from_on, under, most, few),
      ),
    )

-- a column of the mask comes to the column of the row where the word has it
source_within : (at : ℤ) (room width start turn first from to k : ℕ) → IsClipped at room width from to → IsPlaced at start turn first from to
    → 8 * start ≤ k → k < 8 * start + 64 → from ≤ source turn (k - 8 * start) → source turn (k - 8 * start) < to
    → (at ≤ℤ pos k) × (unsigned_abs (pos k -ℤ at) ≡ source turn (k - 8 * start))
source_within at room width start turn first from to k is place low high from_on under =
    let m : ℕ = source turn (k - 8 * start) in
    let is_first = place.is_first in
    let begins = place.begins in
    let ends = place.ends in
    let turns = place.turns in
    let most = is.most in
    let few = is.few in
    let column : m + first ≡ k + from = omega (arith, begins, ends, turns, low, high, from_on, under, most, few) in
    (omega (arith, ints, column, is_first, from_on), omega (arith, ints, column, is_first, from_on))

with_mask : (x t : Bool) → t ≡ true → (x && t) ≡ x
with_mask true t on = on
with_mask false t on = refl

without_mask : (x t : Bool) → t ≡ false → (x && t) ≡ false
without_mask true t off = off
without_mask false t off = refl

-- the eight bytes show the columns that the row has
pub placed : (at : ℤ) (room width start turn mask first from to word k : ℕ) → IsClipped at room width from to
    → IsPlaced at start turn first from to → ((i : ℕ) → i < 64 → in_word mask i ≡ (nat_le from i && nat_lt i to))
    → word < 2 ^ 64 → mask < 2 ^ 64 → in_eight start (turned_by mask turn word) k ≡ (nat_lt k width && in_strip at room word k)
placed at room width start turn mask first from to word k is place is_mask fits mask_fits =
    let turns = place.turns in
    let low : turn < 64 = omega (arith, turns) in
    let m : ℕ = unsigned_abs (pos k -ℤ at) in
    let s : ℕ = source turn (k - 8 * start) in
    elim (cases_Bool (int_le at (pos k) && (nat_le from m && nat_lt m to))) [
      | inl shown ↦
          let (one, rest) = parts (int_le at (pos k)) (nat_le from m && nat_lt m to) shown in
          let (two, three) = parts (nat_le from m) (nat_lt m to) rest in
          let after : at ≤ℤ pos k = grind (arith, ints, one) in
          let from_on : from ≤ m = grind (arith, nat_tests, two) in
          let under : m < to = grind (arith, nat_tests, three) in
          let (begun, (within, same)) = shown_within at room width start turn first from to k is place after from_on under in
          let left : nat_le (8 * start) k ≡ true = grind (arith, nat_tests) in
          let right : nat_lt k (8 * start + 64) ≡ true = grind (arith, nat_tests) in
          let column = turned_column mask turn from to word (k - 8 * start) is_mask fits mask_fits low (omega (arith, begun, within)) in
          let strip = clipped_strip at room width from to word k is in
          rw (left, right, column, same, strip, shown) (with_mask (in_word word m) (nat_le from m && nat_lt m to) rest)
      | inr not_shown ↦
          let strip = clipped_strip at room width from to word k is in
          let none : (nat_lt k width && in_strip at room word k) ≡ false = rw (strip, not_shown) refl in
          elim (cases_lt k (8 * start)) [
            | inl before ↦ let out : nat_le (8 * start) k ≡ false = grind (arith, nat_tests) in rw (out, none) refl
            | inr begun ↦ elim (cases_lt k (8 * start + 64)) [
              | inl within ↦
                  let column = turned_column mask turn from to word (k - 8 * start) is_mask fits mask_fits low (omega (arith, begun, within)) in
                  let left : nat_le (8 * start) k ≡ true = grind (arith, nat_tests) in
                  let right : nat_lt k (8 * start + 64) ≡ true = grind (arith, nat_tests) in
                  elim (cases_Bool (nat_le from s && nat_lt s to)) [
                    | inl masked ↦
                        let (two, three) = parts (nat_le from s) (nat_lt s to) masked in
                        let from_on : from ≤ s = grind (arith, nat_tests, two) in
                        let under : s < to = grind (arith, nat_tests, three) in
                        let (after, same) = source_within at room width start turn first from to k is place begun within from_on under in
                        let one : int_le at (pos k) ≡ true = grind (arith, ints) in
                        let is_shown : (int_le at (pos k) && (nat_le from m && nat_lt m to)) ≡ true = rw (one, same) masked in
                        absurd (false≢true (sym not_shown ∙ is_shown))
                    | inr unmasked ↦ rw (left, right, column, none) (without_mask (in_word word s) (nat_le from s && nat_lt s to) unmasked)
                  ]
              | inr past ↦
                  let out : nat_lt k (8 * start + 64) ≡ false = grind (arith, nat_tests) in
                  rw (out, never (nat_le (8 * start) k), none) refl
            ]
          ]
    ]

-- a mask of 0 shows nothing
pub none_stamped : (start turn word k : ℕ) → turn < 64 → in_eight start (turned_by 0 turn word) k ≡ false
none_stamped start turn word k low = elim (cases_lt k (8 * start)) [
  | inl before ↦ let out : nat_le (8 * start) k ≡ false = grind (arith, nat_tests) in rw out refl
  | inr begun ↦ elim (cases_lt k (8 * start + 64)) [
    | inl within ↦
        let bit = turned_bit (bit_and word 0) turn (63 - (k - 8 * start)) (rw and_zero_r (omega arith)) low (omega (arith, begun, within)) in
        let white : in_word (turned_by 0 turn word) (k - 8 * start) ≡ false =
        bit ∙ ap (λ (n : ℕ). bit_at n (((63 - (k - 8 * start)) + turn) % 64) == 1) (and_zero_r word)
        ∙ ap (λ (n : ℕ). n == 1) (bit_at-zero (((63 - (k - 8 * start)) + turn) % 64)) in
        rw (white, never (nat_le (8 * start) k && nat_lt k (8 * start + 64))) refl
    | inr past ↦
        let out : nat_lt k (8 * start + 64) ≡ false = grind (arith, nat_tests) in
        rw (out, never (nat_le (8 * start) k)) refl
  ]
]

-- no column is shown
pub none_shown : (at : ℤ) (room width from to word k : ℕ) → IsClipped at room width from to → to ≤ from
    → (nat_lt k width && in_strip at room word k) ≡ false
none_shown at room width from to word k is none =
    let off : (nat_le from (unsigned_abs (pos k -ℤ at)) && nat_lt (unsigned_abs (pos k -ℤ at)) to) ≡ false = grind (arith, nat_tests) in
    let strip = clipped_strip at room width from to word k is in
    rw (strip, off, never (int_le at (pos k))) refl

-- a word of which the row has all columns

pub record IsWhole (at : ℤ) (columns width bytes : ℕ) : Type 0 where
  pub some : 0 < columns
  pub few : columns ≤ 56
  pub many : 8 ≤ bytes
  pub low : pos 0 ≤ℤ at
  pub high : (at +ℤ pos columns) ≤ℤ pos width

pub whole_parts : (at : ℤ) (columns width bytes : ℕ) → is_whole at columns width bytes ≡ true → IsWhole at columns width bytes
whole_parts at columns width bytes is =
    let (sized, rest) = parts (nat_lt 0 columns && nat_le columns 56)
    (nat_le 8 bytes && (int_le (pos 0) at && int_le (at +ℤ pos columns) (pos width))) is in
    let (one, two) = parts (nat_lt 0 columns) (nat_le columns 56) sized in
    let (three, across) = parts (nat_le 8 bytes) (int_le (pos 0) at && int_le (at +ℤ pos columns) (pos width)) rest in
    let (four, five) = parts (int_le (pos 0) at) (int_le (at +ℤ pos columns) (pos width)) across in
    record {
      some = grind (arith, nat_tests, one);
      few = grind (arith, nat_tests, two);
      many = grind (arith, nat_tests, three);
      low = grind (arith, ints, four);
      high = grind (arith, ints, five);
    }

pub whole_placed : (at : ℤ) (columns width bytes start turn mask first word k : ℕ) → is_whole at columns width bytes ≡ true
    → width ≤ 8 * bytes → pos first ≡ at +ℤ pos 0 → start ≡ min (first / 8) (bytes - 8) → turn ≡ (first - 8 * start) % 64
    → ((i : ℕ) → i < 64 → in_word mask i ≡ (nat_le 0 i && nat_lt i columns)) → word < 2 ^ 64 → mask < 2 ^ 64
    → in_eight start (turned_by mask turn word) k ≡ (nat_lt k width && in_strip at columns word k)
whole_placed at columns width bytes start turn mask first word k whole enough is_first is_start is_turn is_mask fits mask_fits =
    let is = whole_parts at columns width bytes whole in
    let some = is.some in
    let few = is.few in
    let many = is.many in
    let is_low = is.low in
    let is_high = is.high in
    let ends : first + columns ≤ width = omega (arith, ints, is_high, is_first) in
    let within : first + columns ≤ 8 * start + 64 = omega (arith, is_start, ends, enough, many, few) in
    let clipped : IsClipped at columns width 0 columns = record {
      before = λ i below. omega (arith, ints, below, is_first, ends);
      past = λ i from under. absurd (omega (arith, from, under));
      left = λ i under. absurd (omega (arith, under));
      right = λ i from under. omega (arith, ints, is_low);
      most = omega arith;
      few = few;
    } in
    let place : IsPlaced at start turn first 0 columns = record {
      is_first = is_first;
      begins = omega (arith, is_start);
      ends = omega (arith, within);
      turns = omega (arith, is_turn);
    } in
    placed at columns width start turn mask first 0 columns word k clipped place is_mask fits mask_fits
