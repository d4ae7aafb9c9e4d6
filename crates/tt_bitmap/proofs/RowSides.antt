-- The columns of a row, one word more at a time.
use Rattle.std.proofs.Common.{◌≡◌, ◌∙◌, sym, ap, refl, ℕ, ◌+◌, ◌-◌, ◌*◌, ◌/◌, ◌%◌, Bool, true, false, ◌&&◌, ◌||◌, ◌==◌, nat_le, nat_lt, min, List, slice_index, arith, inl, inr}
use Rattle.std.proofs.lemmas.Bool.Decides.{nat_tests}
use Rattle.std.proofs.lemmas.Bool.{cases_eq, cases_lt}
use Rattle.tt_bitmap.specs.Bitmaps.{strips}
use Rattle.tt_bitmap.specs.Inks.{has_column, in_row, row_has}
use Rattle.tt_bitmap.specs.Words.{in_word}
use Rattle.tt_bitmap.proofs.Bools.{both, never, or_false}

pub no_strip : (b same : Bool) (words : List ℕ) (w n r m : ℕ) → n ≡ 0 → b ≡ (b || (same && row_has words w n r m))
no_strip b same words w n r m none =
    let off : nat_lt m 0 ≡ false = grind (arith, nat_tests) in
    rw (none, off, never same) (or_false b)

both_in : (b s x y : Bool) → ((b || (s && x)) || (s && y)) ≡ (b || (s && (x || y)))
both_in true s x y = refl
both_in false s x y = both s x y

-- the words of row `row` of a list
one_word : (words : List ℕ) (w n s r m word : ℕ) → ((j : ℕ) → has_column word j ≡ (nat_lt j (min 56 (n - 56 * s)) && in_word (slice_index words (strips w * r + s)) j))
    → (row_has words w (min n (56 * s)) r m || (nat_le (56 * s) m && has_column word (m - 56 * s))) ≡ row_has words w (min n (56 * (s + 1))) r m
one_word words w n s r m word is = elim (cases_lt m (56 * s)) [
  | inl before ↦
      let off : nat_le (56 * s) m ≡ false = grind (arith, nat_tests) in
      let same : nat_lt m (min n (56 * s)) ≡ nat_lt m (min n (56 * (s + 1))) = grind (arith, nat_tests) in
      rw (off, same) (sym (or_false _))
  | inr from ↦
      let on : nat_le (56 * s) m ≡ true = grind (arith, nat_tests) in
      let begun : nat_lt m (min n (56 * s)) ≡ false = grind (arith, nat_tests) in
      elim (cases_lt m (56 * (s + 1))) [
        | inl within ↦
            let same : nat_lt (m - 56 * s) (min 56 (n - 56 * s)) ≡ nat_lt m (min n (56 * (s + 1))) = grind (arith, nat_tests) in
            let place : (56 * (strips w * r) + m) / 56 ≡ strips w * r + s = omega (arith, from, within) in
            let column : (56 * (strips w * r) + m) % 56 ≡ m - 56 * s = omega (arith, from, within) in
            rw (on, begun, is (m - 56 * s), same, place, column) refl
        | inr past ↦
            let out : nat_lt (m - 56 * s) (min 56 (n - 56 * s)) ≡ false = grind (arith, nat_tests) in
            let gone : nat_lt m (min n (56 * (s + 1))) ≡ false = grind (arith, nat_tests) in
            rw (on, begun, is (m - 56 * s), out, gone) refl
      ]
]

pub row_more : (b : Bool) (words : List ℕ) (w n s row r m word : ℕ)
    → ((j : ℕ) → has_column word j ≡ (nat_lt j (min 56 (n - 56 * s)) && in_word (slice_index words (strips w * row + s)) j))
    → ((b || ((r == row) && row_has words w (min n (56 * s)) r m)) || in_row word row (56 * s) r m)
    ≡ (b || ((r == row) && row_has words w (min n (56 * (s + 1))) r m))
row_more b words w n s row r m word is =
    both_in b (r == row) (row_has words w (min n (56 * s)) r m) (nat_le (56 * s) m && has_column word (m - 56 * s))
    ∙ elim (cases_eq r row) [
      | inl same ↦ ap (λ (x : Bool). b || ((r == row) && x)) (one_word words w n s r m word (rw (← same) at is))
      | inr other ↦ let off : (r == row) ≡ false = grind (arith, nat_tests) in rw off refl
    ]

-- the rows so far

pub no_row : (r : ℕ) (x : Bool) → (nat_lt r 0 && x) ≡ false
no_row r x = let off : nat_lt r 0 ≡ false = grind (arith, nat_tests) in rw off refl

pub one_row_more : (r row : ℕ) (x : Bool) → ((nat_lt r row && x) || ((r == row) && x)) ≡ (nat_lt r (row + 1) && x)
one_row_more r row x = elim (cases_lt r row) [
  | inl before ↦
      let on : nat_lt r row ≡ true = grind (arith, nat_tests) in
      let too : nat_lt r (row + 1) ≡ true = grind (arith, nat_tests) in
      let other : (r == row) ≡ false = grind (arith, nat_tests) in
      rw (on, too, other) (sym (or_false x))
  | inr from ↦
      let off : nat_lt r row ≡ false = grind (arith, nat_tests) in
      let same : (r == row) ≡ nat_lt r (row + 1) = grind (arith, nat_tests) in
      rw (off, same) refl
]
