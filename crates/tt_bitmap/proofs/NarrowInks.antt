-- The least sides of the black pixels of rows of one word.
use Rattle.std.proofs.Common.{◌≡◌, ◌∙◌, refl, sym, ap, ℕ, ◌+◌, ◌-◌, ◌*◌, ◌/◌, ◌%◌, ◌<◌, ◌≤◌, Bool, true, false, ◌&&◌, ◌||◌, ◌==◌, nat_lt, bit_or, List, slice_index, arith, inl, inr}
use Rattle.std.proofs.lemmas.Bool.Decides.{nat_tests}
use Rattle.std.proofs.lemmas.Bool.{cases_eq, cases_lt, false≢true}
use Rattle.std.proofs.lemmas.Nat.Bits.{bit_at-zero}
use Rattle.tt_bitmap.specs.Bitmaps.{strips}
use Rattle.tt_bitmap.specs.Inks.{AreAbove, AreLeast, IsNarrowInk, has_column, row_has}
use Rattle.tt_bitmap.specs.Words.{in_word}
use Rattle.tt_bitmap.specs.declared.ink.NarrowInk.{NarrowInk}
use Rattle.tt_bitmap.proofs.Bools.{both, either, or_false, or_true, parts}
use Rattle.tt_bitmap.proofs.RowSides.{one_row_more}
use Rattle.tt_bitmap.proofs.Sides.{IsBetween, column_white, left_or}
use Rattle.tt_bitmap.proofs.Turns.{or_bit}

-- no column is black in a white word
no_column : (m : ℕ) → has_column 0 m ≡ false
no_column m = column_white 0 m (bit_at-zero (63 - m))

-- the columns of two words
has_either : (a b m : ℕ) → has_column (bit_or a b) m ≡ (has_column a m || has_column b m)
has_either a b m =
    ap (λ (x : Bool). nat_lt m 64 && x) (or_bit a b (63 - m)) ∙ sym (both (nat_lt m 64) (in_word a m) (in_word b m))

-- the same pixels
narrow_same : (f g : ℕ → ℕ → Bool) (n : NarrowInk) → ((r m : ℕ) → f r m ≡ g r m) → IsNarrowInk f n → IsNarrowInk g n
narrow_same f g n same is = record {
  within = λ r m black. is.within r m (same r m ∙ black);
  across = λ m has. let (r, one) = is.across m has in (r, sym (same r m) ∙ one);
  first = λ some. let (m, one) = is.first some in (m, sym (same n.first_row m) ∙ one);
  last = λ some. let (m, one) = is.last some in (m, sym (same n.last_row m) ∙ one);
}

-- no row yet
pub no_narrow : (f : ℕ → ℕ → Bool) → ((r m : ℕ) → f r m ≡ false)
    → IsNarrowInk f (record { columns = 0; first_row = 0; last_row = 0 })
no_narrow f white = record {
  within = λ r m black. absurd (false≢true (sym (white r m) ∙ black));
  across = λ m has. absurd (false≢true (sym (no_column m) ∙ has));
  first = λ some. absurd (omega (arith, some));
  last = λ some. absurd (omega (arith, some));
}

-- a row more

white_row : (b same : Bool) (m word : ℕ) → word ≡ 0 → b ≡ (b || (same && has_column word m))
white_row b true m word none = rw (none, no_column m) (or_false b)
white_row b false m word none = or_false b

pub with_white : (f : ℕ → ℕ → Bool) (n : NarrowInk) (word row : ℕ) → word ≡ 0 → IsNarrowInk f n
    → IsNarrowInk (λ r m. f r m || ((r == row) && has_column word m)) n
with_white f n word row none is =
    narrow_same f (λ r m. f r m || ((r == row) && has_column word m)) n (λ r m. white_row (f r m) (r == row) m word none) is

here_black : (row word m : ℕ) (b : Bool) → has_column word m ≡ true → (b || ((row == row) && has_column word m)) ≡ true
here_black row word m b has = let same : (row == row) ≡ true = grind (arith, nat_tests) in rw (same, has) (or_true b)

pub with_first_row : (f : ℕ → ℕ → Bool) (n : NarrowInk) (word row before after : ℕ) → n.columns ≡ 0 → IsBetween word before after → IsNarrowInk f n
    → IsNarrowInk (λ r m. f r m || ((r == row) && has_column word m)) (record { columns = word; first_row = row; last_row = row })
with_first_row f n word row before after none own is = record {
  within = λ r m black. elim (either (f r m) ((r == row) && has_column word m) black) [
    | inl above ↦
        let (from, (to, has)) = is.within r m above in
        absurd (false≢true (sym (no_column m) ∙ rw none at has))
    | inr here ↦
        let (same, has) = parts (r == row) (has_column word m) here in
        let is_row : r ≡ row = grind (arith, nat_tests, same) in
        (omega (arith, is_row), (omega (arith, is_row), has))
  ];
  across = λ m has. (row, here_black row word m (f row m) has);
  first = λ some. (before, here_black row word before (f row before) own.first);
  last = λ some. (before, here_black row word before (f row before) own.first);
}

pub with_next_row : (f : ℕ → ℕ → Bool) (n : NarrowInk) (word row before after : ℕ) → 0 < n.columns → IsBetween word before after → AreAbove row f
    → IsNarrowInk f n
    → IsNarrowInk (λ r m. f r m || ((r == row) && has_column word m)) (record { columns = bit_or n.columns word; first_row = n.first_row; last_row = row })
with_next_row f n word row before after some own above is =
    let (at, one) = is.first some in
    let begun = above n.first_row at one in
    record {
      within = λ r m black. elim (either (f r m) ((r == row) && has_column word m) black) [
        | inl old ↦
            let (from, (to, has)) = is.within r m old in
            let under = above r m old in
            (from, (omega (arith, under), has_either n.columns word m ∙ left_or (has_column n.columns m) (has_column word m) has))
        | inr here ↦
            let (same, has) = parts (r == row) (has_column word m) here in
            let is_row : r ≡ row = grind (arith, nat_tests, same) in
            (omega (arith, is_row, begun), (omega (arith, is_row), has_either n.columns word m ∙ rw has (or_true (has_column n.columns m))))
      ];
      across = λ m has. elim (either (has_column n.columns m) (has_column word m) (sym (has_either n.columns word m) ∙ has)) [
        | inl old ↦ let (r, black) = is.across m old in (r, left_or (f r m) ((r == row) && has_column word m) black)
        | inr new ↦ (row, here_black row word m (f row m) new)
      ];
      first = λ more. (at, left_or (f n.first_row at) ((n.first_row == row) && has_column word at) one);
      last = λ more. (before, here_black row word before (f row before) own.first);
    }

-- the sides
pub narrow_least : (f : ℕ → ℕ → Bool) (n : NarrowInk) (before after : ℕ) → 0 < n.columns → IsBetween n.columns before after → IsNarrowInk f n
    → AreLeast f (record { first_row = n.first_row; last_row = n.last_row; first = before; last = 63 - after })
narrow_least f n before after some own is = record {
  within = λ r m black.
      let (from, (to, has)) = is.within r m black in
      let (left, right) = own.within m has in
      record { first_row = from; last_row = to; first = left; last = omega (arith, right) };
  first_row = is.first some;
  last_row = is.last some;
  first = is.across before own.first;
  last = is.across (63 - after) own.last;
}

pub narrow_white : (f : ℕ → ℕ → Bool) (n : NarrowInk) → n.columns ≡ 0 → IsNarrowInk f n → (r m : ℕ) → f r m ≡ false
narrow_white f n none is r m = by_test (f r m) refl where
  by_test : (b : Bool) → f r m ≡ b → f r m ≡ false
  by_test true black =
      let (from, (to, has)) = is.within r m black in
      absurd (false≢true (sym (no_column m) ∙ rw none at has))
  by_test false white = white

-- the words of rows of one word

own_row : (words : List ℕ) (w r row m word : ℕ) → strips w ≡ 1 → ((j : ℕ) → has_column word j ≡ (nat_lt j w && in_word (slice_index words row) j))
    → ((r == row) && has_column word m) ≡ ((r == row) && row_has words w w r m)
own_row words w r row m word one is = elim (cases_eq r row) [
  | inl same ↦ elim (cases_lt m w) [
    | inl within ↦
        let few : w ≤ 56 = omega (arith, one) in
        let rows : strips w * row ≡ row = rw one (omega arith) in
        let place : (56 * (strips w * row) + m) / 56 ≡ row = omega (arith, rows, within, few) in
        let bit : (56 * (strips w * row) + m) % 56 ≡ m = omega (arith, rows, within, few) in
        rw (same, is m, place, bit) refl
    | inr past ↦
        let off : nat_lt m w ≡ false = grind (arith, nat_tests) in
        rw (same, is m, off) refl
  ]
  | inr other ↦ let off : (r == row) ≡ false = grind (arith, nat_tests) in rw off refl
]

pub rows_above : (row : ℕ) (x : ℕ → ℕ → Bool) → AreAbove row (λ r m. nat_lt r row && x r m)
rows_above row x r m black =
    let (before, rest) = parts (nat_lt r row) (x r m) black in grind (arith, nat_tests, before)

pub narrow_more : (words : List ℕ) (w row word : ℕ) (n : NarrowInk) → strips w ≡ 1
    → ((j : ℕ) → has_column word j ≡ (nat_lt j w && in_word (slice_index words row) j))
    → IsNarrowInk (λ r m. (nat_lt r row && row_has words w w r m) || ((r == row) && has_column word m)) n
    → IsNarrowInk (λ r m. nat_lt r (row + 1) && row_has words w w r m) n
narrow_more words w row word n one is so_far =
    narrow_same (λ r m. (nat_lt r row && row_has words w w r m) || ((r == row) && has_column word m))
    (λ r m. nat_lt r (row + 1) && row_has words w w r m) n
    (λ r m. ap (λ (x : Bool). (nat_lt r row && row_has words w w r m) || x) (own_row words w r row m word one is)
    ∙ one_row_more r row (row_has words w w r m)) so_far
