-- The least sides of black pixels, one word more at a time.
use Rattle.std.proofs.Common.{◌≡◌, ◌∙◌, refl, sym, ap, ℕ, suc, ◌+◌, ◌-◌, ◌*◌, ◌^◌, ◌<◌, ◌≤◌, Bool, true, false, ◌&&◌, ◌||◌, ◌==◌, nat_le, nat_lt, min, max, bit_and, Option, Some, None, w64, arith, inl, inr}
use Rattle.std.specs.Int.{bit_at, trailing_zeros}
use Rattle.std.proofs.lemmas.Bool.Decides.{nat_tests}
use Rattle.std.proofs.lemmas.Bool.{cases_Bool, cases_lt, false≢true}
use Rattle.std.proofs.lemmas.Nat.{leading_top}
use Rattle.std.proofs.lemmas.Nat.Bits.{bit_at-trailing_zeros, bit_at-zero, bit_at_above, bit_at_cat_high}
use Rattle.tt_bitmap.specs.Inks.{AreLeast, AreSides, has_column, in_row}
use Rattle.tt_bitmap.specs.Words.{in_word}
use Rattle.tt_bitmap.specs.declared.ink.InkSides.{InkSides}
use Rattle.tt_bitmap.proofs.Bools.{either, never, or_false}
use Rattle.tt_bitmap.proofs.Turns.{ones_masked}
use lib.Count.{count_leading_zeros}

swapped : (x y : Bool) → (x && y) ≡ (y && x)
swapped true true = refl
swapped true false = refl
swapped false true = refl
swapped false false = refl

pub left_or : (a b : Bool) → a ≡ true → (a || b) ≡ true
left_or true b is = refl
left_or false b is = absurd (false≢true is)

right_or : (a b : Bool) → b ≡ true → (a || b) ≡ true
right_or true b is = refl
right_or false b is = is

-- the same pixels have the same sides

least_same : (f g : ℕ → ℕ → Bool) (s : InkSides) → ((r m : ℕ) → f r m ≡ g r m) → AreLeast f s → AreLeast g s
least_same f g s same are = record {
  within = λ r m black. are.within r m (same r m ∙ black);
  first_row = let (m, has) = are.first_row in (m, sym (same s.first_row m) ∙ has);
  last_row = let (m, has) = are.last_row in (m, sym (same s.last_row m) ∙ has);
  first = let (r, has) = are.first in (r, sym (same r s.first) ∙ has);
  last = let (r, has) = are.last in (r, sym (same r s.last) ∙ has);
}

pub sides_same : (f g : ℕ → ℕ → Bool) (s : Option InkSides) → ((r m : ℕ) → f r m ≡ g r m) → AreSides f s → AreSides g s
sides_same f g None same none = λ r m. sym (same r m) ∙ none r m
sides_same f g (Some s) same are = least_same f g s same are

-- joined

pub joined_least : (f g : ℕ → ℕ → Bool) (a b : InkSides) → AreLeast f a → AreLeast g b
    → AreLeast (λ r m. f r m || g r m) (record { first_row = min a.first_row b.first_row; last_row = max a.last_row b.last_row; first = min a.first b.first; last = max a.last b.last })
joined_least f g a b one two = record {
  within = λ r m black. elim (either (f r m) (g r m) black) [
    | inl here ↦
        let is = one.within r m here in
        record { first_row = omega (arith, is.first_row); last_row = omega (arith, is.last_row); first = omega (arith, is.first); last = omega (arith, is.last) }
    | inr here ↦
        let is = two.within r m here in
        record { first_row = omega (arith, is.first_row); last_row = omega (arith, is.last_row); first = omega (arith, is.first); last = omega (arith, is.last) }
  ];
  first_row = elim (cases_lt a.first_row b.first_row) [
    | inl less ↦ let (m, has) = one.first_row in let is : min a.first_row b.first_row ≡ a.first_row = omega (arith, less) in (m, rw is (left_or _ _ has))
    | inr more ↦ let (m, has) = two.first_row in let is : min a.first_row b.first_row ≡ b.first_row = omega (arith, more) in (m, rw is (right_or _ _ has))
  ];
  last_row = elim (cases_lt a.last_row b.last_row) [
    | inl less ↦ let (m, has) = two.last_row in let is : max a.last_row b.last_row ≡ b.last_row = omega (arith, less) in (m, rw is (right_or _ _ has))
    | inr more ↦ let (m, has) = one.last_row in let is : max a.last_row b.last_row ≡ a.last_row = omega (arith, more) in (m, rw is (left_or _ _ has))
  ];
  first = elim (cases_lt a.first b.first) [
    | inl less ↦ let (r, has) = one.first in let is : min a.first b.first ≡ a.first = omega (arith, less) in (r, rw is (left_or _ _ has))
    | inr more ↦ let (r, has) = two.first in let is : min a.first b.first ≡ b.first = omega (arith, more) in (r, rw is (right_or _ _ has))
  ];
  last = elim (cases_lt a.last b.last) [
    | inl less ↦ let (r, has) = two.last in let is : max a.last b.last ≡ b.last = omega (arith, less) in (r, rw is (right_or _ _ has))
    | inr more ↦ let (r, has) = one.last in let is : max a.last b.last ≡ a.last = omega (arith, more) in (r, rw is (left_or _ _ has))
  ];
}

-- the first and the last column of a word

highest : (word j : ℕ) → 2 ^ j ≤ word → word < 2 ^ suc j → bit_at word j ≡ 1
highest word j low high =
    let split : 1 * 2 ^ j + (word - 2 ^ j) ≡ word = omega (arith, low) in
    let twice : 2 ^ suc j ≡ 2 * 2 ^ j = omega arith in
    let none : j - j ≡ 0 = omega arith in
    ap (λ n. bit_at n j) (sym split) ∙ bit_at_cat_high 1 j (word - 2 ^ j) j (omega (arith, low, high, twice)) (omega arith)
    ∙ ap (bit_at 1) none

column_is : (word m : ℕ) → m < 64 → bit_at word (63 - m) ≡ 1 → has_column word m ≡ true
column_is word m few one = let on : nat_lt m 64 ≡ true = grind (arith, nat_tests) in rw (on, one) refl

column_few : (word m : ℕ) → has_column word m ≡ true → m < 64
column_few word m is = elim (cases_lt m 64) [
  | inl few ↦ few
  | inr past ↦ let off : nat_lt m 64 ≡ false = grind (arith, nat_tests) in absurd (false≢true (rw off at is))
]

pub column_white : (word m : ℕ) → bit_at word (63 - m) ≡ 0 → has_column word m ≡ false
column_white word m none = rw none (never (nat_lt m 64))

pub record IsBetween (word before after : ℕ) : Type 0 where
  pub first : has_column word before ≡ true
  pub last : has_column word (63 - after) ≡ true
  pub few : after ≤ 63
  pub within : (m : ℕ) → has_column word m ≡ true → (before ≤ m) × (m + after ≤ 63)

pub between : (word : ℕ) → 0 < word → word < 2 ^ 64 → IsBetween word (count_leading_zeros 64 word) (trailing_zeros w64 word)
between word some fits =
    let (j, is, low, high) = leading_top 64 word some fits in
    let before : ℕ = count_leading_zeros 64 word in
    let after : ℕ = trailing_zeros w64 word in
    let (few, one, none) = bit_at-trailing_zeros w64 word some fits in
    let top : 63 - before ≡ j = omega (arith, is) in
    let bottom : 63 - (63 - after) ≡ after = omega (arith, few) in
    record {
      first = column_is word before (omega (arith, is)) (ap (bit_at word) top ∙ highest word j low high);
      last = column_is word (63 - after) (omega arith) (ap (bit_at word) bottom ∙ one);
      few = omega (arith, few);
      within = λ m black.
          let inside = column_few word m black in (
            elim (cases_lt m before) [
              | inl left ↦ absurd (false≢true (sym (column_white word m (bit_at_above word (suc j) (63 - m) high (omega (arith, left, is)))) ∙ black))
              | inr right ↦ right
            ],
            elim (cases_lt (63 - m) after) [
              | inl past ↦ absurd (false≢true (sym (column_white word m (none (63 - m) past)) ∙ black))
              | inr here ↦ omega (arith, inside, here)
            ],
          );
    }

-- a word in its row

split_row : (word row begin r m : ℕ) → in_row word row begin r m ≡ true → (r ≡ row) × ((begin ≤ m) × (has_column word (m - begin) ≡ true))
split_row word row begin r m is = elim (cases_Bool (r == row)) [
  | inl same ↦ elim (cases_Bool (nat_le begin m)) [
    | inl from ↦ (grind (arith, nat_tests), (grind (arith, nat_tests), rw (same, from) at is))
    | inr before ↦ absurd (false≢true (rw (same, before) at is))
  ]
  | inr other ↦ absurd (false≢true (rw other at is))
]

in_own : (word row begin j : ℕ) → has_column word j ≡ true → in_row word row begin row (begin + j) ≡ true
in_own word row begin j has =
    let same : (row == row) ≡ true = grind (arith, nat_tests) in
    let from : nat_le begin (begin + j) ≡ true = grind (arith, nat_tests) in
    let at : begin + j - begin ≡ j = omega arith in
    rw (same, from, at) has

pub word_least : (word row begin before after : ℕ) → IsBetween word before after
    → AreLeast (in_row word row begin) (record { first_row = row; last_row = row; first = begin + before; last = begin + 63 - after })
word_least word row begin before after is =
    let few = is.few in
    let last : begin + (63 - after) ≡ begin + 63 - after = omega (arith, few) in
    record {
      within = λ r m black.
          let (same, rest) = split_row word row begin r m black in let (from, has) = rest in
          let (low, high) = is.within (m - begin) has in
          record { first_row = omega (arith, same); last_row = omega (arith, same); first = omega (arith, from, low); last = omega (arith, from, high, few) };
      first_row = (begin + before, in_own word row begin before is.first);
      last_row = (begin + before, in_own word row begin before is.first);
      first = (row, in_own word row begin before is.first);
      last = (row, rw (← last) (in_own word row begin (63 - after) is.last));
    }

pub no_word : (word row begin r m : ℕ) → word ≡ 0 → in_row word row begin r m ≡ false
no_word word row begin r m none =
    let white : has_column 0 (m - begin) ≡ false = column_white 0 (m - begin) (bit_at-zero (63 - (m - begin))) in
    rw (none, white, never (nat_le begin m)) (never (r == row))

pub with_none : (f : ℕ → ℕ → Bool) (s : Option InkSides) (word row begin : ℕ) → word ≡ 0 → AreSides f s
    → AreSides (λ r m. f r m || in_row word row begin r m) s
with_none f s word row begin none are =
    sides_same f (λ r m. f r m || in_row word row begin r m) s (λ r m. sym (rw (no_word word row begin r m none) (sym (or_false (f r m))))) are

pub with_first : (f : ℕ → ℕ → Bool) (s : InkSides) (word row begin : ℕ) → ((r m : ℕ) → f r m ≡ false) → AreLeast (in_row word row begin) s
    → AreLeast (λ r m. f r m || in_row word row begin r m) s
with_first f s word row begin white are =
    least_same (in_row word row begin) (λ r m. f r m || in_row word row begin r m) s (λ r m. sym (rw (white r m) refl)) are

-- a word's first columns
pub columns_first : (word ones room j : ℕ) → room ≤ 56 → ((i : ℕ) → i < 64 → in_word ones i ≡ (nat_le 0 i && nat_lt i room))
    → has_column (bit_and word ones) j ≡ (nat_lt j room && in_word word j)
columns_first word ones room j few is = elim (cases_lt j 64) [
  | inl inside ↦
      let on : nat_lt j 64 ≡ true = grind (arith, nat_tests) in
      let begun : nat_le 0 j ≡ true = grind (arith, nat_tests) in
      rw (on, ones_masked word ones j, is j inside, begun) (swapped (in_word word j) (nat_lt j room))
  | inr out ↦
      let off : nat_lt j 64 ≡ false = grind (arith, nat_tests) in
      let none : nat_lt j room ≡ false = grind (arith, nat_tests) in
      rw (off, none) refl
]
