-- The pixels of a bitmap, as a row of a picture shows them.
use Rattle.std.proofs.Common.{◌≡◌, ◌∙◌, ap, refl, ℕ, ◌+◌, ◌<◌, ◌≤◌, Bool, true, false, ◌&&◌, nat_le, nat_lt, ℤ, pos, ◌+ℤ◌, ◌-ℤ◌, ◌≤ℤ◌, ◌<ℤ◌, int_le, int_lt, unsigned_abs, arith, inl, inr}
use Rattle.std.proofs.lemmas.Bool.Decides.{nat_tests}
use Rattle.std.proofs.lemmas.Bool.{cases_lt}
use Rattle.std.proofs.lemmas.Int.{by_lt_z, ints}
use Rattle.tt_bitmap.specs.Bitmaps.{BoxBitmap, is_black, is_column, is_line, number_at, pixel, shown_in}

rearranged : (t w s x : Bool) → (t && (w && (s && x))) ≡ (w && ((s && t) && x))
rearranged true true true x = refl
rearranged true true false x = refl
rearranged true false s x = refl
rearranged false true true x = refl
rearranged false true false x = refl
rearranged false false s x = refl

-- the columns of the box
columns_are : (left column at : ℤ) (width c : ℕ) → at ≡ column +ℤ left
    → (int_le at (pos c) && nat_lt (unsigned_abs (pos c -ℤ at)) width) ≡ is_column left width (pos c -ℤ column)
columns_are left column at width c is =
    by_lt_z (pos c) at
    (λ before.
    let off : int_le at (pos c) ≡ false = grind (arith, ints) in
    let out : int_le left (pos c -ℤ column) ≡ false = let less : (pos c -ℤ column) <ℤ left = omega (arith, ints, is) in grind (arith, ints) in
    rw (off, out) refl)
    (λ from.
    let on : int_le at (pos c) ≡ true = grind (arith, ints) in
    let inside : int_le left (pos c -ℤ column) ≡ true = let more : left ≤ℤ (pos c -ℤ column) = omega (arith, ints, is) in grind (arith, ints) in
    elim (cases_lt (unsigned_abs (pos c -ℤ at)) width) [
      | inl within ↦
          let yes : nat_lt (unsigned_abs (pos c -ℤ at)) width ≡ true = grind (arith, nat_tests) in
          let too : int_lt (pos c -ℤ column) (left +ℤ pos width) ≡ true =
          let less : (pos c -ℤ column) <ℤ (left +ℤ pos width) = omega (arith, ints, is) in grind (arith, ints) in
          rw (on, inside, yes, too) refl
      | inr past ↦
          let no_more : nat_lt (unsigned_abs (pos c -ℤ at)) width ≡ false = grind (arith, nat_tests) in
          let either : int_lt (pos c -ℤ column) (left +ℤ pos width) ≡ false =
          let more : (left +ℤ pos width) ≤ℤ (pos c -ℤ column) = omega (arith, ints, is) in grind (arith, ints) in
          rw (on, inside, no_more, either) refl
    ])

-- the pixel where the row is one of the bitmap's, and white elsewhere
same_where : (t x y : Bool) → (t ≡ true → x ≡ y) → (t && x) ≡ (t && y)
same_where true x y is = is refl
same_where false x y is = refl

pub shown_black : (b : BoxBitmap) (column at j : ℤ) (w t : Bool) (r c : ℕ) → at ≡ column +ℤ b.left
    → t ≡ is_line b.top b.height j → (t ≡ true → unsigned_abs (b.top -ℤ j) ≡ r)
    → (t && (w && shown_in b.words b.width at b.width r c)) ≡ (w && is_black b (pos c -ℤ column) j)
shown_black b column at j w t r c is lies row =
    let columns = columns_are b.left column at b.width c is in
    let place : unsigned_abs ((pos c -ℤ column) -ℤ b.left) ≡ unsigned_abs (pos c -ℤ at) =
    let one : (pos c -ℤ column) -ℤ b.left ≡ pos c -ℤ at = omega (arith, ints, is) in ap (λ z. unsigned_abs z) one in
    let same = same_where t (w && shown_in b.words b.width at b.width r c)
    (w && shown_in b.words b.width at b.width (unsigned_abs (b.top -ℤ j)) c) (λ yes. rw (row yes) refl) in
    same
    ∙ rearranged t w (int_le at (pos c) && nat_lt (unsigned_abs (pos c -ℤ at)) b.width)
    (pixel b.words (number_at b.width (unsigned_abs (b.top -ℤ j)) (unsigned_abs (pos c -ℤ at))))
    ∙ rw (columns, place, lies) refl

-- a number that passes both tests
pub among : (first count i : ℕ) → (nat_le first i && nat_lt i (first + count)) ≡ true → (first ≤ i) × (i < first + count)
among first count i passed = (grind (arith, nat_tests), grind (arith, nat_tests))
