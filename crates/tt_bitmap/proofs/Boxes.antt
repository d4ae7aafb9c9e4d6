-- The box of a bitmap by the sides of its rows, and a bitmap of white words.
use Rattle.std.proofs.Common.{◌≡◌, ◌∙◌, refl, sym, ℕ, zero, suc, ◌-◌, ◌/◌, ◌%◌, ◌^◌, ◌<◌, Bool, true, false, ◌&&◌, nat_lt, slice_index, replicate, ℤ, pos, ◌+ℤ◌, ◌-ℤ◌, ◌≤ℤ◌, ◌<ℤ◌, int_le, int_lt, unsigned_abs, arith, inl, inr}
use Rattle.std.proofs.lemmas.Bool.Decides.{nat_tests}
use Rattle.std.proofs.lemmas.Bool.{cases_Bool, false≢true}
use Rattle.std.proofs.lemmas.Int.{ints}
use Rattle.std.proofs.lemmas.Nat.Bits.{bit_at-zero}
use Rattle.tt_bitmap.specs.Bitmaps.{BoxBitmap, BoxFits, has, is_black, number, number_at, pixel}
use Rattle.tt_bitmap.specs.Inks.{AreLeast, IsLeastBox, IsNear, box_by, row_has}
use Rattle.tt_bitmap.specs.declared.ink.InkSides.{InkSides}
use Rattle.tt_bitmap.specs.declared.ink.LeastBox.{LeastBox}
use Rattle.tt_bitmap.proofs.Bools.{never, parts}
use Rattle.tt_bitmap.proofs.Places.{inside}

-- the rows of a bitmap
abbrev pub black_at : BoxBitmap → ℕ → ℕ → Bool
black_at b r m = nat_lt r b.height && row_has b.words b.width b.width r m

black_where : (b : BoxBitmap) (c j : ℤ) → is_black b c j ≡ true → black_at b (unsigned_abs (b.top -ℤ j)) (unsigned_abs (c -ℤ b.left)) ≡ true
black_where b c j is =
    let (here, black) = parts (has b c j) (pixel b.words (number b c j)) is in
    let place = inside b.left b.top b.width b.height c j here in
    let row : nat_lt (unsigned_abs (b.top -ℤ j)) b.height ≡ true = let below = place.above in grind (arith, nat_tests) in
    let column : nat_lt (unsigned_abs (c -ℤ b.left)) b.width ≡ true = let below = place.across in grind (arith, nat_tests) in
    rw (row, column) black

where_black : (b : BoxBitmap) (r m : ℕ) → black_at b r m ≡ true → is_black b (b.left +ℤ pos m) (b.top -ℤ pos r) ≡ true
where_black b r m is =
    let (row, rest) = parts (nat_lt r b.height) (row_has b.words b.width b.width r m) is in
    let (column, black) = parts (nat_lt m b.width) (pixel b.words (number_at b.width r m)) rest in
    let low : r < b.height = grind (arith, nat_tests) in
    let narrow : m < b.width = grind (arith, nat_tests) in
    let one : int_le b.left (b.left +ℤ pos m) ≡ true = let t : b.left ≤ℤ (b.left +ℤ pos m) = omega (arith, ints) in grind (arith, ints) in
    let two : int_lt (b.left +ℤ pos m) (b.left +ℤ pos b.width) ≡ true = let t : (b.left +ℤ pos m) <ℤ (b.left +ℤ pos b.width) = omega (arith, ints, narrow) in grind (arith, ints) in
    let three : int_lt (b.top -ℤ pos b.height) (b.top -ℤ pos r) ≡ true = let t : (b.top -ℤ pos b.height) <ℤ (b.top -ℤ pos r) = omega (arith, ints, low) in grind (arith, ints) in
    let four : int_le (b.top -ℤ pos r) b.top ≡ true = let t : (b.top -ℤ pos r) ≤ℤ b.top = omega (arith, ints) in grind (arith, ints) in
    let line : unsigned_abs (b.top -ℤ (b.top -ℤ pos r)) ≡ r = omega (arith, ints) in
    let place : unsigned_abs ((b.left +ℤ pos m) -ℤ b.left) ≡ m = omega (arith, ints) in
    rw (one, two, three, four, line, place) black

pub box_least : (b : BoxBitmap) (s : InkSides) → AreLeast (black_at b) s → IsLeastBox (is_black b) (box_by b.left b.top s)
box_least b s are = record {
  within = λ c j is.
      let in_box = are.within (unsigned_abs (b.top -ℤ j)) (unsigned_abs (c -ℤ b.left)) (black_where b c j is) in
      let (here, black) = parts (has b c j) (pixel b.words (number b c j)) is in
      let place = inside b.left b.top b.width b.height c j here in
      let from = place.from_left in
      let under = place.from_top in
      record {
        left = omega (arith, ints, in_box.first, from);
        right = omega (arith, ints, in_box.last, from);
        bottom = omega (arith, ints, in_box.last_row, under);
        top = omega (arith, ints, in_box.first_row, under);
      };
  left = let (r, has_it) = are.first in (b.top -ℤ pos r, where_black b r s.first has_it);
  right = let (r, has_it) = are.last in (b.top -ℤ pos r, where_black b r s.last has_it);
  bottom = let (m, has_it) = are.last_row in (b.left +ℤ pos m, where_black b s.last_row m has_it);
  top = let (m, has_it) = are.first_row in (b.left +ℤ pos m, where_black b s.first_row m has_it);
}

-- a black pixel is as near as the box of its bitmap
record IsNearPixel (c j : ℤ) : Type 0 where
  pub column : unsigned_abs c < 2 ^ 22
  pub line : unsigned_abs j < 2 ^ 22

near_pixel : (b : BoxBitmap) (c j : ℤ) → BoxFits b.left b.top b.width b.height → is_black b c j ≡ true → IsNearPixel c j
near_pixel b c j fits is =
    let (here, black) = parts (has b c j) (pixel b.words (number b c j)) is in
    let place = inside b.left b.top b.width b.height c j here in
    let left = fits.near_left in
    let top = fits.near_top in
    let narrow = fits.narrow in
    let low = fits.low in
    let across = place.across in
    let above = place.above in
    record {
      column = omega (arith, ints, left, narrow, across);
      line = omega (arith, ints, top, low, above);
    }

-- and so is a side, which has a black pixel
pub box_near : (b : BoxBitmap) (x : LeastBox) → BoxFits b.left b.top b.width b.height → IsLeastBox (is_black b) x → IsNear x
box_near b x fits least = record {
  left = (near_pixel b x.left least.left.0 fits least.left.1).column;
  bottom = (near_pixel b least.bottom.0 x.bottom fits least.bottom.1).line;
  right = (near_pixel b x.right least.right.0 fits least.right.1).column;
  top = (near_pixel b least.top.0 x.top fits least.top.1).line;
}

pub all_white : (b : BoxBitmap) → ((r m : ℕ) → black_at b r m ≡ false) → (c j : ℤ) → is_black b c j ≡ false
all_white b none c j = elim (cases_Bool (is_black b c j)) [
  | inl black ↦ absurd (false≢true (sym (none (unsigned_abs (b.top -ℤ j)) (unsigned_abs (c -ℤ b.left))) ∙ black_where b c j black))
  | inr white ↦ white
]

-- white words

zero_everywhere : (n i : ℕ) → slice_index (replicate n 0) i ≡ 0
zero_everywhere zero i = refl
zero_everywhere (suc n) zero = refl
zero_everywhere (suc n) (suc i) = zero_everywhere n i

pub no_pixel : (n i : ℕ) → pixel (replicate n 0) i ≡ false
no_pixel n i = rw (zero_everywhere n (i / 56), bit_at-zero (63 - i % 56)) refl

pub white_words : (b : BoxBitmap) (n : ℕ) (c j : ℤ) → b.words ≡ replicate n 0 → is_black b c j ≡ false
white_words b n c j is = rw (is, no_pixel n (number b c j)) (never (has b c j))

pub white_at : (left top : ℤ) (width height n : ℕ) (c j : ℤ)
    → is_black (record { left = left; top = top; width = width; height = height; words = replicate n 0 }) c j ≡ false
white_at left top width height n c j = white_words (record { left = left; top = top; width = width; height = height; words = replicate n 0 }) n c j refl
