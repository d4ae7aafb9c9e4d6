-- The number of a pixel of a box, and the words that have it.
use Rattle.std.proofs.Common.{◌≡◌, refl, ℕ, ◌+◌, ◌*◌, ◌^◌, ◌<◌, ◌≤◌, Bool, true, false, ◌&&◌, ℤ, pos, ◌+ℤ◌, ◌-ℤ◌, ◌≤ℤ◌, ◌<ℤ◌, int_le, int_lt, unsigned_abs, arith}
use Rattle.std.proofs.lemmas.Int.{ints}
use Rattle.std.proofs.lemmas.Nat.{mul-le}
use Rattle.tt_bitmap.specs.Bitmaps.{has_box, is_line, strips}
use Rattle.tt_bitmap.proofs.Bools.{parts}

parted : (a b x y : Bool) → ((a && b) && (x && y)) ≡ true → (a ≡ true) × (b ≡ true) × (x ≡ true) × (y ≡ true)
parted true true true y is = (refl, refl, refl, is)
parted true true false y is = absurd cc
parted true false x y is = absurd cc
parted false b x y is = absurd cc

-- where a pixel of the box is
pub record IsInside (left top : ℤ) (width height : ℕ) (c j : ℤ) : Type 0 where
  pub from_left : left ≤ℤ c
  pub from_top : j ≤ℤ top
  pub across : unsigned_abs (c -ℤ left) < width
  pub above : unsigned_abs (top -ℤ j) < height

pub inside : (left top : ℤ) (width height : ℕ) (c j : ℤ) → has_box left top width height c j ≡ true → IsInside left top width height c j
inside left top width height c j is =
    let (one, two, three, four) = parted (int_le left c) (int_lt c (left +ℤ pos width)) (int_lt (top -ℤ pos height) j) (int_le j top) is in
    let from : left ≤ℤ c = grind (arith, ints, one) in
    let to : c <ℤ (left +ℤ pos width) = grind (arith, ints, two) in
    let over : (top -ℤ pos height) <ℤ j = grind (arith, ints, three) in
    let under : j ≤ℤ top = grind (arith, ints, four) in
    record {
      from_left = from;
      from_top = under;
      across = omega (arith, ints, from, to);
      above = omega (arith, ints, over, under);
    }

-- the rows of words are as many as fit in a bitmap of many lines
pub record RowFits (width height above : ℕ) : Type 0 where
  pub ends : strips width * above + strips width ≤ strips width * height
  pub small : strips width * height ≤ 2 ^ 40

pub row_fits : (width height above : ℕ) → width < 2 ^ 20 → height < 2 ^ 20 → above < height → RowFits width height above
row_fits width height above narrow low row =
    let few : strips width ≤ 2 ^ 20 = omega (arith, narrow) in
    let all : strips width * height ≤ 2 ^ 20 * 2 ^ 20 = mul-le (strips width) height (2 ^ 20) (2 ^ 20) few (omega (arith, low)) in
    let more : strips width * (above + 1) ≤ strips width * height = mul-le (strips width) (above + 1) (strips width) height (omega arith) (omega (arith, row)) in
    record {
      ends = omega (arith, more);
      small = omega (arith, all);
    }

-- the line of a box
pub record IsOnLine (top : ℤ) (height : ℕ) (j : ℤ) : Type 0 where
  pub from_top : j ≤ℤ top
  pub above : unsigned_abs (top -ℤ j) < height

pub on_line : (top : ℤ) (height : ℕ) (j : ℤ) → is_line top height j ≡ true → IsOnLine top height j
on_line top height j is =
    let (one, two) = parts (int_lt (top -ℤ pos height) j) (int_le j top) is in
    let over : (top -ℤ pos height) <ℤ j = grind (arith, ints, one) in
    let under : j ≤ℤ top = grind (arith, ints, two) in
    record {
      from_top = under;
      above = omega (arith, ints, over, under);
    }
