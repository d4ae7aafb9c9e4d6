-- Some rows of a bitmap.
use Rattle.std.proofs.Common.{◌≡◌, ◌∙◌, ap, refl, ℕ, ◌+◌, ◌-◌, ◌*◌, ◌/◌, ◌%◌, ◌<◌, ◌≤◌, true, ◌&&◌, List, drop, slice_index, ℤ, pos, ◌+ℤ◌, ◌-ℤ◌, ◌≤ℤ◌, ◌<ℤ◌, int_le, int_lt, unsigned_abs, arith, inl, inr}
use Rattle.std.specs.List.{slice_range}
use Rattle.std.proofs.lemmas.Bool.{cases_Bool}
use Rattle.std.proofs.lemmas.Int.{ints}
use Rattle.std.proofs.lemmas.List.{get_or-drop, get_or-take}
use Rattle.std.proofs.lemmas.Nat.{mul-le}
use Rattle.tt_bitmap.specs.Bitmaps.{BoxBitmap, is_black, is_column, is_line, number_at, pixel, strips}
use Rattle.tt_bitmap.specs.Words.{in_word}
use Rattle.tt_bitmap.proofs.Bools.{never, parts}
use Rattle.tt_bitmap.proofs.Places.{on_line}

cropped_pixel : (words : List ℕ) (w h own r m : ℕ) → r < h → m < w
    → pixel (slice_range words (strips w * own) (strips w * (own + h))) (number_at w r m) ≡ pixel words (number_at w (own + r) m)
cropped_pixel words w h own r m row column =
    let rows : strips w * (own + h) ≡ strips w * own + strips w * h = omega arith in
    let sum : strips w * (own + r) ≡ strips w * own + strips w * r = omega arith in
    let ends : strips w * (r + 1) ≤ strips w * h = mul-le (strips w) (r + 1) (strips w) h (omega arith) (omega (arith, row)) in
    let begin : ℕ = strips w * own in
    let at : ℕ = (56 * (strips w * r) + m) / 56 in
    let low : at < strips w * (own + h) - begin = omega (arith, rows, ends, column) in
    let word : begin + at ≡ (56 * (strips w * (own + r)) + m) / 56 = omega (arith, sum) in
    let bit : (56 * (strips w * r) + m) % 56 ≡ (56 * (strips w * (own + r)) + m) % 56 = omega (arith, sum) in
    let same : slice_index (slice_range words begin (strips w * (own + h))) at ≡ slice_index words ((56 * (strips w * (own + r)) + m) / 56) =
    get_or-take (strips w * (own + h) - begin) (drop begin words) at 0 low ∙ get_or-drop begin words at 0 ∙ ap (λ x. slice_index words x) word in
    ap (λ x. in_word x ((56 * (strips w * r) + m) % 56)) same ∙ ap (λ x. in_word (slice_index words ((56 * (strips w * (own + r)) + m) / 56)) x) bit

-- the rows from row `own` on are the lines from line `top` down
pub cropped : (b : BoxBitmap) (top : ℤ) (height own : ℕ) (c j : ℤ) → top ≤ℤ b.top → own ≡ unsigned_abs (b.top -ℤ top) → own + height ≤ b.height
    → is_black (record { left = b.left; top = top; width = b.width; height = height; words = slice_range b.words (strips b.width * own) (strips b.width * (own + height)) }) c j
    ≡ (is_line top height j && is_black b c j)
cropped b top height own c j above is_own within = elim (cases_Bool (is_line top height j)) [
  | inl on ↦
      let row = on_line top height j on in
      let from_top = row.from_top in
      let low = row.above in
      let over : (b.top -ℤ pos b.height) <ℤ j = omega (arith, ints, above, is_own, within, from_top, low) in
      let under : j ≤ℤ b.top = omega (arith, ints, above, from_top) in
      let one : int_lt (b.top -ℤ pos b.height) j ≡ true = grind (arith, ints) in
      let two : int_le j b.top ≡ true = grind (arith, ints) in
      elim (cases_Bool (is_column b.left b.width c)) [
        | inl has ↦
            let line : unsigned_abs (b.top -ℤ j) ≡ own + unsigned_abs (top -ℤ j) = omega (arith, ints, above, is_own, from_top) in
            let (left, right) = parts (int_le b.left c) (int_lt c (b.left +ℤ pos b.width)) has in
            let from : b.left ≤ℤ c = grind (arith, ints, left) in
            let to : c <ℤ (b.left +ℤ pos b.width) = grind (arith, ints, right) in
            let column : unsigned_abs (c -ℤ b.left) < b.width = omega (arith, ints, from, to) in
            let black = cropped_pixel b.words b.width height own (unsigned_abs (top -ℤ j)) (unsigned_abs (c -ℤ b.left)) low column in
            rw (has, on, one, two, line, black) refl
        | inr lacks ↦ rw (lacks, on) refl
      ]
  | inr off ↦ rw (off, never (is_column b.left b.width c)) refl
]
