-- Pixels of a bitmap made black.
use Rattle.std.proofs.Common.{◌≡◌, ◌∙◌, sym, refl, ℕ, ◌+◌, ◌*◌, ◌<◌, ◌≤◌, Bool, true, false, ◌&&◌, ◌||◌, ◌==◌, nat_le, nat_lt, max, List, ℤ, pos, ◌+ℤ◌, ◌-ℤ◌, ◌≤ℤ◌, int_le, unsigned_abs, arith, inl, inr}
use Rattle.std.specs.Ordering.{int_eq}
use Rattle.std.proofs.lemmas.Bool.{cases_lt}
use Rattle.std.proofs.lemmas.Bool.Decides.{nat_tests}
use Rattle.std.proofs.lemmas.Int.{ints}
use Rattle.std.proofs.lemmas.Nat.{mul-le}
use Rattle.tt_bitmap.specs.Bitmaps.{BoxBitmap, has, is_black, is_column, is_line, number, number_at, pixel, strips}
use Rattle.tt_bitmap.proofs.Bools.{never, or_false, parts}
use Rattle.tt_bitmap.proofs.Places.{inside}

-- the numbers of a run of pixels of row s are those of its columns

past_row : (w r s a : ℕ) → r < s → a < w → 56 * (strips w * r) + a < 56 * (strips w * s)
past_row w r s a less column =
    let more : strips w * (r + 1) ≤ strips w * s = mul-le (strips w) (r + 1) (strips w) s (omega arith) (omega (arith, less)) in
    let enough : a < 56 * strips w = omega (arith, column) in
    omega (arith, more, enough)

in_run : (w r s m a b from past : ℕ) → m < w → past ≤ w → a ≡ 56 * (strips w * s) + from → b ≡ 56 * (strips w * s) + past
    → (nat_le a (number_at w r m) && nat_lt (number_at w r m) b) ≡ (r == s && (nat_le from m && nat_lt m past))
in_run w r s m a b from past column within is_a is_b = elim (cases_lt r s) [
  | inl above ↦
      let far = past_row w r s m above column in
      let off : nat_le a (number_at w r m) ≡ false = let less : number_at w r m < a = omega (arith, far, is_a) in grind (arith, nat_tests) in
      let other : (r == s) ≡ false = grind (arith, nat_tests) in
      rw (off, other) refl
  | inr not_above ↦ elim (cases_lt s r) [
    | inl below ↦
        let more : strips w * (s + 1) ≤ strips w * r = mul-le (strips w) (s + 1) (strips w) r (omega arith) (omega (arith, below)) in
        let enough : past ≤ 56 * strips w = omega (arith, within) in
        let off : nat_lt (number_at w r m) b ≡ false = let over : b ≤ number_at w r m = omega (arith, more, enough, is_b) in grind (arith, nat_tests) in
        let other : (r == s) ≡ false = grind (arith, nat_tests) in
        rw (off, other) (never (nat_le a (number_at w r m)))
    | inr not_below ↦
        let same : r ≡ s = omega (arith, not_above, not_below) in
        let here : (s == s) ≡ true = grind (arith, nat_tests) in
        let low : nat_le a (number_at w s m) ≡ nat_le from m = grind (arith, nat_tests) in
        let high : nat_lt (number_at w s m) b ≡ nat_lt m past = grind (arith, nat_tests) in
        rw (same, here, low, high) refl
  ]
]

pub same_top : (top j k : ℤ) → j ≤ℤ top → k ≤ℤ top → (unsigned_abs (top -ℤ j) == unsigned_abs (top -ℤ k)) ≡ int_eq j k
same_top top j k one two = grind (arith, ints, nat_tests)

-- words made blacker, as the pixels of the box
by_has : (here : Bool) (b : BoxBitmap) (words : List ℕ) (from past : ℕ) (c j : ℤ) (black : Bool) → has b c j ≡ here
    → ((i : ℕ) → pixel words i ≡ (pixel b.words i || (nat_le from i && nat_lt i past)))
    → (has b c j ≡ true → (nat_le from (number b c j) && nat_lt (number b c j) past) ≡ black)
    → is_black (record b { words = words }) c j ≡ (is_black b c j || (has b c j && black))
by_has true b words from past c j black here set same = rw (here, set (number b c j), same here) refl
by_has false b words from past c j black here set same = rw here refl

and_swap : (a b : Bool) → (a && b) ≡ (b && a)
and_swap true true = refl
and_swap true false = refl
and_swap false true = refl
and_swap false false = refl

-- a bitmap of which one pixel was blackened
pub blackened : (b : BoxBitmap) (words : List ℕ) (at : ℕ) (c j column line : ℤ) → has b column line ≡ true → at ≡ number b column line
    → ((i : ℕ) → pixel words i ≡ (pixel b.words i || (nat_le at i && nat_lt i (at + 1))))
    → is_black (record b { words = words }) c j ≡ (is_black b c j || (has b c j && (int_eq c column && int_eq j line)))
blackened b words at c j column line in_it is_at set =
    by_has (has b c j) b words at (at + 1) c j (int_eq c column && int_eq j line) refl set (λ here.
    let one = inside b.left b.top b.width b.height c j here in
    let two = inside b.left b.top b.width b.height column line in_it in
    let from_left = one.from_left in
    let its_left = two.from_left in
    let its_across = two.across in
    let its_row : ℕ = unsigned_abs (b.top -ℤ line) in
    let its_column : ℕ = unsigned_abs (column -ℤ b.left) in
    let columns : (nat_le its_column (unsigned_abs (c -ℤ b.left)) && nat_lt (unsigned_abs (c -ℤ b.left)) (its_column + 1)) ≡ int_eq c column =
    grind (arith, ints, nat_tests) in
    in_run b.width (unsigned_abs (b.top -ℤ j)) its_row (unsigned_abs (c -ℤ b.left)) at (at + 1) its_column (its_column + 1) one.across
    (omega (arith, its_across)) is_at (omega (arith, is_at))
    ∙ rw (columns, same_top b.top j line one.from_top two.from_top) (and_swap (int_eq j line) (int_eq c column)))

to_the_greater : (from past most m : ℕ) → most ≡ max past from → (nat_le from m && nat_lt m most) ≡ (nat_le from m && nat_lt m past)
to_the_greater from past most m is = elim (cases_lt past from) [
  | inl less ↦
      let same : most ≡ from = omega (arith, is, less) in
      let one : (nat_le from m && nat_lt m from) ≡ false = grind (arith, nat_tests) in
      let two : (nat_le from m && nat_lt m past) ≡ false = grind (arith, nat_tests) in
      rw (same, one, two) refl
  | inr more ↦ let same : most ≡ past = omega (arith, is, more) in rw same refl
]

-- a bitmap of which a span of a line was blackened
pub span_blackened : (b : BoxBitmap) (words : List ℕ) (begin from past most : ℕ) (c j line first last : ℤ) → line ≤ℤ b.top
    → begin ≡ number_at b.width (unsigned_abs (b.top -ℤ line)) 0 → most ≡ max past from → most ≤ b.width
    → ((k : ℕ) → k < b.width → int_le first (b.left +ℤ pos k) ≡ nat_le from k)
    → ((k : ℕ) → k < b.width → int_le (b.left +ℤ pos k) last ≡ nat_lt k past)
    → ((i : ℕ) → pixel words i ≡ (pixel b.words i || (nat_le (begin + from) i && nat_lt i (begin + most))))
    → is_black (record b { words = words }) c j ≡ (is_black b c j || (has b c j && (int_eq j line && (int_le first c && int_le c last))))
span_blackened b words begin from past most c j line first last under is_begin is_most within is_first is_last set =
    by_has (has b c j) b words (begin + from) (begin + most) c j (int_eq j line && (int_le first c && int_le c last)) refl set (λ here.
    let one = inside b.left b.top b.width b.height c j here in
    let from_left = one.from_left in
    let m : ℕ = unsigned_abs (c -ℤ b.left) in
    let column : b.left +ℤ pos m ≡ c = omega (arith, ints, from_left) in
    let low : int_le first c ≡ nat_le from m = rw column at (is_first m one.across) in
    let high : int_le c last ≡ nat_lt m past = rw column at (is_last m one.across) in
    in_run b.width (unsigned_abs (b.top -ℤ j)) (unsigned_abs (b.top -ℤ line)) m (begin + from) (begin + most) from most one.across within
    (omega (arith, is_begin)) (omega (arith, is_begin))
    ∙ rw (to_the_greater from past most m is_most, ← low, ← high, same_top b.top j line one.from_top under) refl)

-- what the box lacks is not blackened

pub off_false : (here same : Bool) → (here ≡ true → same ≡ true → false ≡ true) → (here && same) ≡ false
off_false true true none = sym (none refl refl)
off_false true false none = refl
off_false false same none = refl

pub same_line : (j k : ℤ) → int_eq j k ≡ true → j ≡ k
same_line j k is = grind (arith, ints)

pub no_pixel_blackened : (b : BoxBitmap) (c j column line : ℤ) → has b column line ≡ false
    → is_black b c j ≡ (is_black b c j || (has b c j && (int_eq c column && int_eq j line)))
no_pixel_blackened b c j column line lacks =
    let off : (has b c j && (int_eq c column && int_eq j line)) ≡ false =
    off_false (has b c j) (int_eq c column && int_eq j line) (λ here same.
    let (one, two) = parts (int_eq c column) (int_eq j line) same in
    let is_column = same_line c column one in
    let is_row = same_line j line two in
    sym lacks ∙ rw (is_column, is_row) at here) in
    rw off (or_false (is_black b c j))

pub no_span_blackened : (b : BoxBitmap) (c j line : ℤ) (x : Bool) → is_line b.top b.height line ≡ false
    → is_black b c j ≡ (is_black b c j || (has b c j && (int_eq j line && x)))
no_span_blackened b c j line x lacks =
    let off : (has b c j && (int_eq j line && x)) ≡ false =
    off_false (has b c j) (int_eq j line && x) (λ here same.
    let (one, rest) = parts (int_eq j line) x same in
    let (column, row) = parts (is_column b.left b.width c) (is_line b.top b.height j) here in
    let is_row = same_line j line one in
    sym lacks ∙ rw is_row at row) in
    rw off (or_false (is_black b c j))
