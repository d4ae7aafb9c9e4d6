-- The places of a window's pixels among its bits, and the blackening of one pixel.
use Rattle.std.proofs.Common.{◌≡◌, ℕ, zero, suc, ◌+◌, ◌*◌, ◌^◌, ◌<◌, ◌≤◌, ◌==◌, Bool, true, false, ◌&&◌, ◌||◌, ℤ, ◌-ℤ◌, unsigned_abs, List, [], ◌∷◌, length, take, get_or, refl, sym, ◌∙◌, inl, inr, arith}
use Rattle.std.specs.Ordering.{int_eq}
use Rattle.std.proofs.lemmas.Bool.{cases_lt}
use Rattle.std.proofs.lemmas.Bool.Decides.{nat_tests}
use Rattle.std.proofs.lemmas.Int.{ints}
use Rattle.std.proofs.lemmas.Nat.{mul-le}
use Rattle.tt_core.specs.Bits.{bit, stride}
use Rattle.tt_scan_dropouts.specs.Passes.{has_pixel}
use Rattle.tt_scan_dropouts.specs.Windows.{Bitmap, has, is_black_in, is_within, place}
use Rattle.tt_scan_gaps.proofs.Tests.{both, eq_of}
use Rattle.tt_scan_dropouts.specs.declared.pixel.Pixel.{Pixel}
use Rattle.tt_scan_dropouts.specs.declared.window.Window.{Window}

and_swap : (a b : Bool) → (a && b) ≡ (b && a)
and_swap true true = refl
and_swap true false = refl
and_swap false true = refl
and_swap false false = refl

pub or_false : (b : Bool) → b ≡ (b || false)
or_false true = refl
or_false false = refl

pub or_or : (a b c : Bool) → (a || (b || c)) ≡ ((a || b) || c)
or_or true b c = refl
or_or false b c = refl

-- the bytes of the rows below a row, and those of the row, are within those of all rows
pub row_within : (w h r : ℕ) → r < h → stride w * r + stride w ≤ stride w * h
row_within w h r below =
    let least : stride w * (r + 1) ≤ stride w * h = mul-le (stride w) (r + 1) (stride w) h (omega arith) (omega arith) in
    omega (arith, least)

pub place_within : (w h r c : ℕ) → r < h → c < w → 8 * (stride w * r) + c < 8 * (stride w * h)
place_within w h r c below inside = let row = row_within w h r below in omega (arith, row)

-- a window has few bytes
pub few_bytes : (w r : ℕ) → w < 2 ^ 20 → r ≤ 4100 → stride w * r ≤ 2 ^ 17 * 4100
few_bytes w r narrow low = mul-le (stride w) r (2 ^ 17) 4100 (omega arith) low

-- rows with a number of bytes, and columns within them: two places are equal where row and column are
rows_apart : (w r s c d : ℕ) → r < s → c < w → 8 * (stride w * r) + c < 8 * (stride w * s) + d
rows_apart w r s c d less inside = let row = row_within w s r less in omega (arith, row)

pub same_place : (w r s c d : ℕ) → c < w → d < w
    → ((8 * (stride w * r) + c) == (8 * (stride w * s) + d)) ≡ (r == s && c == d)
same_place w r s c d one two = elim (cases_lt r s) [
  | inl less ↦ let apart = rows_apart w r s c d less one in grind (arith, nat_tests)
  | inr not_less ↦ elim (cases_lt s r) [
    | inl more ↦ let apart = rows_apart w s r d c more two in grind (arith, nat_tests)
    | inr not_more ↦ let same : r ≡ s = omega arith in rw same (grind (arith, nat_tests))
  ]
]

-- numbers at equal distances from a first one are equal
pub same_offset : (first : ℤ) (n m : ℕ) (a b : ℤ) → is_within first n a ≡ true → is_within first m b ≡ true
    → (unsigned_abs (a -ℤ first) == unsigned_abs (b -ℤ first)) ≡ int_eq b a
same_offset first n m a b one two = grind (arith, ints, nat_tests)

pub offset_within : (first : ℤ) (n : ℕ) (a : ℤ) → is_within first n a ≡ true → unsigned_abs (a -ℤ first) < n
offset_within first n a within = grind (arith, ints)

-- two pixels of a window have equal places where they are equal
pub one_pixel : (w : Window) (c j d k : ℤ) → has w c j ≡ true → has w d k ≡ true
    → (place w c j == place w d k) ≡ (int_eq d c && int_eq k j)
one_pixel w c j d k one two =
    let a = both (is_within w.left w.width c) (is_within w.bottom w.height j) one in
    let b = both (is_within w.left w.width d) (is_within w.bottom w.height k) two in
    let places = same_place w.width (unsigned_abs (j -ℤ w.bottom)) (unsigned_abs (k -ℤ w.bottom))
    (unsigned_abs (c -ℤ w.left)) (unsigned_abs (d -ℤ w.left)) (offset_within w.left w.width c a.0)
    (offset_within w.left w.width d b.0) in
    places ∙ rw (same_offset w.left w.width w.width c d a.0 b.0, same_offset w.bottom w.height w.height j k a.1 b.1)
    (and_swap (int_eq k j) (int_eq d c))

by_has : (here : Bool) (b : Bitmap) (bits : List ℕ) (c j d k : ℤ) → has b.window c j ≡ here → has b.window d k ≡ true
    → ((i : ℕ) → bit bits i ≡ (bit b.bits i || (i == place b.window d k)))
    → is_black_in (record b { bits = bits }) c j ≡ (is_black_in b c j || (int_eq d c && int_eq k j))
by_has true b bits c j d k here inside set =
    rw (here, set (place b.window c j), one_pixel b.window c j d k here inside) refl
by_has false b bits c j d k here inside set = rw here refl

-- a window in which a pixel was blackened
pub blackened : (b : Bitmap) (bits : List ℕ) (c j d k : ℤ) → has b.window d k ≡ true
    → ((i : ℕ) → bit bits i ≡ (bit b.bits i || (i == place b.window d k)))
    → is_black_in (record b { bits = bits }) c j ≡ (is_black_in b c j || (int_eq d c && int_eq k j))
blackened b bits c j d k inside set = by_has (has b.window c j) b bits c j d k refl inside set

by_same : (same : Bool) (b : Bitmap) (c j d k : ℤ) → (int_eq d c && int_eq k j) ≡ same → has b.window d k ≡ false
    → is_black_in b c j ≡ (is_black_in b c j || same)
by_same true b c j d k is outside =
    let parts = both (int_eq d c) (int_eq k j) is in
    let column : d ≡ c = omega (arith, ints, eq_of d c parts.0) in
    let row : k ≡ j = omega (arith, ints, eq_of k j parts.1) in
    let out : has b.window c j ≡ false = rw (column, row) at outside in
    rw out refl
by_same false b c j d k is outside = or_false (is_black_in b c j)

-- a pixel outside changes nothing: it counted as black
pub not_blackened : (b : Bitmap) (c j d k : ℤ) → has b.window d k ≡ false
    → is_black_in b c j ≡ (is_black_in b c j || (int_eq d c && int_eq k j))
not_blackened b c j d k outside = by_same (int_eq d c && int_eq k j) b c j d k refl outside

-- pixels so far, and one more
pub one_more_pixel : (ps : List Pixel) (i : ℕ) (p : Pixel) (c j : ℤ) → i < length ps
    → has_pixel (take (i + 1) ps) c j ≡ (has_pixel (take i ps) c j
    || (int_eq (get_or ps i p).column c && int_eq (get_or ps i p).row j))
one_more_pixel [] i p c j below = absurd (omega arith)
one_more_pixel (q ∷ qs) zero p c j below = sym (or_false _)
one_more_pixel (q ∷ qs) (suc i) p c j below =
    let next : suc i + 1 ≡ suc (i + 1) = omega arith in
    rw (next, one_more_pixel qs i p c j (omega arith))
    (or_or (int_eq q.column c && int_eq q.row j) (has_pixel (take i qs) c j)
    (int_eq (get_or qs i p).column c && int_eq (get_or qs i p).row j))

pub sym_or : (a b c : Bool) → ((a || b) || c) ≡ (a || (b || c))
sym_or a b c = sym (or_or a b c)
