-- Lines by their heights: the line from a height on is not below it, and the line under it is.
use Rattle.std.proofs.Common.{refl, SFits, w32, w64, ◌≡◌, ℕ, ◌+◌, ◌<◌, ◌≤◌, ◌*◌, ◌/◌, ◌^◌, arith}
use Rattle.std.specs.Prelude.{int_lt, true, false, not, ◌≢◌, [], ◌∷◌, ℤ, pos, negsuc, ◌+ℤ◌, ◌-ℤ◌, ◌*ℤ◌, ◌≤ℤ◌, ◌<ℤ◌, neg_ℤ, unsigned_abs}
use Rattle.std.specs.Int.{int_div_euclid, int_rem_euclid}
use Rattle.std.specs.Ordering.{int_eq}
use Rattle.std.proofs.lemmas.Int.{ints, by_lt_z, fits_signed_mul, unsigned_abs-mul}
use Rattle.std.proofs.lemmas.Nat.{mul-lt}
use Rattle.tt_scan_edges.specs.Winding.{EdgeFits}
use Rattle.tt_scan_edges.specs.declared.edge.Edge.{Edge}
use Rattle.tt_scan_gaps.specs.Crossings.{centre, crossing_at, gap_at, is_rising, line_crossed, line_from, lines_crossed, meets_line, touches, upward}
use Rattle.tt_scan_gaps.proofs.Tests.{first_not}

pub floor_low : (n : ℤ) → (pos 8192 *ℤ int_div_euclid n (pos 8192)) ≤ℤ n
floor_low (pos a) = omega (arith, ints)
floor_low (negsuc a) = omega (arith, ints)

pub floor_high : (n : ℤ) → n <ℤ (pos 8192 *ℤ int_div_euclid n (pos 8192) +ℤ pos 8192)
floor_high (pos a) = omega (arith, ints)
floor_high (negsuc a) = omega (arith, ints)

pub not_below : (y : ℤ) (k : ℕ) → y ≤ℤ centre (line_from y +ℤ pos k)
not_below y k = let high = floor_high (y +ℤ pos 4095) in omega (arith, ints)

pub below : (y : ℤ) (j : ℤ) → j <ℤ line_from y → centre j <ℤ y
below y j h = let low = floor_low (y +ℤ pos 4095) in omega (arith, ints)

pub not_below_it : (y : ℤ) (j : ℤ) → line_from y ≤ℤ j → y ≤ℤ centre j
not_below_it y j h = let high = floor_high (y +ℤ pos 4095) in omega (arith, ints)

pub in_order : (a b : ℤ) → a ≤ℤ b → line_from a ≤ℤ line_from b
in_order a b h =
    let low = floor_low (a +ℤ pos 4095) in let high = floor_high (b +ℤ pos 4095) in omega (arith, ints)

-- a quotient between bounds
below_multiple : (a b m : ℕ) → a < b * m → a / b < m
below_multiple a b m h = grind arith

pub quotient_within : (a : ℤ) (b m : ℕ) → a <ℤ pos (b * (m + 1)) → neg_ℤ (pos (b * m)) ≤ℤ a
    → unsigned_abs (int_div_euclid a (pos b)) ≤ m
quotient_within (pos a) b m high low =
    let q : a / b < m + 1 = below_multiple a b (m + 1) (omega (arith, ints)) in omega arith
quotient_within (negsuc a) b m high low =
    let q : a / b < m = below_multiple a b m (omega (arith, ints)) in omega arith

-- an edge crosses its lines between its ends
pub few_lines : (e : Edge) → EdgeFits e → lines_crossed e < 2 ^ 20
few_lines e fits =
    let a = floor_low (e.ay +ℤ pos 4095) in let b = floor_high (e.ay +ℤ pos 4095) in
    let c = floor_low (e.by +ℤ pos 4095) in let d = floor_high (e.by +ℤ pos 4095) in
    omega (arith, ints, fits.ay, fits.by)

pub line_small : (e : Edge) (k : ℕ) → EdgeFits e → k < lines_crossed e → unsigned_abs (line_crossed e k) < 2 ^ 19
line_small e k fits within =
    let a = floor_low (e.ay +ℤ pos 4095) in let b = floor_high (e.ay +ℤ pos 4095) in
    let c = floor_low (e.by +ℤ pos 4095) in let d = floor_high (e.by +ℤ pos 4095) in
    let ay = fits.ay in let by = fits.by in
    by_lt_z e.ay e.by
    (λ less. let o = in_order e.ay e.by (omega (arith, ints)) in grind (arith, ints))
    (λ more. let o = in_order e.by e.ay more in grind (arith, ints))

pub line_low : (e : Edge) (k : ℕ) → k < lines_crossed e → (upward e).ay ≤ℤ centre (line_crossed e k)
line_low e k within =
    by_lt_z e.ay e.by
    (λ less. let up = not_below e.ay k in grind (arith, ints))
    (λ more.
    let o = in_order e.by e.ay more in
    let up = not_below_it e.by (line_from e.ay -ℤ pos (k + 1)) (omega (arith, ints)) in grind (arith, ints))

pub line_high : (e : Edge) (k : ℕ) → k < lines_crossed e → centre (line_crossed e k) <ℤ (upward e).by
line_high e k within =
    by_lt_z e.ay e.by
    (λ less.
    let o = in_order e.ay e.by (omega (arith, ints)) in
    let up = below e.by (line_from e.ay +ℤ pos k) (omega (arith, ints)) in grind (arith, ints))
    (λ more.
    let o = in_order e.by e.ay more in
    let up = below e.ay (line_from e.ay -ℤ pos (k + 1)) (omega (arith, ints)) in grind (arith, ints))

pub line_falling : (e : Edge) (k : ℕ) → int_lt e.ay e.by ≡ false → line_crossed e k ≡ (line_from e.ay -ℤ pos 1) -ℤ pos k
line_falling e k falls = rw falls (omega (arith, ints))

-- a gap's number and a place in it are small
gap_within : (n : ℤ) → unsigned_abs n < 2 ^ 34 → unsigned_abs (int_div_euclid n (pos 8192)) < 2 ^ 22
gap_within (pos a) h = omega (arith, ints)
gap_within (negsuc a) h = omega (arith, ints)

pub gap_small : (x : ℤ) → unsigned_abs x < 2 ^ 33 → SFits w32 (int_div_euclid (x -ℤ pos 4096) (pos 8192))
gap_small x h = let small = gap_within (x -ℤ pos 4096) (omega (arith, ints)) in omega (arith, ints)

rest_within : (n : ℤ) → SFits w64 (int_rem_euclid n (pos 8192))
rest_within (pos a) = omega (arith, ints)
rest_within (negsuc a) = omega (arith, ints)

rest_positive : (n : ℤ) → pos 0 ≤ℤ int_rem_euclid n (pos 8192)
rest_positive (pos a) = omega (arith, ints)
rest_positive (negsuc a) = omega (arith, ints)

pub place_small : (x : ℤ) → SFits w64 (int_rem_euclid (x -ℤ pos 4096) (pos 8192))
place_small x = rest_within (x -ℤ pos 4096)

-- an edge runs no further on the way to a height between its ends than to its end
slope_of : (w : ℤ) (k b : ℕ) → unsigned_abs w < 2 ^ 31 → k < b → unsigned_abs (int_div_euclid (w *ℤ pos k) (pos b)) ≤ 2 ^ 31
slope_of w k b wide high =
    let size = unsigned_abs-mul w (pos k) in
    let less : unsigned_abs w * k < 2 ^ 31 * b = mul-lt (unsigned_abs w) k (2 ^ 31) b wide high in
    quotient_within (w *ℤ pos k) b (2 ^ 31) (omega (arith, ints, size, less)) (omega (arith, ints, size, less))

pub slope_within : (w h d : ℤ) → unsigned_abs w < 2 ^ 31 → pos 0 ≤ℤ h → h <ℤ d
    → unsigned_abs (int_div_euclid (w *ℤ h) d) ≤ 2 ^ 31
slope_within w (pos k) (pos b) wide low high = slope_of w k b wide (omega (arith, ints))
slope_within w (negsuc k) d wide low high = absurd (omega (arith, ints))
slope_within w (pos k) (negsuc b) wide low high = absurd (omega (arith, ints))

-- where the upper end lies on a line, and where it does not
pub touching : (e : Edge) → int_lt (upward e).ay (upward e).by ≡ true
    → int_rem_euclid ((upward e).by -ℤ pos 4096) (pos 8192) ≡ pos 0
    → touches e ≡ crossing_at (is_rising e) (gap_at (upward e).by) (upward e).bx ∷ []
touching e rises on = rw (rises, on) refl

pub level_touches_none : (e : Edge) → int_lt (upward e).ay (upward e).by ≡ false → touches e ≡ []
level_touches_none e level = rw level refl

pub off_touches_none : (e : Edge) → (int_rem_euclid ((upward e).by -ℤ pos 4096) (pos 8192) ≢ pos 0) → touches e ≡ []
off_touches_none e off = grind (arith, ints, rest_positive ((upward e).by -ℤ pos 4096))

pub product_fits : (w h : ℤ) → unsigned_abs w < 2 ^ 31 → unsigned_abs h < 2 ^ 31 → SFits w64 (w *ℤ h)
product_fits w h wide high =
    fits_signed_mul w64 w h (2 ^ 31) (2 ^ 31) (omega (arith, ints, wide)) (omega (arith, ints, high)) (omega arith)

-- two heights that meet the same lines

pub eq_lines : (a b : ℤ) → not (int_eq (line_from a) (line_from b)) ≡ false → line_from a ≡ line_from b
eq_lines a b apart = grind (arith, ints, apart)

pub level : (a b : ℤ) → meets_line false a b ≡ false → line_from a ≡ line_from b
level a b none = eq_lines a b (first_not (not (int_eq (line_from a) (line_from b))) false none)
