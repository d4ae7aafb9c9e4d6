-- A share of a way by font units alone: the definition's factors of 65536 cancel.
use Rattle.std.proofs.Common.{◌≡◌, ◌∙◌, Bool, false, if◌then◌else◌, ℕ, suc, ◌+◌, ◌-◌, ◌*◌, ◌/◌, ℤ, pos, negsuc, neg_ℤ, ◌+ℤ◌, ◌-ℤ◌, ◌*ℤ◌, ◌<ℤ◌, int_lt, unsigned_abs, ap, sym, arith}
use Rattle.std.proofs.Math.Nat.{div-div-eq-div-mul, mul-div_cancel_left}
use Rattle.std.proofs.lemmas.Int.{ints}
use Rattle.tt_core.specs.Numbers.{nearest_quotient}
use Rattle.tt_core.specs.Products.{mul_assoc_z, mul_diff}
use Rattle.tt_core.specs.Scales.{away_quotient}
use Rattle.tt_deltas_inference.specs.Inference.{original, moved, rate, in_proportion}
use Rattle.tt_deltas_inference.specs.declared.point.AxisPoint.{AxisPoint}

-- a quotient by the sign of its numerator
not_below : (n : ℕ) → int_lt (pos n) (pos 0) ≡ false
not_below n = grind (arith, ints)

pub forward : (n d : ℕ) → away_quotient (pos n) (pos d) ≡ pos ((2 * n + d) / (2 * d))
forward n d =
    let q : ℤ = nearest_quotient (pos n) (pos d) in
    ap (λ (b : Bool). if b then (if int_lt (pos d) (pos 0) then q else neg_ℤ q)
    else (if int_lt (pos d) (pos 0) then neg_ℤ q else q)) (not_below n)
    ∙ ap (λ (b : Bool). if b then neg_ℤ q else q) (not_below d)

pub backward : (n d : ℕ) → away_quotient (negsuc n) (pos d) ≡ neg_ℤ (pos ((2 * suc n + d) / (2 * d)))
backward n d =
    let q : ℤ = nearest_quotient (pos (suc n)) (pos d) in
    ap (λ (b : Bool). if b then q else neg_ℤ q) (not_below d)

-- a common factor
reduced : (y z : ℕ) → (65536 * y) / (65536 * z) ≡ y / z
reduced y z =
    sym (div-div-eq-div-mul (65536 * y) 65536 z) ∙ ap (λ (n : ℕ). n / z) (mul-div_cancel_left y {n = 65536} (omega arith))

shortened : (x a b : ℕ) → x ≡ a * 65536 → (2 * x + 65536 * b) / (2 * (65536 * b)) ≡ (2 * a + b) / (2 * b)
shortened x a b is =
    let above : 2 * x + 65536 * b ≡ 65536 * (2 * a + b) = omega arith in
    let below : 2 * (65536 * b) ≡ 65536 * (2 * b) = omega arith in
    rw (above, below) (reduced (2 * a + b) (2 * b))

cancelled : (n : ℤ) (b : ℕ) → away_quotient (n *ℤ pos 65536) (pos (65536 * b)) ≡ away_quotient n (pos b)
cancelled (pos a) b =
    forward (a * 65536) (65536 * b) ∙ ap pos (shortened (a * 65536) a b (omega arith)) ∙ sym (forward a b)
cancelled (negsuc a) b =
    let x = suc a * 65536 - 1 in
    let is : negsuc a *ℤ pos 65536 ≡ negsuc x = omega (arith, ints) in
    rw is (backward x (65536 * b)
    ∙ ap (λ (n : ℕ). neg_ℤ (pos n)) (shortened (suc x) (suc a) b (omega arith))
    ∙ sym (backward a b))

-- a whole multiple of the divisor
exact : (m : ℕ) → (2 * (65536 * m) + 65536) / (2 * 65536) ≡ m
exact m = omega arith

whole : (m : ℤ) → away_quotient (pos 65536 *ℤ m) (pos 65536) ≡ m
whole (pos m) = forward (65536 * m) 65536 ∙ ap pos (exact m)
whole (negsuc m) =
    let x = 65536 * suc m - 1 in
    let is : pos 65536 *ℤ negsuc m ≡ negsuc x = omega (arith, ints) in
    let over : suc x ≡ 65536 * suc m = omega arith in
    rw is (backward x 65536 ∙ ap (λ (n : ℕ). neg_ℤ (pos ((2 * n + 65536) / (2 * 65536)))) over
    ∙ ap (λ (n : ℕ). neg_ℤ (pos n)) (exact (suc m)))

-- the ways between two points and their rate
pub way_is : (lo hi : AxisPoint) → moved hi -ℤ moved lo ≡ pos 65536 *ℤ (hi.at -ℤ lo.at) +ℤ (hi.delta -ℤ lo.delta)
way_is lo hi = omega (arith, ints)

pub rate_is : (lo hi : AxisPoint) → lo.at <ℤ hi.at
    → rate lo hi ≡ away_quotient (moved hi -ℤ moved lo) (hi.at -ℤ lo.at)
rate_is lo hi order =
    let r = unsigned_abs (hi.at -ℤ lo.at) in
    let is : hi.at -ℤ lo.at ≡ pos r = omega (arith, ints) in
    let wide : original hi -ℤ original lo ≡ pos (65536 * r) = omega (arith, ints) in
    rw (is, wide) (cancelled (moved hi -ℤ moved lo) r)

pub proportion_is : (p lo hi : AxisPoint)
    → in_proportion p lo hi ≡ lo.delta +ℤ ((p.at -ℤ lo.at) *ℤ (rate lo hi -ℤ pos 65536))
proportion_is p lo hi =
    let x = p.at -ℤ lo.at in
    let k = rate lo hi in
    let part : original p -ℤ original lo ≡ pos 65536 *ℤ x = omega (arith, ints) in
    let share : away_quotient ((original p -ℤ original lo) *ℤ k) (pos 65536) ≡ x *ℤ k =
    rw (part, mul_assoc_z (pos 65536) x k) (whole (x *ℤ k)) in
    let spread = mul_diff x k (pos 65536) in
    omega (arith, ints, share, spread)
