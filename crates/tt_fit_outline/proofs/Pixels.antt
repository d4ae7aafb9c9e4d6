-- Whole pixels with halves up, and the step between the two ends of an advance.
use Rattle.std.proofs.Common.{◌≡◌, ◌*◌, ◌≤◌, ℤ, pos, negsuc, ◌+ℤ◌, ◌-ℤ◌, ◌*ℤ◌, ◌≤ℤ◌, ◌<ℤ◌, unsigned_abs, ap, refl, arith}
use Rattle.std.specs.Int.{int_div_euclid}
use Rattle.std.proofs.lemmas.Int.{ints}
use Rattle.tt_fit_outline.specs.Grid.{UpIsNear, UpKeepsOrder, UpMovesByPixels}
use Rattle.tt_fit_outline.specs.Steps.{advance_left, at_least_zero, pixels_of, StepsAreBounded, StepsAreForward, StepsAreNear, StepsStay}

-- 64 times a floor is at most the number, and less than 64 below it
pub floor-below : (v : ℤ) → (pos 64 *ℤ int_div_euclid v (pos 64)) ≤ℤ v
floor-below (pos a) = omega (arith, ints)
floor-below (negsuc a) = omega (arith, ints)

pub floor-above : (v : ℤ) → v <ℤ (pos 64 *ℤ int_div_euclid v (pos 64) +ℤ pos 64)
floor-above (pos a) = omega (arith, ints)
floor-above (negsuc a) = omega (arith, ints)

-- halves up
pub up-is-near : UpIsNear
up-is-near v =
    let below = floor-below (v +ℤ pos 32) in
    let above = floor-above (v +ℤ pos 32) in
    omega (arith, ints, below, above)

pub up-keeps-order : UpKeepsOrder
up-keeps-order v w less =
    let below = floor-below (v +ℤ pos 32) in
    let above = floor-above (w +ℤ pos 32) in
    omega (arith, ints, below, above)

pub up-moves-by-pixels : UpMovesByPixels
up-moves-by-pixels v =
    let below = floor-below (v +ℤ pos 32) in
    let above = floor-above (v +ℤ pos 32) in
    let later = floor-below (v +ℤ pos 64 +ℤ pos 32) in
    let further = floor-above (v +ℤ pos 64 +ℤ pos 32) in
    omega (arith, ints, below, above, later, further)

-- steps
bounded : (a b : ℤ) → unsigned_abs a ≤ 2097151 → unsigned_abs b ≤ 2097151 → pixels_of (b -ℤ a) ≤ 65536
bounded a b left right = of-floor (b -ℤ a +ℤ pos 32) (omega (arith, ints, left, right))
  where
    of-floor : (v : ℤ) → v ≤ℤ pos 4194334 → at_least_zero (int_div_euclid v (pos 64)) ≤ 65536
    of-floor (pos n) few = omega (arith, ints)
    of-floor (negsuc n) few = omega arith

pub steps-are-bounded : StepsAreBounded
steps-are-bounded o is = bounded o.phantom.left.0 o.phantom.right.0 is.phantom.left.0 is.phantom.right.0

near : (v : ℤ) → pos 0 ≤ℤ v → unsigned_abs (pos (64 * pixels_of v) -ℤ v) ≤ 32
near (pos n) low = omega (arith, ints)
near (negsuc n) low = absurd (omega (arith, ints))

pub steps-are-near : StepsAreNear
steps-are-near o low = near (advance_left o) low

none-below : (n : ℤ) → n ≤ℤ pos 0 → at_least_zero n ≡ 0
none-below (pos n) low = omega (arith, ints)
none-below (negsuc n) low = refl

forward : (v : ℤ) → v <ℤ pos 0 → pixels_of v ≡ 0
forward v low =
    let below = floor-below (v +ℤ pos 32) in
    none-below (int_div_euclid (v +ℤ pos 32) (pos 64)) (omega (arith, ints, below, low))

pub steps-are-forward : StepsAreForward
steps-are-forward o low = forward (advance_left o) low

pub steps-stay : StepsStay
steps-stay o v =
    let same : o.phantom.right.0 +ℤ v -ℤ (o.phantom.left.0 +ℤ v) ≡ o.phantom.right.0 -ℤ o.phantom.left.0 = omega
    (arith, ints) in
    ap pixels_of same
