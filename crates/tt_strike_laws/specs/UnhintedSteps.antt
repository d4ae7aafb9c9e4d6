-- The step of a glyph whose hinting is off: both ends of its advance are scaled, so it is nearly the advance in pixels
-- (Apple TrueType Reference Manual, "Digitizing Letterform Designs").
use Rattle.std.specs.Prelude.{◌≡◌, ◌≢◌, refl, ℕ, ◌+◌, ◌*◌, ◌<◌, ◌≤◌, ℤ, pos, ◌+ℤ◌, ◌-ℤ◌, unsigned_abs}
use Rattle.tt_core.specs.Numbers.{rounded_quotient}
use Rattle.tt_core.specs.Scales.{IsScale, rounded_scale, scaled_by}
use Rattle.tt_fit.specs.outline.Steps.{pixels_of}

-- at a size in pixels per em, of an advance in font units that starts at this place
abbrev pub unhinted_step : ℕ → ℕ → ℤ → ℕ → ℕ
unhinted_step ppem em left advance =
    let s = rounded_scale ppem em in
    pixels_of (scaled_by s (left +ℤ pos advance) -ℤ scaled_by s left)

-- the advance in pixels
abbrev pub linear_step : ℕ → ℕ → ℕ → ℕ
linear_step ppem em advance = unsigned_abs (rounded_quotient (pos (advance * ppem)) (pos em))

-- n / d is within 1/32 of a half
abbrev pub IsNearHalf : ℕ → ℕ → Type 0
IsNearHalf n d = (k : ℕ) × (16 * unsigned_abs (pos (2 * n) -ℤ pos (d * (2 * k + 1))) ≤ d)

-- the two are at most a pixel apart, and equal unless the exact advance is within 1/32 pixel of a half
pub record AreNear (ppem em advance : ℕ) (left : ℤ) : Type 0 where
  pub high : unhinted_step ppem em left advance ≤ linear_step ppem em advance + 1
  pub low : linear_step ppem em advance ≤ unhinted_step ppem em left advance + 1
  pub apart : unhinted_step ppem em left advance ≢ linear_step ppem em advance → IsNearHalf (advance * ppem) em

abbrev pub UnhintedStepsAreNear : Type 0
UnhintedStepsAreNear = (ppem em advance : ℕ) (left : ℤ) → 0 < em → advance < 65536 → IsScale (rounded_scale ppem em)
    → AreNear ppem em advance left

-- worked values: 847 units of 1000 at 12 pixels per em, and 277 at 9, which are 2.493 pixels
both_ten : unhinted_step 12 1000 (pos 0) 847 ≡ linear_step 12 1000 847
both_ten = refl

more_than_two : unhinted_step 9 1000 (pos 0) 277 ≡ 3
more_than_two = refl

nearer_to_two : linear_step 9 1000 277 ≡ 2
nearer_to_two = refl
