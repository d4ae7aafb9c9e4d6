-- OpenType, "The 'glyf' table", "Composite Glyph Description" (ROUND_XY_TO_GRID), and Apple TrueType Reference Manual,
-- "Instructing TrueType Glyphs" (phantom points): distances to whole pixels. The direction of halves is profile.
use Rattle.std.specs.Prelude.{◌≡◌, ◌≤◌, ℤ, pos, negsuc, ◌+ℤ◌, ◌-ℤ◌, ◌*ℤ◌, ◌≤ℤ◌, unsigned_abs, [], ◌∷◌, map, refl}
use Rattle.std.specs.Int.{int_div_euclid}
use Rattle.tt_state.specs.declared.rounding.Round.TheVariants as round
use Rattle.tt_state.specs.Rounding.{rounded}
use Rattle.tt_fit_outline.specs.declared.grid.Grid.{Grid}
use Rattle.tt_fit_outline.specs.declared.grid.Grid.TheVariants as rounding

-- a distance to whole pixels, a half away from zero
abbrev pub away : ℤ → ℤ
away v = rounded round.Grid v

-- a distance to whole pixels, a half up, also below zero
abbrev pub up : ℤ → ℤ
up v = pos 64 *ℤ int_div_euclid (v +ℤ pos 32) (pos 64)

-- a distance by the grid of its glyph
abbrev pub rounded_to : Grid → ℤ → ℤ
rounded_to rounding.Away v = away v
rounded_to rounding.Up v = up v
rounded_to rounding.Unrounded v = v

-- of two distances the greater never becomes the smaller
abbrev pub UpKeepsOrder : Type 0
UpKeepsOrder = (v w : ℤ) → v ≤ℤ w → up v ≤ℤ up w

-- a distance that is one pixel longer stays one pixel longer
abbrev pub UpMovesByPixels : Type 0
UpMovesByPixels = (v : ℤ) → up (v +ℤ pos 64) ≡ up v +ℤ pos 64

-- no distance moves by more than half a pixel
abbrev pub UpIsNear : Type 0
UpIsNear = (v : ℤ) → unsigned_abs (up v -ℤ v) ≤ 32

-- worked values: 0, almost a half, and a half; then a half below zero, and a little more than a half
above_zero : map up (pos 0 ∷ pos 31 ∷ pos 32 ∷ pos 95 ∷ pos 96 ∷ []) ≡ pos 0 ∷ pos 0 ∷ pos 64 ∷ pos 64 ∷ pos 128 ∷ []
above_zero = refl

below_zero : map up (negsuc 30 ∷ negsuc 31 ∷ negsuc 32 ∷ negsuc 95 ∷ negsuc 96 ∷ [])
    ≡ pos 0 ∷ pos 0 ∷ negsuc 63 ∷ negsuc 63 ∷ negsuc 127 ∷ []
below_zero = refl

-- -32 and -96 go up to 0 and -64, or away from zero to -64 and -128
two_halves_up : map (rounded_to rounding.Up) (negsuc 31 ∷ negsuc 95 ∷ []) ≡ pos 0 ∷ negsuc 63 ∷ []
two_halves_up = refl

two_halves_away : map (rounded_to rounding.Away) (negsuc 31 ∷ negsuc 95 ∷ []) ≡ negsuc 63 ∷ negsuc 127 ∷ []
two_halves_away = refl

two_halves_stay : map (rounded_to rounding.Unrounded) (negsuc 31 ∷ negsuc 95 ∷ []) ≡ negsuc 31 ∷ negsuc 95 ∷ []
two_halves_stay = refl
