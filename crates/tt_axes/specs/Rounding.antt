-- OpenType, "OpenType Font Variations Overview": deltas, scaled and added up, are fractions of a font unit. Which way
-- halves are rounded is profile.
use Rattle.std.specs.Prelude.{◌≡◌, refl, ℤ, pos, negsuc, ◌*ℤ◌, [], ◌∷◌, map}
use Rattle.tt_core.specs.Numbers.{nearest_quotient}
use Rattle.tt_core.specs.Scales.{away_quotient}

-- a b / c, rounded to the nearest whole number, a half away from zero
abbrev pub product_quotient : ℤ → ℤ → ℤ → ℤ
product_quotient a b c = away_quotient (a *ℤ b) c

-- a delta in 1/65536 font unit, in whole font units: halves go up
abbrev pub whole_units : ℤ → ℤ
whole_units d = nearest_quotient d (pos 65536)

-- in 1/64 font unit
abbrev pub sixty_fourths : ℤ → ℤ
sixty_fourths d = nearest_quotient d (pos 1024)

-- worked values: halves, and just below them
whole_units_of_halves : map whole_units (pos 32767 ∷ pos 32768 ∷ negsuc 32767 ∷ negsuc 32768 ∷ negsuc 98303 ∷ pos 0 ∷ [])
    ≡ pos 0 ∷ pos 1 ∷ pos 0 ∷ negsuc 0 ∷ negsuc 0 ∷ pos 0 ∷ []
whole_units_of_halves = refl

sixty_fourths_of_halves : map sixty_fourths (pos 511 ∷ pos 512 ∷ negsuc 511 ∷ negsuc 512 ∷ negsuc 65535 ∷ [])
    ≡ pos 0 ∷ pos 1 ∷ pos 0 ∷ negsuc 0 ∷ negsuc 63 ∷ []
sixty_fourths_of_halves = refl

quotients_of_halves : product_quotient (pos 3) (pos 1) (pos 2) ∷ product_quotient (negsuc 2) (pos 1) (pos 2)
    ∷ product_quotient (pos 3) (pos 1) (negsuc 1) ∷ product_quotient (negsuc 2) (negsuc 0) (negsuc 1) ∷ []
    ≡ pos 2 ∷ negsuc 1 ∷ negsuc 1 ∷ negsuc 1 ∷ []
quotients_of_halves = refl
