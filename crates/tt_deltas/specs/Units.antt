-- OpenType, "OpenType Font Variations Overview": moved coordinates in whole font units and in 1/64 of one. Halves go up
-- (profile).
use Rattle.std.specs.Prelude.{◌≡◌, ℤ, pos, negsuc, ◌+ℤ◌, ◌*ℤ◌, [], ◌∷◌, map, refl}
use Rattle.tt_axes.specs.Rounding.{sixty_fourths, whole_units}
use Rattle.tt_deltas.specs.declared.varied.Varied.{Varied}

abbrev pub moved_units : Varied → ℤ
moved_units v = v.at +ℤ whole_units v.delta

abbrev pub moved_sixty_fourths : Varied → ℤ
moved_sixty_fourths v = pos 64 *ℤ v.at +ℤ sixty_fourths v.delta

-- worked values: half a unit, and half a 64th
abbrev moved : ℤ → Varied
moved delta = record { at = pos 10; delta = delta }

in_units : map (λ d. moved_units (moved d)) (pos 32768 ∷ pos 32767 ∷ negsuc 32767 ∷ negsuc 32768 ∷ [])
    ≡ pos 11 ∷ pos 10 ∷ pos 10 ∷ pos 9 ∷ []
in_units = refl

in_sixty_fourths : map (λ d. moved_sixty_fourths (moved d)) (pos 32768 ∷ pos 512 ∷ pos 511 ∷ negsuc 511 ∷ negsuc 512 ∷ [])
    ≡ pos 672 ∷ pos 641 ∷ pos 640 ∷ pos 640 ∷ pos 639 ∷ []
in_sixty_fourths = refl
