-- Apple TrueType Reference Manual, "Digitizing Letterform Designs": distances at an instance are scaled from 1/64 of a font
-- unit. A scale whose factor is rounded first rounds twice, as FreeType does (profile).
use Rattle.std.specs.Prelude.{◌≡◌, refl, ℕ, ℤ, pos, negsuc, ◌+ℤ◌, ◌*ℤ◌, [], ◌∷◌, map}
use Rattle.std.specs.Int.{int_div_euclid}
use Rattle.tt_core.specs.Numbers.{rounded_quotient}
use Rattle.tt_core.specs.Scales.{away_quotient, control_value_scale, exact_scale, quotient, rounded_scale, scaled_by}
use Rattle.tt_core.specs.declared.halves.Halves.{Halves}
use Rattle.tt_core.specs.declared.halves.Halves.TheVariants as halves
use Rattle.tt_core.specs.declared.scaling.Scale.{Scale}
use Rattle.tt_deltas.specs.ControlValues.{moved_control_value}
use Rattle.tt_deltas.specs.declared.varied.Varied.{Varied}

-- 64ths of a pixel's 64th are rounded first, a half away from zero, and then pixels' 64ths, a half up
abbrev pub scaled_twice : ℤ → ℕ → ℤ
scaled_twice n units = int_div_euclid (away_quotient n (pos units) +ℤ pos 32) (pos 64)

abbrev pub fine_by : Halves → ℤ → ℕ → ℤ
fine_by halves.Up n units = rounded_quotient n (pos 64 *ℤ pos units)
fine_by halves.AwayFromZero n units = scaled_twice n units

-- a distance in 1/64 of a font unit, converted to 26.6 pixels
abbrev pub fine_scaled : Scale → ℤ → ℤ
fine_scaled s u = fine_by s.halves (u *ℤ pos s.pixels) s.units

-- a control value at an instance, converted to 26.6 pixels by the scale of control values, and rounded once
abbrev pub varied_control_value : Scale → Varied → ℤ
varied_control_value s v = quotient s.halves (moved_control_value v *ℤ pos s.pixels) (pos 64 *ℤ pos s.units)

-- worked values: four 64ths of a pixel a unit. An eighth of a unit is half of a 64th, which goes up
eighths : map (fine_scaled (exact_scale 16 256)) (pos 8 ∷ negsuc 7 ∷ negsuc 8 ∷ pos 32 ∷ pos 0 ∷ [])
    ≡ pos 1 ∷ pos 0 ∷ negsuc 0 ∷ pos 2 ∷ pos 0 ∷ []
eighths = refl

eighths_by_the_factor : map (fine_scaled (rounded_scale 16 256)) (pos 8 ∷ negsuc 7 ∷ negsuc 8 ∷ pos 32 ∷ pos 0 ∷ [])
    ≡ pos 1 ∷ pos 0 ∷ negsuc 0 ∷ pos 2 ∷ pos 0 ∷ []
eighths_by_the_factor = refl

-- 847 units and a 64th at 12 pixels per em of 1000 units: 650.51 exactly, and 41633 64ths of it by the factor
a_64th_more : fine_scaled (exact_scale 12 1000) (pos 54209) ∷ fine_scaled (rounded_scale 12 1000) (pos 54209) ∷ []
    ≡ pos 651 ∷ pos 651 ∷ []
a_64th_more = refl

-- whole units, as a scale has them
whole_units : fine_scaled (exact_scale 12 1000) (pos 54208) ∷ fine_scaled (rounded_scale 12 1000) (pos 54208) ∷ []
    ≡ scaled_by (exact_scale 12 1000) (pos 847) ∷ scaled_by (rounded_scale 12 1000) (pos 847) ∷ []
whole_units = refl

-- control values of 950 units and of half a unit more, at 20 pixels per em of 1000 units: 1216 and 1216.64
control_values : map (varied_control_value (exact_scale 20 1000)) (record { at = pos 950; delta = pos 0 } ∷ record { at = pos 950; delta = pos 32768 } ∷ [])
    ≡ pos 1216 ∷ pos 1217 ∷ []
control_values = refl

as_without_deltas : varied_control_value (control_value_scale 20 1000) (record { at = pos 950; delta = pos 0 })
    ≡ scaled_by (control_value_scale 20 1000) (pos 950)
as_without_deltas = refl

-- 100 and 200 units moved by 302/64 and -302/64, at 41 pixels per em of 1024 units: 268.35 and 500.41; and both ends of int16
moved_by_parts : map (varied_control_value (control_value_scale 41 1024))
    (record { at = pos 100; delta = pos 309197 } ∷ record { at = pos 200; delta = negsuc 309196 } ∷ [])
    ≡ pos 268 ∷ pos 500 ∷ []
moved_by_parts = refl

past_16_bits : map (varied_control_value (exact_scale 16 1024))
    (record { at = pos 32767; delta = pos 65536 } ∷ record { at = negsuc 32767; delta = negsuc 65535 } ∷ record { at = pos 32766; delta = pos 65536 } ∷ [])
    ≡ pos 32767 ∷ negsuc 32767 ∷ pos 32767 ∷ []
past_16_bits = refl
