-- Apple TrueType Reference Manual, "Digitizing Letterform Designs": from font units to 26.6 pixels by one quotient, and
-- the rounding of its halves. Rounding a factor first is profile.
use Rattle.std.specs.Prelude.{◌≡◌, refl, ℕ, ◌*◌, ◌/◌, ◌^◌, ◌<◌, ◌≤◌, ℤ, pos, negsuc, neg_ℤ, ◌-ℤ◌, ◌*ℤ◌, ◌≤ℤ◌, int_lt, unsigned_abs, if◌then◌else◌}
use Rattle.tt_core.specs.Numbers.{nearest_quotient, rounded_quotient}
use Rattle.tt_core.specs.declared.halves.Halves.{Halves}
use Rattle.tt_core.specs.declared.halves.Halves.TheVariants as halves
use Rattle.tt_core.specs.declared.scaling.Scale.{Scale}

-- n / d for any d but 0, rounded to the nearest whole number, a half away from zero. The magnitudes are divided, and
-- then the quotient gets its sign
abbrev pub away_quotient : ℤ → ℤ → ℤ
away_quotient n d =
    let q = nearest_quotient (pos (unsigned_abs n)) (pos (unsigned_abs d)) in
    if int_lt n (pos 0) then (if int_lt d (pos 0) then q else neg_ℤ q) else (if int_lt d (pos 0) then neg_ℤ q else q)

-- the rounded quotient by either rule for halves
abbrev pub quotient : Halves → ℤ → ℤ → ℤ
quotient halves.Up n d = rounded_quotient n d
quotient halves.AwayFromZero n d = away_quotient n d

-- a distance in font units, converted to 26.6 pixels
abbrev pub scaled_by : Scale → ℤ → ℤ
scaled_by s v = quotient s.halves (v *ℤ pos s.pixels) (pos s.units)

-- the exact scale at a size in pixels per em, with halves upwards
abbrev pub exact_scale : ℕ → ℕ → Scale
exact_scale ppem em = record { pixels = 64 * ppem; units = em; halves = halves.Up }

-- 64 ppem / em in 16.16
abbrev pub factor : ℕ → ℕ → ℕ
factor ppem em = unsigned_abs (rounded_quotient (pos (ppem * 4194304)) (pos em))

-- the scale by that factor, with halves away from zero; for control values, by whole 64ths of the factor
abbrev pub rounded_scale : ℕ → ℕ → Scale
rounded_scale ppem em = record { pixels = factor ppem em; units = 65536; halves = halves.AwayFromZero }

abbrev pub control_value_scale : ℕ → ℕ → Scale
control_value_scale ppem em = record { pixels = factor ppem em / 64; units = 1024; halves = halves.AwayFromZero }

-- an em has at least 16 font units and is at most 300 pixels large
pub record IsScale (s : Scale) : Type 0 where
  pub some : 0 < s.units
  pub most : s.pixels ≤ 1200 * s.units
  pub few : s.pixels < 2 ^ 27

-- of two distances the greater never becomes the smaller
abbrev pub ScalesKeepOrder : Type 0
ScalesKeepOrder = (s : Scale) (v w : ℤ) → IsScale s → v ≤ℤ w → scaled_by s v ≤ℤ scaled_by s w

-- with halves away from zero, changing a distance's sign changes the sign of the scaled distance
abbrev pub ScalesAreOdd : Type 0
ScalesAreOdd = (s : Scale) (v : ℤ) → IsScale s → s.halves ≡ halves.AwayFromZero
    → scaled_by s (neg_ℤ v) ≡ neg_ℤ (scaled_by s v)

-- a scaled difference is at most 1 off the difference of the scaled distances
abbrev pub ScalesKeepDifferences : Type 0
ScalesKeepDifferences = (s : Scale) (v w : ℤ) → IsScale s
    → unsigned_abs (scaled_by s (v -ℤ w) -ℤ (scaled_by s v -ℤ scaled_by s w)) ≤ 1

-- worked values
a_half_away : quotient halves.AwayFromZero (negsuc 0) (pos 2) ≡ negsuc 0
a_half_away = refl

a_half_up : quotient halves.Up (negsuc 0) (pos 2) ≡ pos 0
a_half_up = refl

both_negative : quotient halves.AwayFromZero (negsuc 2) (negsuc 1) ≡ pos 2
both_negative = refl

-- 847 units at 12 pixels per em of 1000 units: 650 exactly, 651 by the factor
exactly : scaled_by (exact_scale 12 1000) (pos 847) ≡ pos 650
exactly = refl

by_the_factor : scaled_by (rounded_scale 12 1000) (pos 847) ≡ pos 651
by_the_factor = refl

-- a control value of 950 at 20 pixels per em of 1000 units
a_control_value : scaled_by (control_value_scale 20 1000) (pos 950) ≡ pos 1215
a_control_value = refl

a_point : scaled_by (rounded_scale 20 1000) (pos 950) ≡ pos 1216
a_point = refl

one_em_at_size_16 : scaled_by (exact_scale 16 256) (pos 256) ≡ pos 1024
one_em_at_size_16 = refl
