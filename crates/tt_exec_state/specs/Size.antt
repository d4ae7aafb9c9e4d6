-- Apple TrueType Reference Manual, "Digitizing Letterform Designs": font units as 26.6 pixels.
use Rattle.std.specs.Prelude.{◌≡◌, ℤ, pos, if◌then◌else◌, Result, Ok, Err, refl}
use Rattle.tt_core.specs.Scales.{exact_scale, rounded_scale, scaled_by}
use Rattle.tt_core.specs.declared.scaling.Scale.{Scale}
use Rattle.tt_core.specs.declared.fault.Why.{Why}
use Rattle.tt_core.specs.declared.fault.Why.TheVariants as why
use Rattle.tt_exec_stack.specs.Stack.{is_value}

-- by a scale
abbrev pub in_pixels : Scale → ℤ → Result ℤ Why
in_pixels scale units = if is_value (scaled_by scale units) then Ok (scaled_by scale units) else Err why.ValueRange

-- worked values
an_em_at_size_16 : in_pixels (exact_scale 16 1024) (pos 1024) ≡ Ok (pos 1024)
an_em_at_size_16 = refl

too_many_units : in_pixels (exact_scale 300 16) (pos 1789570) ≡ Err why.ValueRange
too_many_units = refl

-- 847 units at 12 of 1000, by a factor that is rounded first
by_a_factor : in_pixels (rounded_scale 12 1000) (pos 847) ≡ Ok (pos 651)
by_a_factor = refl
