-- Apple TrueType Reference Manual, "Digitizing Letterform Designs": font units as 26.6 pixels.
use Rattle.std.specs.Prelude.{ℕ, ℤ}
use Rattle.tt_core.specs.Scales.{control_value_scale, exact_scale, rounded_scale, scaled_by}
use Rattle.tt_core.specs.declared.scaling.Scale.{Scale}
use Rattle.tt_fit_outline.specs.declared.rules.Scaling.{Scaling}
use Rattle.tt_fit_outline.specs.declared.rules.Scaling.TheVariants as scaling

-- pixels per em, and the scales from font units to pixels: one for distances, one for control values at the start of a
-- program
pub record FontSize : Type 0 where
  pub ppem : ℕ
  pub scale : Scale
  pub control_values : Scale

-- the size by the pixels per em and the font units per em
abbrev pub size_by : Scaling → ℕ → ℕ → FontSize
size_by scaling.Exact ppem em =
    record { ppem = ppem; scale = exact_scale ppem em; control_values = exact_scale ppem em }
size_by scaling.Rounded ppem em =
    record { ppem = ppem; scale = rounded_scale ppem em; control_values = control_value_scale ppem em }

-- font units as 26.6 pixels
abbrev pub scale : FontSize → ℤ → ℤ
scale z v = scaled_by z.scale v
