-- No part of the standard: no instruction adds or removes a point or a control value.
use Rattle.std.specs.Prelude.{◌≡◌, ℤ, List, length}
use Rattle.tt_state.specs.declared.graphics_state.GraphicsState.{GraphicsState}
use Rattle.tt_points.specs.zones.Zones.{ZoneLists, SameShape}

-- the zones and control values after an instruction have the sizes before it
pub record SameSizes (z : ZoneLists) (cvt : List ℤ) (left : List ℤ × ZoneLists × GraphicsState × List ℤ) : Type 0 where
  pub zones : SameShape z left.1
  pub control_values : length left.3 ≡ length cvt
