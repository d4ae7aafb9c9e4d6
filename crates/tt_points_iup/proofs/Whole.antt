-- A glyph, from its contours.
use Rattle.std.proofs.Common.{◌≡◌, List, Result, Ok, ap}
use Rattle.tt_core.specs.Outcomes.{◌>>=◌}
use Rattle.tt_core.specs.declared.fault.Why.{Why}
use Rattle.tt_state.specs.declared.graphics_state.Axis.{Axis}
use Rattle.tt_state.specs.declared.point.Point.{Point}
use Rattle.tt_points_zones.specs.Zones.{ZoneLists}
use Rattle.tt_points_iup.specs.Interpolation.{limited, contours, along_in, iup}

pub iup_of : (axis : Axis) (z : ZoneLists) (r : Result (List Point) Why)
    → limited axis (contours (along_in axis z) 0 z.contours z.glyph) ≡ r
    → iup axis z ≡ (r >>= λ ps. Ok (record z { glyph = ps }))
iup_of axis z r is = ap (λ (q : Result (List Point) Why). q >>= λ ps. Ok (record z { glyph = ps })) is
