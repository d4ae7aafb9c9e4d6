-- No part of the standard: the change of one point, by the instruction that makes it.
use Rattle.std.specs.Prelude.{ℤ, ◌^◌, ◌≤◌, unsigned_abs, IfOk, Result}
use Rattle.tt_core.specs.declared.fault.Why.{Why}
use Rattle.tt_state.specs.declared.graphics_state.GraphicsState.{GraphicsState}
use Rattle.tt_points_zones.specs.Zones.{ZoneLists, IsPoint}
use Rattle.tt_points_loops.specs.Flipping.{flip}
use Rattle.tt_points_loops.specs.Moving.{align, interpolate, push}
use Rattle.tt_points_loops.specs.Shifting.{shift}
use Rattle.tt_points_loops.specs.declared.in_turn.Change.{Change}
use Rattle.tt_points_loops.specs.declared.in_turn.Change.TheVariants as change

abbrev pub changed : Change → GraphicsState → ℤ → ZoneLists → Result ZoneLists Why
changed change.Align g n z = align g n z
changed (change.Interpolate t) g n z = interpolate t g n z
changed (change.Follow before) g n z = shift g before n z
changed (change.Push by) g n z = push by.0 g n z
changed change.Flip g n z = flip n z

-- the reference point and the distance are within their ranges
abbrev pub IsChange : Change → Type 0
IsChange (change.Follow before) = IfOk before IsPoint
IsChange (change.Push by) = unsigned_abs by.0 ≤ 2 ^ 32
IsChange _ = Unit {0}
