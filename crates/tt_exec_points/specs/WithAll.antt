-- No part of the standard: the whole instruction set changes no result of an instruction on points, except for the
-- refusals of the profile.
use Rattle.std.specs.Prelude.{ℕ, ℤ, List}
use Rattle.tt_state.specs.declared.graphics_state.GraphicsState.{GraphicsState}
use Rattle.tt_state.specs.declared.tolerance.Tolerance.{Tolerance}
use Rattle.tt_points.specs.zones.WithAll.{with_all, Stays}
use Rattle.tt_points.specs.zones.Zones.{ZoneLists}
use Rattle.tt_exec_points.specs.Instruction.{on_points}
use Rattle.tt_exec_points.specs.declared.instruction.OnPoints.{OnPoints}

-- the graphics state beside the stack, the zones and the control values
abbrev pub beside : List ℤ × ZoneLists × GraphicsState × List ℤ → List ℤ × ZoneLists × GraphicsState × List ℤ
beside t = (t.0, t.1, with_all t.2, t.3)

abbrev pub PointsStay : Type 0
PointsStay = (t : Tolerance) (o : OnPoints) (ppem : ℕ) (s : List ℤ) (z : ZoneLists) (g : GraphicsState)
    (cvt : List ℤ) → Stays beside (on_points t o ppem s z g cvt) (on_points t o ppem s z (with_all g) cvt)
