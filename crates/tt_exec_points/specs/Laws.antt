-- Laws of the instructions on points (profile): the tolerant machine beside a strict one, and too few values.
use Rattle.std.specs.Prelude.{◌≡◌, ℕ, ◌<◌, ◌≤◌, ℤ, List, length, Err}
use Rattle.tt_core.specs.declared.fault.Why.TheVariants as why
use Rattle.tt_state.specs.Loosening.{Loosens, IsTotal}
use Rattle.tt_state.specs.declared.graphics_state.GraphicsState.{GraphicsState}
use Rattle.tt_state.specs.declared.tolerance.Tolerance.{Tolerance}
use Rattle.tt_state.specs.declared.tolerance.Tolerance.TheVariants as tolerance
use Rattle.tt_points.specs.zones.Zones.{ZoneLists}
use Rattle.tt_exec_points.specs.Instruction.{on_points, takes}
use Rattle.tt_exec_points.specs.declared.instruction.OnPoints.{OnPoints}

-- a tolerant machine has the result of a strict one, or another in place of a refusal that tolerance lifts
abbrev pub PointsAreLoosened : Type 0
PointsAreLoosened = (o : OnPoints) (ppem : ℕ) (s : List ℤ) (z : ZoneLists) (g : GraphicsState) (cvt : List ℤ)
    → Loosens (on_points tolerance.Strict o ppem s z g cvt) (on_points tolerance.Tolerant o ppem s z g cvt)

-- with the values that it takes, an instruction does not fail with too few, and a missing thing is passed over
abbrev pub PointsAreTotal : Type 0
PointsAreTotal = (o : OnPoints) (ppem : ℕ) (s : List ℤ) (z : ZoneLists) (g : GraphicsState) (cvt : List ℤ)
    → takes o ≤ length s → IsTotal (on_points tolerance.Tolerant o ppem s z g cvt)

-- with fewer values it is refused
abbrev pub PointsAreShort : Type 0
PointsAreShort = (o : OnPoints) (ppem : ℕ) (t : Tolerance) (s : List ℤ) (z : ZoneLists) (g : GraphicsState)
    (cvt : List ℤ) → length s < takes o → on_points t o ppem s z g cvt ≡ Err why.StackShort
