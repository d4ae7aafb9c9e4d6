-- Apple TrueType Reference Manual, "Instruction set": the instructions on points, and those that change control values
-- by exceptions. Their definitions are in tt_exec_points.
use Rattle.std.specs.Prelude.{ℕ, ℤ, List, Result, Ok, Err}
use Rattle.tt_core.specs.Faults.{Fault}
use Rattle.tt_core.specs.declared.fault.Why.{Why}
use Rattle.tt_state.specs.declared.graphics_state.GraphicsState.{GraphicsState}
use Rattle.tt_exec_points.specs.zones.Zones.{ZoneLists}
use Rattle.tt_exec_points.specs.declared.instruction.OnPoints.{OnPoints}
use Rattle.tt_exec_points.specs.Instruction as is
use Rattle.tt_exec_step.specs.MachineState.{MachineState, fault_in}

-- the stack, zones, graphics state and control values after an instruction, or its refusal at its place
abbrev pub left_by : ℕ → MachineState → Result (List ℤ × ZoneLists × GraphicsState × List ℤ) Why → Result MachineState Fault
left_by at m (Ok t) = Ok (record m { stack = t.0; zones = t.1; graphics = t.2; cvt = t.3 })
left_by at m (Err why) = Err (fault_in m.frame at why)

unfoldable pub on_points : OnPoints → ℕ → MachineState → Result MachineState Fault
on_points o at m =
    left_by at m (is.on_points m.tolerance o m.ppem m.stack m.zones m.graphics m.cvt)
