-- Apple TrueType Reference Manual, "Instruction set" (INSTCTRL). The top of the stack comes first.
use Rattle.std.specs.Prelude.{ℕ, ℤ, pos, Bool, if◌then◌else◌, List, ◌∷◌, Result, Ok, Err}
use Rattle.std.specs.Ordering.{int_eq}
use Rattle.tt_core.specs.Faults.{Fault}
use Rattle.tt_core.specs.declared.fault.Why.TheVariants as why
use Rattle.tt_exec_stack.specs.Logic.{is_true}
use Rattle.tt_exec_step.specs.declared.machine_state.Kind.{Kind}
use Rattle.tt_exec_step.specs.declared.machine_state.Kind.TheVariants as kind
use Rattle.tt_exec_step.specs.MachineState.{MachineState, fault_in}

-- only the control value program sets flags: 1, glyph programs are not run; 2, they start from the defaults; other
-- selectors do nothing (profile)
abbrev pub flagged : Kind → ℤ → Bool → MachineState → MachineState
flagged kind.ControlValue selector on m =
    if int_eq selector (pos 1) then record m { skip_glyphs = on } else (
    if int_eq selector (pos 2) then record m { default_state = on } else m)
flagged _ selector on m = m

abbrev pub instctrl : List ℤ → ℕ → MachineState → Result MachineState Fault
instctrl (selector ∷ value ∷ s) at m = Ok (flagged m.kind selector (is_true value) (record m { stack = s }))
instctrl _ at m = Err (fault_in m.frame at why.StackShort)
