-- Apple TrueType Reference Manual, "Instructing TrueType Glyphs" and "Graphics State": the state of the interpreter.
use Rattle.std.specs.Prelude.{ℕ, ◌+◌, ℤ, Bool, List, [], codes}
use Rattle.tt_core.specs.declared.scaling.Scale.{Scale}
use Rattle.tt_core.specs.Faults.{Fault, fault_at}
use Rattle.tt_core.specs.declared.fault.Why.{Why}
use Rattle.tt_state.specs.declared.graphics_state.GraphicsState.{GraphicsState}
use Rattle.tt_state.specs.declared.tolerance.Tolerance.{Tolerance}
use Rattle.tt_exec_points.specs.zones.Zones.{ZoneLists}
use Rattle.tt_exec_step.specs.declared.machine_state.Kind.{Kind}

-- a program: its table, the offset of its first byte there, and its bytes
pub record Code : Type 0 where
  pub table : List ℕ
  pub base : ℕ
  pub bytes : List ℕ

-- a function: the program that defines it, and its place there
pub record Body : Type 0 where
  pub code : Code
  pub start : ℕ

-- an open call, or the running program: the place of its next instruction, the place where it began, and the count of
-- repeats to come
pub record CallFrame : Type 0 where
  pub code : Code
  pub place : ℕ
  pub start : ℕ
  pub left : ℕ

-- The stack has its top first, the callers have the innermost first. Functions are listed by number, defined
-- instructions by opcode. The instance is the place on each axis of a variable font, in 2.14; the default has none.
pub record MachineState : Type 0 where
  pub stack : List ℤ
  pub frame : CallFrame
  pub callers : List CallFrame
  pub functions : List (ℕ × Body)
  pub instructions : List (ℕ × Body)
  pub storage : List ℤ
  pub cvt : List ℤ
  pub graphics : GraphicsState
  pub tolerance : Tolerance
  pub zones : ZoneLists
  pub skip_glyphs : Bool
  pub default_state : Bool
  pub ppem : ℕ
  pub scale : Scale
  pub instance : List ℤ
  pub kind : Kind

-- a fault at a place, named by the table of the program with the instruction, and the offset there
abbrev pub fault_in : CallFrame → ℕ → Why → Fault
fault_in frame at why = fault_at frame.code.table (frame.code.base + at) why

-- the start of a program
abbrev pub start_of : Code → CallFrame
start_of p = record { code = p; place = 0; start = 0; left = 0 }

-- before the first run
abbrev pub no_code : Code
no_code = record { table = codes "none"; base = 0; bytes = [] }

-- a run begins at the program's first byte, with an empty stack and no open call; all else is unchanged
abbrev pub begun : Kind → Code → MachineState → MachineState
begun k p m = record m { stack = []; frame = start_of p; callers = []; kind = k }
