-- Apple TrueType Reference Manual, "Instructing TrueType Glyphs": the runs of a machine, one after another.
use Rattle.std.specs.Prelude.{◌≡◌, ℕ, Option, Some, None, Bool, true, false, if◌then◌else◌, List, [], codes, Result, Ok, Err}
use Rattle.std.specs.Str.{bytes_eq}
use Rattle.tt_core.specs.Faults.{Fault}
use Rattle.tt_core.specs.declared.font_fault.FontFault.{FontFault}
use Rattle.tt_core.specs.declared.font_fault.FontFault.TheVariants as font
use Rattle.tt_exec.specs.declared.fault.ExecFault.{ExecFault}
use Rattle.tt_exec.specs.declared.fault.ExecFault.TheVariants as exec
use Rattle.tt_exec_step.specs.declared.machine_state.Kind.{Kind}
use Rattle.tt_exec_step.specs.declared.machine_state.Kind.TheVariants as kind
use Rattle.tt_exec_step.specs.MachineState.{Code, MachineState, no_code, start_of, begun}
use Rattle.tt_exec.specs.Parts.{Parts}
use Rattle.tt_exec_step.specs.Runs.{Ends, Halts}

-- a machine's state, and whether a run of it failed
pub record Machine : Type 0 where
  pub state : MachineState
  pub failed : Bool

abbrev pub fresh : Parts → MachineState
fresh p = record {
  stack = [];
  frame = start_of no_code;
  callers = [];
  functions = p.functions;
  instructions = p.instructions;
  storage = p.storage;
  cvt = p.cvt;
  graphics = p.state;
  tolerance = p.tolerance;
  zones = p.zones;
  skip_glyphs = p.skip_glyphs;
  default_state = p.default_state;
  ppem = p.ppem;
  scale = p.scale;
  instance = p.instance;
  kind = kind.Glyph;
}

-- a machine with these parts, new or begun again
abbrev pub begun_again : Parts → Machine
begun_again p = record { state = fresh p; failed = false }

-- the parts of a machine, without the state of a run
abbrev pub parts_in : MachineState → Parts
parts_in m = record {
  scale = m.scale;
  ppem = m.ppem;
  cvt = m.cvt;
  storage = m.storage;
  zones = m.zones;
  functions = m.functions;
  instructions = m.instructions;
  state = m.graphics;
  instance = m.instance;
  tolerance = m.tolerance;
  skip_glyphs = m.skip_glyphs;
  default_state = m.default_state;
}

-- the kind of program in a table
abbrev pub kind_of : List ℕ → Kind
kind_of table =
    if bytes_eq table (codes "fpgm") then kind.Font else (
    if bytes_eq table (codes "prep") then kind.ControlValue else kind.Glyph)

-- a run of a program begins
abbrev pub run_from : Code → MachineState → MachineState
run_from p m = begun (kind_of p.table) p m

abbrev pub exec_fault : FontFault → ExecFault
exec_fault (font.Font f) = exec.Font f
exec_fault font.Memory = exec.Memory

-- A run ends after a count of steps, halts with a fault, or has no memory. After the last two the machine has failed:
-- further runs report that and change nothing.
abbrev pub RunGives : Code → Machine → Result ℕ ExecFault → Machine → Type 0
RunGives p old (Ok n) new = (old.failed ≡ false) × (new.failed ≡ false) × Ends (run_from p old.state) n new.state
RunGives p old (Err (exec.Font f)) new = (old.failed ≡ false) × (new.failed ≡ true) × Halts (run_from p old.state) f
RunGives p old (Err exec.Memory) new = (old.failed ≡ false) × (new.failed ≡ true)
RunGives p old (Err exec.Failed) new = (old.failed ≡ true) × (new ≡ old)

-- the result from the function that computes a run: its last state or its fault, unless memory ran out or the machine
-- had failed
abbrev pub OutcomeIs : Result MachineState Fault → Result ℕ ExecFault → Machine → Type 0
OutcomeIs outcome (Ok n) new = outcome ≡ Ok new.state
OutcomeIs outcome (Err (exec.Font f)) new = outcome ≡ Err f
OutcomeIs outcome (Err exec.Memory) new = Unit {0}
OutcomeIs outcome (Err exec.Failed) new = Unit {0}

-- the parts of a machine, or None if it has failed
abbrev pub GivesParts : Machine → Option Parts → Type 0
GivesParts m (Some p) = (m.failed ≡ false) × (p ≡ parts_in m.state)
GivesParts m None = m.failed ≡ true

-- a law: for the same parts, a run of any program begins in the same state on a new machine and on one begun again. Its
-- outcome and its work depend on that state alone.
abbrev pub RunsBeginAgain : Type 0
RunsBeginAgain = (parts : Parts) (new again : Machine) → new ≡ begun_again parts → again ≡ begun_again parts
    → (code : Code) → run_from code again.state ≡ run_from code new.state
