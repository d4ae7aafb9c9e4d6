-- No part of the standard: tolerance and runs. A run that ends on a strict machine ends in the same way on a tolerant
-- one. One that halts has the same fault, unless that is a refusal that tolerance lifts.
use Rattle.std.specs.Prelude.{◌≡◌, false, Result, Ok, Err}
use Rattle.tt_core.specs.Faults.{Fault}
use Rattle.tt_state.specs.Loosening.{is_lifted, is_never}
use Rattle.tt_state.specs.declared.tolerance.Tolerance.TheVariants as tolerance
use Rattle.tt_exec_step.specs.MachineState.{MachineState}
use Rattle.tt_exec_step.specs.Runs.{run_outcome}

abbrev pub strict_in : MachineState → MachineState
strict_in m = record m { tolerance = tolerance.Strict }

abbrev pub tolerant_in : MachineState → MachineState
tolerant_in m = record m { tolerance = tolerance.Tolerant }

-- the outcomes of a run on a strict machine, and on a tolerant one; a strict machine is still strict
abbrev pub RunLoosens : Result MachineState Fault → Result MachineState Fault → Type 0
RunLoosens (Ok t) loose = (loose ≡ Ok (tolerant_in t)) × (t ≡ strict_in t)
RunLoosens (Err fault) loose = is_lifted fault.why ≡ false → loose ≡ Err fault

abbrev pub RunsLoosen : Type 0
RunsLoosen = (s : MachineState) → RunLoosens (run_outcome (strict_in s)) (run_outcome (tolerant_in s))

-- the outcome of a run on a tolerant machine: it never halts for too few values or for a missing thing, and is still
-- tolerant
abbrev pub LacksNothing : Result MachineState Fault → Type 0
LacksNothing (Ok t) = t ≡ tolerant_in t
LacksNothing (Err fault) = is_never fault.why ≡ false

abbrev pub TolerantRunsLackNothing : Type 0
TolerantRunsLackNothing = (s : MachineState) → LacksNothing (run_outcome (tolerant_in s))
