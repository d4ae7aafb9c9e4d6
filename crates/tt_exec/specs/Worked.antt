-- No part of the standard: a run within a budget, compared with its computed outcome and its work.
use Rattle.std.specs.Prelude.{◌≡◌, ℕ, ◌+◌, ◌≤◌, Bool, true, false, Option, Some, None, Result, Ok, Err}
use Rattle.tt_core.specs.Faults.{Fault}
use Rattle.tt_core.specs.declared.fault.Why.TheVariants as why
use Rattle.tt_exec.specs.declared.fault.ExecFault.TheVariants as exec
use Rattle.tt_exec.specs.declared.work.WorkFault.{WorkFault}
use Rattle.tt_exec.specs.declared.work.WorkFault.TheVariants as work
use Rattle.tt_exec_step.specs.MachineState.{Code, MachineState}
use Rattle.tt_exec.specs.Machines.{Machine, OutcomeIs, RunGives}
use Rattle.tt_exec_step.specs.Runs.{Ends, Halts}
use Rattle.tt_exec.specs.Work.{Worked, enough, spent, run_work}

-- A run within its budget has the result of a run without one. After a run that exceeds it the machine has failed.
abbrev pub RunsWithin : Code → Machine → Result ℕ WorkFault → Machine → Type 0
RunsWithin p old (Ok n) new = RunGives p old (Ok n) new
RunsWithin p old (Err (work.Run fault)) new = RunGives p old (Err fault) new
RunsWithin p old (Err (work.Spent fault)) new = (old.failed ≡ false) × (new.failed ≡ true)

-- the result from the function that computes a run
abbrev pub OutcomeWithin : Result MachineState Fault → Result ℕ WorkFault → Machine → Type 0
OutcomeWithin outcome (Ok n) new = OutcomeIs outcome (Ok n) new
OutcomeWithin outcome (Err (work.Run fault)) new = OutcomeIs outcome (Err fault) new
OutcomeWithin outcome (Err (work.Spent fault)) new = Unit {0}

-- A job's remaining work after a run. A run that ends, or halts with a fault of its own, has used its own work. After
-- one that exceeds its budget nothing remains. A failed machine uses nothing. For a run without memory nothing is
-- promised.
abbrev pub WorkIs : (Option ℕ → Worked) → Option ℕ → Result ℕ WorkFault → Option ℕ → Type 0
WorkIs worked old (Ok n) new = worked old ≡ enough new
WorkIs worked old (Err (work.Run (exec.Font fault))) new = worked old ≡ enough new
WorkIs worked old (Err (work.Run exec.Memory)) new = Unit {0}
WorkIs worked old (Err (work.Run exec.Failed)) new = new ≡ old
WorkIs worked old (Err (work.Spent fault)) new = (worked old ≡ spent fault) × (new ≡ Some 0)

-- a payment: the remaining work; or there was not enough, and nothing remains
abbrev pub Pays : Fault → Worked → Bool → Option ℕ → Type 0
Pays fault worked true new = worked ≡ enough new
Pays fault worked false new = (worked ≡ spent fault) × (new ≡ Some 0)

-- A run of a machine that has not failed ends, halts with a fault, wants memory, or exceeds its budget.
abbrev pub RunsTo : MachineState → Result ℕ WorkFault → MachineState → Type 0
RunsTo old (Ok n) new = Ends old n new
RunsTo old (Err (work.Run (exec.Font fault))) new = Halts old fault
RunsTo old (Err (work.Run exec.Memory)) new = Unit {0}
RunsTo old (Err (work.Run exec.Failed)) new = ⊥
RunsTo old (Err (work.Spent fault)) new = Unit {0}

-- n steps used at least n of the work
abbrev pub Paid : ℕ → Option ℕ → Option ℕ → Type 0
Paid n None new = new ≡ None
Paid n (Some left) new = (rest : ℕ) × (new ≡ Some rest) × (n + rest ≤ left)

-- the laws of work

abbrev pub UnboundedWork : Type 0
UnboundedWork = (m : MachineState) → run_work m None ≡ enough None

abbrev pub SpentWork : Type 0
SpentWork = (m : MachineState) (left : Option ℕ) (fault : Fault) → run_work m left ≡ spent fault
    → fault.why ≡ why.StepLimit

-- the remaining work never increases
abbrev pub WorkFalls : Type 0
WorkFalls = (m : MachineState) (left : ℕ) (after : Option ℕ) → run_work m (Some left) ≡ enough after
    → (rest : ℕ) × (after ≡ Some rest) × (rest ≤ left)
