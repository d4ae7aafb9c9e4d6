-- No part of the standard: a run of a program, and the same run with more work remaining (profile).
use Rattle.std.specs.Prelude.{◌≡◌, ℕ, ◌+◌, Option, Some, Result, Ok, Err}
use Rattle.tt_core.specs.Faults.{Fault}
use Rattle.tt_exec.specs.declared.fault.ExecFault.TheVariants as exec
use Rattle.tt_exec.specs.declared.work.WorkFault.{WorkFault}
use Rattle.tt_exec.specs.declared.work.WorkFault.TheVariants as work
use Rattle.tt_exec.specs.Machines.{Machine, run_from}
use Rattle.tt_exec.specs.Work.{run_work}
use Rattle.tt_exec.specs.Worked.{OutcomeWithin, RunsWithin, WorkIs}
use Rattle.tt_exec_step.specs.MachineState.{Code}
use Rattle.tt_exec_step.specs.Runs.{run_outcome}

-- `run_within` may answer so, by its contract: its result, the machine afterwards, and the remaining work
pub record Answers (p : Code) (old : Machine) (left : Option ℕ) (r : Result ℕ WorkFault) (new : Machine)
    (after : Option ℕ) : Type 0 where
  pub exact : RunsWithin p old r new
  pub outcome : OutcomeWithin (run_outcome (run_from p old.state)) r new
  pub work : WorkIs (run_work (run_from p old.state)) left r after

-- so much more remains
pub record IsMore (after longer : Option ℕ) (more : ℕ) : Type 0 where
  pub rest : ℕ
  pub first : after ≡ Some rest
  pub second : longer ≡ Some (rest + more)

-- the result of a run that finds no memory; the same run may find some at another time
abbrev pub no_memory : Result ℕ WorkFault
no_memory = Err (work.Run exec.Memory)

-- A run that ends within its budget ends the same within a larger one, unless it finds no memory. The machine
-- afterwards is the same.
abbrev pub EndsStay : Type 0
EndsStay = (p : Code) (old new again : Machine) (n left more : ℕ) (r : Result ℕ WorkFault) (after longer : Option ℕ)
    → Answers p old (Some left) (Ok n) new after → Answers p old (Some (left + more)) r again longer
    → (r ≡ no_memory → ⊥) → (r ≡ Ok n) × (again ≡ new) × IsMore after longer more

-- A run that halts with a fault of its program within its budget halts with that fault within a larger one.
abbrev pub FaultsStay : Type 0
FaultsStay = (p : Code) (old new again : Machine) (fault : Fault) (left more : ℕ) (r : Result ℕ WorkFault)
    (after longer : Option ℕ) → Answers p old (Some left) (Err (work.Run (exec.Font fault))) new after
    → Answers p old (Some (left + more)) r again longer → (r ≡ no_memory → ⊥)
    → (r ≡ Err (work.Run (exec.Font fault))) × (again.failed ≡ new.failed) × IsMore after longer more
