-- No part of the standard: a run from any state ends or halts, with a single outcome, which is the computed one.
use Rattle.std.specs.Prelude.{◌≡◌, ℕ, ◌⊎◌, Ok, Err}
use Rattle.tt_core.specs.Faults.{Fault}
use Rattle.tt_exec_step.specs.MachineState.{MachineState}
use Rattle.tt_exec_step.specs.Runs.{Ends, Halts, run_outcome}

pub record HasOneOutcome (s : MachineState) : Type 0 where
  pub some : ((n : ℕ) × (t : MachineState) × Ends s n t) ⊎ ((fault : Fault) × Halts s fault)
  pub one_end : (n m : ℕ) (t u : MachineState) → Ends s n t → Ends s m u → (n ≡ m) × (t ≡ u)
  pub one_fault : (f g : Fault) → Halts s f → Halts s g → f ≡ g
  pub never_both : (n : ℕ) (t : MachineState) (fault : Fault) → Ends s n t → Halts s fault → ⊥
  pub end_is : (n : ℕ) (t : MachineState) → Ends s n t → run_outcome s ≡ Ok t
  pub fault_is : (fault : Fault) → Halts s fault → run_outcome s ≡ Err fault
