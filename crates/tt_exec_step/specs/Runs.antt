-- Apple TrueType Reference Manual, "Instructing TrueType Glyphs": a run takes steps until the program ends, or stops at
-- a fault.
use Rattle.std.specs.Prelude.{◌≡◌, ℕ, zero, suc, ◌<◌, ◌≤◌, ◌⊎◌, true, false, if◌then◌else◌, Result, Ok, Err}
use Rattle.tt_core.specs.Faults.{Fault}
use Rattle.tt_core.specs.Limits.{step_limit}
use Rattle.tt_core.specs.Outcomes.{◌>>=◌}
use Rattle.tt_core.specs.declared.fault.Why.TheVariants as why
use Rattle.tt_exec_step.specs.MachineState.{MachineState, fault_in}
use Rattle.tt_exec_step.specs.Step.{step, is_ended}

-- n steps lead from one state to another
abbrev pub Leads : ℕ → MachineState → MachineState → Type 0
Leads zero s t = s ≡ t
Leads (suc n) s t = (m : MachineState) × Leads n s m × (step m ≡ Ok t)

-- a run ends: within the limit its steps lead to the program's end, where no call is open
pub record Ends (s : MachineState) (n : ℕ) (t : MachineState) : Type 0 where
  pub few : n ≤ step_limit
  pub leads : Leads n s t
  pub ended : is_ended t ≡ true

-- no step leads on
pub record IsStuck (n : ℕ) (t : MachineState) (fault : Fault) : Type 0 where
  pub few : n < step_limit
  pub refused : step t ≡ Err fault

-- one more step would exceed the limit
pub record IsOver (n : ℕ) (t : MachineState) (fault : Fault) : Type 0 where
  pub all : n ≡ step_limit
  pub told : fault ≡ fault_in t.frame t.frame.place why.StepLimit

-- a run halts with a fault, at a state that is not the program's end
pub record Halts (s : MachineState) (fault : Fault) : Type 0 where
  pub n : ℕ
  pub t : MachineState
  pub leads : Leads n s t
  pub goes_on : is_ended t ≡ false
  pub why : IsStuck n t fault ⊎ IsOver n t fault

-- the state at the program's end, or the run's fault, with a limit of steps
unfoldable pub run_within : ℕ → MachineState → Result MachineState Fault
run_within zero s = if is_ended s then Ok s else Err (fault_in s.frame s.frame.place why.StepLimit)
run_within (suc n) s = if is_ended s then Ok s else (step s >>= λ t. run_within n t)

unfoldable pub run_outcome : MachineState → Result MachineState Fault
run_outcome s = run_within step_limit s
