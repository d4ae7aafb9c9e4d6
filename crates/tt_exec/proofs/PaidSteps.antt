-- Steps that are paid for, whether the payment or the run executes them.
use Rattle.std.proofs.Common.{◌≡◌, ◌≢◌, ℕ, Option, Result, Ok, refl}
use Rattle.tt_core.specs.Faults.{Fault}
use Rattle.tt_exec_step.specs.MachineState.{MachineState}
use Rattle.tt_exec_step.specs.Outcome.{ComesTo}
use Rattle.tt_exec_step.specs.Step.{step}
use Rattle.tt_exec_step.specs.declared.outcome.Outcome.{Outcome}
use Rattle.tt_exec_step.specs.declared.outcome.Outcome.TheVariants as outcome
use Rattle.tt_exec.specs.Halting.{IsRefusal}
use Rattle.tt_exec.specs.PaidSteps.{IsPaid}
use Rattle.tt_exec.specs.Work.{enough}
use Rattle.tt_exec.specs.declared.paying.Payment.TheVariants as payment
use Rattle.tt_exec.proofs.WorkPaid.{StepPays}

-- a step that is paid for and then executed
pub stepped : (m mid : MachineState) (left rest : Option ℕ) (op : ℕ) (new : MachineState) (o : Outcome)
    → IsPaid m left (payment.Paid op) mid rest → ComesTo (step mid) mid.frame.place new o
    → IsPaid m left (payment.Stepped o) new rest
stepped m mid left rest op new o paid comes =
    let (pays, same, (there, is)) = paid in
    (pays, rw same at comes)

-- a paid step that is done
pub done : (m : MachineState) (left : Option ℕ) (o : Outcome) (new : MachineState) (rest : Option ℕ) → o ≡ outcome.Done
    → IsPaid m left (payment.Stepped o) new rest → StepPays m left (enough rest) × (step m ≡ Ok new)
done m left o new rest is paid = rw is at paid

-- an outcome that is not done is a refusal
pub is_refusal : (o : Outcome) (given : Result MachineState Fault) (at : ℕ) (new : MachineState) → o ≢ outcome.Done
    → ComesTo given at new o → IsRefusal at new.frame o
is_refusal outcome.Done given at new not_done comes = absurd (not_done refl)
is_refusal (outcome.Refused why) given at new not_done comes = comes.0
is_refusal (outcome.SkipRefused why) given at new not_done comes = tt
is_refusal outcome.NoMemory given at new not_done comes = tt
