-- No part of the standard: links the outcome of an instruction's code to the definition's state or fault. A refusal is
-- without table and offset, which come from the frame afterwards.
use Rattle.std.specs.Prelude.{◌≡◌, ◌≤◌, ℕ, Bool, true, false, length, Result, Ok, Err}
use Rattle.tt_core.specs.Faults.{Fault}
use Rattle.tt_core.specs.declared.fault.Why.{Why}
use Rattle.tt_exec_step.specs.MachineState.{MachineState, fault_in}
use Rattle.tt_exec_step.specs.declared.outcome.Outcome.{Outcome}
use Rattle.tt_exec_step.specs.declared.outcome.Outcome.TheVariants as outcome

-- the definition has a refusal at a place of the frame's program
abbrev pub Refuses : Result MachineState Fault → ℕ → MachineState → Why → Type 0
Refuses given at new why = (at ≤ length new.frame.code.bytes) × (given ≡ Err (fault_in new.frame at why))

-- a part of an instruction did as defined, or is refused at a place
abbrev pub DoesAt : {X : Type 0} → Result MachineState Fault → ℕ → MachineState → Result X Why → Type 0
DoesAt given at new (Ok x) = given ≡ Ok new
DoesAt given at new (Err why) = Refuses given at new why

-- a whole instruction did as defined, or is refused there or elsewhere, or wants memory
abbrev pub ComesTo : Result MachineState Fault → ℕ → MachineState → Outcome → Type 0
ComesTo given at new outcome.Done = given ≡ Ok new
ComesTo given at new (outcome.Refused why) = Refuses given at new why
ComesTo given at new (outcome.SkipRefused why) = given ≡ Err (fault_in new.frame new.frame.place why)
ComesTo given at new outcome.NoMemory = Unit {0}

-- whether an instruction wanted memory: only FDEF and IDEF use some
abbrev pub wants_memory : Outcome → Bool
wants_memory outcome.NoMemory = true
wants_memory _ = false
