-- No part of the standard: a step that is paid for, and one that is executed besides.
use Rattle.std.specs.Prelude.{◌≡◌, ◌<◌, ℕ, true, false, length, slice_index, Option}
use Rattle.tt_exec_step.specs.MachineState.{MachineState}
use Rattle.tt_exec_step.specs.Outcome.{ComesTo}
use Rattle.tt_exec_step.specs.Step.{step}
use Rattle.tt_exec.specs.declared.paying.Payment.{Payment}
use Rattle.tt_exec.specs.declared.paying.Payment.TheVariants as payment
use Rattle.tt_exec.specs.Work.{charged, over_at, step_cost}
use Rattle.tt_exec.specs.Worked.{Pays}

-- an opcode stands at a state's place
abbrev pub StandsThere : MachineState → ℕ → Type 0
StandsThere m op = (m.frame.place < length m.frame.code.bytes) × (op ≡ slice_index m.frame.code.bytes m.frame.place)

-- a step is paid for, and is executed or not; or there was not enough work for it
abbrev pub IsPaid : MachineState → Option ℕ → Payment → MachineState → Option ℕ → Type 0
IsPaid old left (payment.Paid op) new rest =
    Pays (over_at old) (charged (over_at old) (step_cost old) left) true rest × (new ≡ old) × StandsThere old op
IsPaid old left (payment.Stepped outcome) new rest =
    Pays (over_at old) (charged (over_at old) (step_cost old) left) true rest
    × ComesTo (step old) old.frame.place new outcome
IsPaid old left payment.Spent new rest =
    Pays (over_at old) (charged (over_at old) (step_cost old) left) false rest × (new ≡ old)
