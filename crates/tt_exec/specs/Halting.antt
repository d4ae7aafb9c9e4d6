-- No part of the standard: the fault of a run that halts, by the outcome of its last instruction.
use Rattle.std.specs.Prelude.{◌≤◌, ℕ, length}
use Rattle.tt_exec_step.specs.MachineState.{CallFrame, fault_in}
use Rattle.tt_exec_step.specs.declared.outcome.Outcome.{Outcome}
use Rattle.tt_exec_step.specs.declared.outcome.Outcome.TheVariants as outcome
use Rattle.tt_exec.specs.declared.fault.ExecFault.{ExecFault}
use Rattle.tt_exec.specs.declared.fault.ExecFault.TheVariants as exec

-- a refusal of the instruction itself is within the frame's program, and a completed instruction is no refusal
abbrev pub IsRefusal : ℕ → CallFrame → Outcome → Type 0
IsRefusal at frame outcome.Done = ⊥
IsRefusal at frame (outcome.Refused why) = at ≤ length frame.code.bytes
IsRefusal at frame (outcome.SkipRefused why) = Unit {0}
IsRefusal at frame outcome.NoMemory = Unit {0}

-- the fault of a run that halts, from the outcome of the instruction at a place
abbrev pub halted : CallFrame → ℕ → Outcome → ExecFault
halted frame at (outcome.Refused why) = exec.Font (fault_in frame at why)
halted frame at (outcome.SkipRefused why) = exec.Font (fault_in frame frame.place why)
halted frame at _ = exec.Memory
