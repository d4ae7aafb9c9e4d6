-- Apple TrueType Reference Manual, "Instruction set": managing the flow of control. A state's place is after the
-- instruction, which has a place of its own. The top of the stack comes first.
use Rattle.std.specs.Prelude.{◌≡◌, ℕ, ℤ, pos, ◌+ℤ◌, int_le, unsigned_abs, Bool, true, not, ◌&&◌, if◌then◌else◌, List, [], ◌∷◌, length, Result, Ok, Err}
use Rattle.tt_core.specs.Faults.{Fault}
use Rattle.tt_core.specs.declared.fault.Why.{Why}
use Rattle.tt_core.specs.declared.fault.Why.TheVariants as why
use Rattle.tt_code.specs.declared.decoding.Halt.{Halt}
use Rattle.tt_code.specs.Skips.{if_end, else_end}
use Rattle.tt_exec_stack.specs.Logic.{is_true}
use Rattle.tt_exec_step.specs.MachineState.{MachineState, fault_in}

-- the next instruction is at this place
abbrev pub goes_to : ℕ → MachineState → MachineState
goes_to place m = record m { frame = record m.frame { place = place } }

-- the end of a skip, or its refusal
abbrev pub skipped : MachineState → Result ℕ Halt → Result MachineState Fault
skipped m (Ok place) = Ok (goes_to place m)
skipped m (Err halt) = Err (fault_in m.frame halt.at halt.why)

-- a jump counts from its own opcode, up to the program's end
abbrev pub jumped : ℕ → ℤ → MachineState → Result MachineState Fault
jumped at offset m =
    let target = pos at +ℤ offset in
    if int_le (pos 0) target && int_le target (pos (length m.frame.code.bytes))
    then Ok (goes_to (unsigned_abs target) m)
    else Err (fault_in m.frame at why.JumpRange)

-- IF continues after itself if the condition is not 0, otherwise after its ELSE or EIF
abbrev pub if_from : List ℤ → ℕ → MachineState → Result MachineState Fault
if_from (condition ∷ s) at m =
    if is_true condition then Ok (record m { stack = s })
    else skipped (record m { stack = s }) (if_end m.frame.code.bytes at)
if_from [] at m = Err (fault_in m.frame at why.StackShort)

-- whether an IF skips: the condition is 0, or there is none, which a tolerant machine takes as 0 (profile)
abbrev pub skips_if : List ℤ → Bool
skips_if (condition ∷ s) = not (is_true condition)
skips_if [] = true

-- an ELSE that the run reaches ends the part before it
abbrev pub else_from : ℕ → MachineState → Result MachineState Fault
else_from at m = skipped m (else_end m.frame.code.bytes at)

abbrev pub jmpr : List ℤ → ℕ → MachineState → Result MachineState Fault
jmpr (offset ∷ s) at m = jumped at offset (record m { stack = s })
jmpr [] at m = Err (fault_in m.frame at why.StackShort)

abbrev pub jrot : List ℤ → ℕ → MachineState → Result MachineState Fault
jrot (condition ∷ offset ∷ s) at m =
    if is_true condition then jumped at offset (record m { stack = s }) else Ok (record m { stack = s })
jrot _ at m = Err (fault_in m.frame at why.StackShort)

abbrev pub jrof : List ℤ → ℕ → MachineState → Result MachineState Fault
jrof (condition ∷ offset ∷ s) at m =
    if is_true condition then Ok (record m { stack = s }) else jumped at offset (record m { stack = s })
jrof _ at m = Err (fault_in m.frame at why.StackShort)

-- the top entry that a call took from a state, or the refusal of an empty stack
abbrev pub TakesTop : MachineState → Result ℤ Why → MachineState → Type 0
TakesTop old (Ok x) new = old ≡ record new { stack = x ∷ new.stack }
TakesTop old (Err e) new = (old.stack ≡ []) × (e ≡ why.StackShort) × (new.frame ≡ old.frame)
