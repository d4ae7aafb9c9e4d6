-- Apple TrueType Reference Manual, "Instruction set": one step, the instruction at the state's place. Each family has a
-- file of definitions; here they change a whole state.
use Rattle.std.specs.Prelude.{ℕ, ◌+◌, nat_le, ℤ, pos, Bool, false, ◌==◌, ◌||◌, ◌&&◌, List, length, if◌then◌else◌, Result, Ok, Err}
use Rattle.tt_core.specs.Faults.{Fault}
use Rattle.tt_core.specs.declared.fault.Why.{Why}
use Rattle.tt_core.specs.declared.fault.Why.TheVariants as why
use Rattle.tt_code.specs.declared.decoding.Halt.{Halt}
use Rattle.tt_code.specs.Decoding.{Instr, instruction_at, takes_data}
use Rattle.tt_state.specs.declared.graphics_state.GraphicsState.{GraphicsState}
use Rattle.tt_state.specs.Tolerance.{is_tolerant}
use Rattle.tt_exec_stack.specs.Arithmetic.{computed}
use Rattle.tt_exec_stack.specs.Logic.{evaluated}
use Rattle.tt_exec_stack.specs.Managing.{managed}
use Rattle.tt_exec_state.specs.StoredValues.{values_accessed}
use Rattle.tt_exec_stack.specs.Stack.{padded}
use Rattle.tt_exec_stack.specs.Pushing.{pushed_bytes, pushed_words}
use Rattle.tt_exec_state.specs.Instances.{has_instance}
use Rattle.tt_exec_state.specs.Queries.{answered}
use Rattle.tt_exec_state.specs.Settings.{state_set}
use Rattle.tt_exec_state.specs.Variations.{variation_answered}
use Rattle.tt_exec_state.specs.Vectors.{vectors_accessed}
use Rattle.tt_exec_step.specs.Flags.{instctrl}
use Rattle.tt_exec_step.specs.Flow.{goes_to, if_from, else_from, jmpr, jrot, jrof}
use Rattle.tt_exec_step.specs.Functions.{fdef, idef, endf, call, loopcall, instruction_called}
use Rattle.tt_exec_step.specs.Numbered.{function_at}
use Rattle.tt_exec_step.specs.MachineState.{MachineState, fault_in}
use Rattle.tt_exec_step.specs.OnPoints.{on_points}
use Rattle.tt_exec_step.specs.Opcodes.{operation_of}
use Rattle.tt_exec_step.specs.Outcome.{ComesTo}
use Rattle.tt_exec_step.specs.declared.outcome.Outcome.{Outcome}
use Rattle.tt_exec_step.specs.Operation.{Operation, takes}
use Rattle.tt_exec_step.specs.Operation as op

-- a state with its new stack, graphics state, storage or control values; or the refusal at the instruction's place
abbrev pub on_stack : ℕ → MachineState → Result (List ℤ) Why → Result MachineState Fault
on_stack at m (Ok s) = Ok (record m { stack = s })
on_stack at m (Err why) = Err (fault_in m.frame at why)

abbrev pub on_graphics : ℕ → MachineState → Result (List ℤ × GraphicsState) Why → Result MachineState Fault
on_graphics at m (Ok t) = Ok (record m { stack = t.0; graphics = t.1 })
on_graphics at m (Err why) = Err (fault_in m.frame at why)

abbrev pub on_places : ℕ → MachineState → Result (List ℤ × List ℤ × List ℤ) Why → Result MachineState Fault
on_places at m (Ok t) = Ok (record m { stack = t.0; storage = t.1; cvt = t.2 })
on_places at m (Err why) = Err (fault_in m.frame at why)

-- NPUSHW and PUSHW push words
abbrev pub pushes_words : ℕ → Bool
pushes_words opcode = opcode == 0x41 || (nat_le 0xB8 opcode && nat_le opcode 0xBF)

-- the data of an opcode pushed
abbrev pub push : ℕ → List ℕ → ℕ → MachineState → Result MachineState Fault
push opcode args at m =
    on_stack at m (if pushes_words opcode then pushed_words args m.stack else pushed_bytes args m.stack)

-- an operation at a place; the state's place is after it
abbrev pub operate : Operation → ℕ → MachineState → Result MachineState Fault
operate (op.access_vectors o) at m = on_graphics at m (vectors_accessed o m.stack m.graphics)
operate (op.set_state o) at m = on_graphics at m (state_set o m.ppem m.scale m.tolerance m.stack m.graphics)
operate (op.manage o) at m = on_stack at m (managed o m.tolerance m.stack)
operate (op.evaluate o) at m = on_stack at m (evaluated o m.graphics.round m.stack)
operate (op.compute o) at m = on_stack at m (computed o m.graphics.round m.stack)
operate (op.access_values o) at m = on_places at m
    (values_accessed o m.scale m.tolerance m.stack m.storage m.cvt)
operate (op.answer o) at m = on_stack at m (answered o m.ppem m.instance m.stack)
operate op.instctrl at m = instctrl m.stack at m
operate op.if_from at m = if_from m.stack at m
operate op.else_from at m = else_from at m
operate op.eif at m = Ok m
operate op.jmpr at m = jmpr m.stack at m
operate op.jrot at m = jrot m.stack at m
operate op.jrof at m = jrof m.stack at m
operate op.fdef at m = fdef at m
operate op.endf at m = endf m.callers at m
operate op.call at m = call m.stack at m
operate op.loopcall at m = loopcall m.stack at m
operate (op.on_points o) at m = on_points o at m
operate op.idef at m = idef at m
operate (op.beyond o) at m = if m.graphics.whole then operate o at m else Err (fault_in m.frame at why.OffProfile)
operate (op.read_instance o opcode) at m =
    if has_instance m.instance then on_stack at m (variation_answered o m.instance m.stack)
    else instruction_called at m (function_at (pos opcode) m.instructions)
operate (op.unnamed opcode) at m = instruction_called at m (function_at (pos opcode) m.instructions)

-- an operation did as defined, or is refused, from one state to another
abbrev pub Operates : Operation → ℕ → MachineState → MachineState → Outcome → Type 0
Operates o at old new outcome = ComesTo (operate o at old) at new outcome

-- the values that an instruction takes: if a tolerant machine has fewer, all of them are 0 (profile)
abbrev pub filled : Operation → MachineState → MachineState
filled o m = if is_tolerant m.tolerance then record m { stack = padded (takes o) m.stack } else m

-- the instruction at the state's place executed, or its data pass the program's end
abbrev pub done : MachineState → Result Instr Halt → Result MachineState Fault
done m (Ok i) =
    let next = goes_to (m.frame.place + i.len) m in
    if takes_data i.op then push i.op i.args m.frame.place next
    else operate (operation_of i.op) m.frame.place (filled (operation_of i.op) next)
done m (Err halt) = Err (fault_in m.frame halt.at halt.why)

-- The program's end inside a call is no instruction.
abbrev pub step : MachineState → Result MachineState Fault
step m =
    if nat_le (length m.frame.code.bytes) m.frame.place then Err (fault_in m.frame m.frame.place why.CodeShort)
    else done m (instruction_at m.frame.code.bytes m.frame.place)

-- a program ends at its end, without an open call
abbrev pub no_call : MachineState → Bool
no_call m = length m.callers == 0

abbrev pub is_ended : MachineState → Bool
is_ended m = if no_call m then m.frame.place == length m.frame.code.bytes else false
