-- Apple TrueType Reference Manual, "Instruction set": defining and using functions. A state's place is after the
-- instruction, which has a place of its own. The top of the stack comes first.
use Rattle.std.specs.Prelude.{ℕ, ◌+◌, ◌-◌, ◌==◌, ◌||◌, ◌&&◌, nat_le, nat_lt, ℤ, pos, int_lt, unsigned_abs, Bool, true, false, not, if◌then◌else◌, List, [], ◌∷◌, length, Option, Some, None, Result, Ok, Err}
use Rattle.tt_core.specs.Faults.{Fault}
use Rattle.tt_core.specs.declared.fault.Why.TheVariants as why
use Rattle.tt_code.specs.declared.decoding.Halt.{Halt}
use Rattle.tt_code.specs.Skips.{definition_end}
use Rattle.tt_exec_state.specs.Instances.{has_instance}
use Rattle.tt_exec_step.specs.declared.machine_state.Kind.{Kind}
use Rattle.tt_exec_step.specs.declared.machine_state.Kind.TheVariants as kind
use Rattle.tt_exec_step.specs.declared.program.Definition.{Definition}
use Rattle.tt_exec_step.specs.declared.program.Definition.TheVariants as definition
use Rattle.tt_core.specs.Limits.{call_limit}
use Rattle.tt_exec_step.specs.Flow.{goes_to}
use Rattle.tt_exec_step.specs.MachineState.{Body, CallFrame, MachineState, fault_in}
use Rattle.tt_exec_step.specs.Numbered.{is_number, is_opcode, function_at, with_function}

-- only the font program and the control value program define functions and instructions, outside calls (profile)
abbrev pub may_define : Kind → List CallFrame → Bool
may_define kind.Font [] = true
may_define kind.ControlValue [] = true
may_define _ _ = false

-- the opcodes of GETVARIATION and GETDATA
abbrev pub is_of_instance : ℕ → Bool
is_of_instance opcode = opcode == 0x91 || opcode == 0x92

-- the opcodes without a name. A program may define only these: the manual lets IDEF define undefined opcodes.
abbrev pub is_undefined : ℕ → Bool
is_undefined opcode =
    opcode == 0x28 || opcode == 0x7B || opcode == 0x83 || opcode == 0x84 || (nat_le 0x8F opcode && nat_le opcode 0xAF)

-- At an instance GETVARIATION and GETDATA are names too.
abbrev pub has_no_name : List ℤ → ℕ → Bool
has_no_name instance opcode = is_undefined opcode && not (has_instance instance && is_of_instance opcode)

-- a state with a definition; one of an opcode with a name adds nothing
abbrev pub with_definition : Definition → Body → MachineState → MachineState
with_definition (definition.Function n) f m = record m { functions = with_function n f m.functions }
with_definition (definition.Instruction opcode) f m =
    if has_no_name m.instance opcode then record m { instructions = with_function opcode f m.instructions } else m

-- a definition, from the end of its skip
abbrev pub defined : ℕ → Definition → MachineState → Result ℕ Halt → Result MachineState Fault
defined at d m (Ok place) =
    Ok (goes_to place (with_definition d (record { code = m.frame.code; start = at + 1 }) m))
defined at d m (Err halt) = Err (fault_in m.frame halt.at halt.why)

abbrev pub define : ℕ → Definition → MachineState → Result MachineState Fault
define at d m = defined at d m (definition_end m.frame.code.bytes at)

abbrev pub fdef_from : List ℤ → ℕ → MachineState → Result MachineState Fault
fdef_from (n ∷ s) at m =
    if is_number n then define at (definition.Function (unsigned_abs n)) (record m { stack = s })
    else Err (fault_in m.frame at why.BadArgument)
fdef_from [] at m = Err (fault_in m.frame at why.StackShort)

-- FDEF, where a definition is allowed
abbrev pub fdef : ℕ → MachineState → Result MachineState Fault
fdef at m =
    if may_define m.kind m.callers then fdef_from m.stack at m else Err (fault_in m.frame at why.DefinitionPlace)

-- IDEF is allowed where FDEF is
abbrev pub idef_from : List ℤ → ℕ → MachineState → Result MachineState Fault
idef_from (n ∷ s) at m =
    if is_opcode n then define at (definition.Instruction (unsigned_abs n)) (record m { stack = s })
    else Err (fault_in m.frame at why.BadArgument)
idef_from [] at m = Err (fault_in m.frame at why.StackShort)

abbrev pub idef : ℕ → MachineState → Result MachineState Fault
idef at m =
    if may_define m.kind m.callers then idef_from m.stack at m else Err (fault_in m.frame at why.DefinitionPlace)

-- ENDF begins the next round of a LOOPCALL, or continues after the call
abbrev pub endf : List CallFrame → ℕ → MachineState → Result MachineState Fault
endf [] at m = Err (fault_in m.frame at why.DefinitionPlace)
endf (caller ∷ callers) at m =
    if m.frame.left == 0 then Ok (record m { frame = caller; callers = callers })
    else Ok (record m { frame = record m.frame { place = m.frame.start; left = m.frame.left - 1 } })

-- a function called, with a count of repeats; it runs in the program that defines it
abbrev pub called : ℕ → ℕ → MachineState → Option Body → Result MachineState Fault
called at again m (Some f) =
    if nat_lt (length m.callers) call_limit then Ok (record m {
      frame = record { code = f.code; place = f.start; start = f.start; left = again };
      callers = m.frame ∷ m.callers;
    }) else Err (fault_in m.frame at why.CallDepth)
called at again m None = Err (fault_in m.frame at why.NoFunction)

abbrev pub call : List ℤ → ℕ → MachineState → Result MachineState Fault
call (n ∷ s) at m = called at 0 (record m { stack = s }) (function_at n m.functions)
call [] at m = Err (fault_in m.frame at why.StackShort)

-- an opcode without a name: one call of the instruction that a program defined for it
abbrev pub instruction_called : ℕ → MachineState → Option Body → Result MachineState Fault
instruction_called at m (Some f) = called at 0 m (Some f)
instruction_called at m None = Err (fault_in m.frame at why.BadOpcode)

-- a count below 1 calls nothing
abbrev pub called_often : ℕ → ℤ → MachineState → Option Body → Result MachineState Fault
called_often at count m (Some f) =
    if int_lt count (pos 1) then Ok m else called at (unsigned_abs count - 1) m (Some f)
called_often at count m None = Err (fault_in m.frame at why.NoFunction)

abbrev pub loopcall : List ℤ → ℕ → MachineState → Result MachineState Fault
loopcall (n ∷ count ∷ s) at m = called_often at count (record m { stack = s }) (function_at n m.functions)
loopcall _ at m = Err (fault_in m.frame at why.StackShort)
