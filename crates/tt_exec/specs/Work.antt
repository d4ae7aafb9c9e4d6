-- No part of the standard: the work of a run, if its job has a budget (profile). A step is 1. Each point that its
-- instruction covers is 1, and so is each byte skipped, and each entry pushed after the first. At the beginning of a
-- run, each control value, storage place, twilight point, definition and place of a definition copied for it is 1.
-- Slower things weigh more. An instruction that is not quick is 2, DIV and GC are 3, MD is 4. A pair of DELTAP or
-- DELTAC, and an entry of MINDEX, is 2. A point moved by itself, named on the stack, or moved with its contour or zone
-- is 4. A point that MDRP moves is 7. A point that IUP covers is 2. A vector or a place found from lines is 32. These
-- weights follow measured times.
use Rattle.std.specs.Prelude.{ℕ, zero, suc, ◌+◌, ◌-◌, ◌*◌, ◌%◌, ◌==◌, ◌||◌, ◌&&◌, min, max, nat_le, ℤ, pos, unsigned_abs, Bool, if◌then◌else◌, List, [], ◌∷◌, length, slice_index, Option, Some, None, Result, Ok, Err}
use Rattle.tt_core.specs.Faults.{Fault}
use Rattle.tt_core.specs.Limits.{step_limit}
use Rattle.tt_core.specs.declared.fault.Why.TheVariants as why
use Rattle.tt_code.specs.declared.decoding.Halt.{Halt}
use Rattle.tt_code.specs.Skips.{if_end, else_end, definition_end}
use Rattle.tt_exec_step.specs.stack.Logic.{is_true}
use Rattle.tt_exec_step.specs.MachineState.{MachineState, fault_in}
use Rattle.tt_exec_step.specs.Numbered.{table_copies}
use Rattle.tt_exec_step.specs.Step.{step, is_ended}
use Rattle.tt_exec.specs.Machines.{fresh}
use Rattle.tt_exec.specs.Parts.{Parts}

-- the remaining work, None without a budget; or the fault of the instruction that needs more
pub data Worked : Type 0 where
  enough : Option ℕ → Worked
  spent : Fault → Worked

-- more work, from the remaining work
abbrev pub then_work : Worked → (Option ℕ → Worked) → Worked
then_work (enough left) more = more left
then_work (spent fault) more = spent fault

-- the remaining work after a cost, or this fault if there is not enough
abbrev pub charged : Fault → ℕ → Option ℕ → Worked
charged fault cost None = enough None
charged fault cost (Some left) = if nat_le cost left then enough (Some (left - cost)) else spent fault

-- the top of the stack; 0 for an empty stack
abbrev pub top_of : List ℤ → ℤ
top_of [] = pos 0
top_of (v ∷ s) = v

-- the count n, or the count of stack entries if that is less
abbrev pub of_stack : ℕ → MachineState → ℕ
of_stack n m = min n (length m.stack)

-- SHP, SHPIX, IP, ALIGNRP and FLIPPT cover points named on the stack; the loop variable is their count
abbrev pub is_looped : ℕ → Bool
is_looped op = op == 0x32 || op == 0x33 || op == 0x38 || op == 0x39 || op == 0x3C || op == 0x80

-- DELTAP and DELTAC cover pairs, and MINDEX covers entries; the top of the stack is their count
abbrev pub is_counted : ℕ → Bool
is_counted op = op == 0x5D || (nat_le 0x71 op && nat_le op 0x75) || op == 0x26

-- IUP covers points of the glyph
abbrev pub is_of_glyph : ℕ → Bool
is_of_glyph op = op == 0x30 || op == 0x31

-- FLIPRGON and FLIPRGOFF cover points of the glyph, and only change a flag of each
abbrev pub is_of_flags : ℕ → Bool
is_of_flags op = op == 0x81 || op == 0x82

-- SHC and SHZ cover points of either zone
abbrev pub is_of_zone : ℕ → Bool
is_of_zone op = nat_le 0x34 op && nat_le op 0x37

-- MDAP, MSIRP, MIAP, SCFS and MIRP move a point
abbrev pub moves_one : ℕ → Bool
moves_one op = op == 0x2E || op == 0x2F || op == 0x3A || op == 0x3B || op == 0x3E || op == 0x3F || op == 0x48 || nat_le 0xE0 op

-- MDRP measures an original distance, and moves a point by this distance
abbrev pub is_relative : ℕ → Bool
is_relative op = nat_le 0xC0 op && nat_le op 0xDF

-- SPVTL, SFVTL, SPVFS, SFVFS and ISECT find a vector, or the meeting point of lines
abbrev pub is_of_lines : ℕ → Bool
is_of_lines op = (nat_le 0x06 op && nat_le op 0x0B) || op == 0x0F

-- SDPVTL finds two vectors
abbrev pub finds_two : ℕ → Bool
finds_two op = op == 0x86 || op == 0x87

-- MD measures the distance of two points
abbrev pub is_of_distance : ℕ → Bool
is_of_distance op = op == 0x49 || op == 0x4A

-- DIV and GC are slow
abbrev pub is_slow : ℕ → Bool
is_slow op = op == 0x46 || op == 0x47 || op == 0x62

-- PUSHB and PUSHW push up to eight values
abbrev pub is_push : ℕ → Bool
is_push op = nat_le 0xB0 op && nat_le op 0xBF

-- the quick ones: SVTCA, SPVTCA, SFVTCA, SFVTPV, RTG, RTHG, DUP, POP, CLEAR, SWAP, EIF, SUB, JROT
abbrev pub is_quick : ℕ → Bool
is_quick op =
    nat_le op 0x05
    || op == 0x0E
    || op == 0x18
    || op == 0x19
    || (nat_le 0x20 op && nat_le op 0x23)
    || op == 0x59
    || op == 0x61
    || op == 0x78

-- NPUSHB and NPUSHW push entries; the byte after them is the count
abbrev pub is_push_of_many : ℕ → Bool
is_push_of_many op = op == 0x40 || op == 0x41

-- GETVARIATION pushes an entry for each axis; without an instance this opcode is as slow as others
abbrev pub is_of_axes : ℕ → Bool
is_of_axes op = op == 0x91

-- the extra work of an instruction that covers no point or entry; a push of n values has n - 1
unfoldable pub slowness : ℕ → ℕ
slowness op =
    if is_of_distance op then 3 else (
    if is_slow op then 2 else (
    if is_push op then op % 8 else (
    if is_quick op then 0 else 1)))

-- the extra work of an instruction, which doesn't depend on the loop variable or the stack; ALIGNPTS moves two points
abbrev pub weight : ℕ → MachineState → ℕ
weight op m =
    if moves_one op then 4 else (
    if is_relative op then 7 else (
    if op == 0x27 then 8 else (
    if is_of_lines op then 32 else (
    if finds_two op then 48 else (
    if is_push_of_many op then slice_index m.frame.code.bytes (m.frame.place + 1) else (
    if is_of_axes op then max (length m.instance) 1 else slowness op))))))

-- the work for the two reference points of IP, whatever the loop variable
abbrev pub referred : ℕ → ℕ
referred op = if op == 0x39 then 4 else 0

-- the work for the points or stack entries that an instruction covers; for a contour, a zone or a range all points
-- count
abbrev pub gone_over : ℕ → MachineState → ℕ
gone_over op m =
    if is_looped op then 4 * of_stack m.graphics.loops m + referred op else (
    if is_counted op then 2 * of_stack (unsigned_abs (top_of m.stack)) m else (
    if is_of_glyph op then 2 * length m.zones.glyph else (
    if is_of_flags op then length m.zones.glyph else (
    if is_of_zone op then 4 * (length m.zones.twilight + length m.zones.glyph) else weight op m))))

-- the bytes skipped after an opcode, up to the program's end for a skip without an end
abbrev pub passed_by : MachineState → Result ℕ Halt → ℕ
passed_by m (Ok place) = place - (m.frame.place + 1)
passed_by m (Err halt) = length m.frame.code.bytes - (m.frame.place + 1)

-- IF of 0, ELSE, FDEF and IDEF skip
abbrev pub passed : ℕ → MachineState → ℕ
passed op m =
    if op == 0x58 then (if is_true (top_of m.stack) then 0 else passed_by m (if_end m.frame.code.bytes m.frame.place))
    else (if op == 0x1B then passed_by m (else_end m.frame.code.bytes m.frame.place)
    else (if op == 0x2C || op == 0x89 then passed_by m (definition_end m.frame.code.bytes m.frame.place) else 0))

-- the work of the step at a state's place
abbrev pub cost_by : ℕ → MachineState → ℕ
cost_by op m = 1 + (gone_over op m + passed op m)

abbrev pub step_cost : MachineState → ℕ
step_cost m = cost_by (slice_index m.frame.code.bytes m.frame.place) m

-- the things copied for a run
abbrev pub copied : MachineState → ℕ
copied m =
    length m.cvt
    + (length m.storage + (length m.zones.twilight + (table_copies m.functions + table_copies m.instructions)))

-- a run that would exceed its budget halts at its present place
abbrev pub over_at : MachineState → Fault
over_at m = fault_in m.frame m.frame.place why.StepLimit

-- the things copied for a run of any program that begins with these parts
abbrev pub copied_of : Parts → ℕ
copied_of parts = copied (fresh parts)

-- the work after a step; a refused step is the last
abbrev pub work_after : (MachineState → Option ℕ → Worked) → Result MachineState Fault → Option ℕ → Worked
work_after more (Ok t) left = more t left
work_after more (Err fault) left = enough left

-- the work of a run with a limit of steps; a refused step is work too
unfoldable pub work_within : ℕ → MachineState → Option ℕ → Worked
work_within zero m left = enough left
work_within (suc n) m left =
    if is_ended m then enough left
    else then_work (charged (over_at m) (step_cost m) left) (work_after (work_within n) (step m))

-- the work of a run from this state
unfoldable pub run_work : MachineState → Option ℕ → Worked
run_work m left = then_work (charged (over_at m) (copied m) left) (work_within step_limit m)
