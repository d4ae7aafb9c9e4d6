-- A tolerant machine lacks nothing: no run of it halts for too few values, or for a missing thing.
use Rattle.std.specs.Bool.{⊤}
use Rattle.std.proofs.Common.{◌≡◌, ℕ, zero, suc, ◌+◌, ◌*◌, ◌==◌, ◌≤◌, nat_le, nat_lt, ℤ, pos, ◌+ℤ◌, int_le, int_lt, unsigned_abs, Bool, true, false, ◌&&◌, if◌then◌else◌, List, [], ◌∷◌, length, Option, Some, None, Result, Ok, Err, subst, sym, refl, arith}
use Rattle.tt_core.specs.Faults.{Fault}
use Rattle.tt_core.specs.Limits.{call_limit, stack_limit, step_limit}
use Rattle.tt_core.specs.Numbers.{signed16}
use Rattle.tt_core.specs.Outcomes.{◌>>=◌}
use Rattle.tt_core.specs.declared.fault.Why.{Why}
use Rattle.tt_core.specs.declared.fault.Why.TheVariants as why
use Rattle.tt_code.specs.declared.decoding.Halt.{Halt}
use Rattle.tt_code.specs.Decoding.{Instr, short_at, instruction_at, takes_data}
use Rattle.tt_code.specs.Skips.{ends, depth_after, skip_from, if_end, else_end, definition_end}
use Rattle.tt_state.specs.declared.graphics_state.GraphicsState.{GraphicsState}
use Rattle.tt_state.specs.declared.tolerance.Tolerance.TheVariants as tolerance
use Rattle.tt_state.specs.Loosening.{IsTotal, is_never, total_after}
use Rattle.tt_points_zones.specs.Zones.{ZoneLists}
use Rattle.tt_exec_points.specs.Instruction as points
use Rattle.tt_exec_points.specs.Laws.{PointsAreTotal}
use Rattle.tt_exec_points.specs.declared.instruction.OnPoints.{OnPoints}
use Rattle.tt_exec_stack.specs.Arithmetic.{computed}
use Rattle.tt_exec_stack.specs.Logic.{is_true, evaluated}
use Rattle.tt_exec_stack.specs.Managing.{managed}
use Rattle.tt_exec_stack.specs.Laws.{ManagingIsTotal, ArithmeticIsTotal, LogicIsTotal, PaddedIsEnough}
use Rattle.tt_exec_stack.specs.Pushing.{pushed_bytes, pushed_words}
use Rattle.tt_exec_stack.specs.Stack.{is_value, pushed, padded}
use Rattle.tt_exec_state.specs.Instances.{has_instance}
use Rattle.tt_exec_state.specs.Laws.{SettingIsTotal, ValuesAreTotal, VectorsAreTotal, QueriesAreTotal}
use Rattle.tt_exec_state.specs.Queries.{answered}
use Rattle.tt_exec_state.specs.Settings.{state_set}
use Rattle.tt_exec_state.specs.StoredValues.{values_accessed}
use Rattle.tt_exec_state.specs.Variations.{all_pushed, variation_answered}
use Rattle.tt_exec_state.specs.Vectors.{vectors_accessed}
use Rattle.tt_exec_state.specs.declared.instruction.Variation.{Variation}
use Rattle.tt_exec_state.specs.declared.instruction.Variation.TheVariants as variation
use Rattle.tt_exec_step.specs.Flags.{instctrl}
use Rattle.tt_exec_step.specs.Flow.{goes_to, skipped, jumped, if_from, jmpr, jrot, jrof}
use Rattle.tt_exec_step.specs.Functions.{may_define, defined, fdef_from, idef_from, endf, called, call, instruction_called, called_often, loopcall}
use Rattle.tt_exec_step.specs.Loosened.{tolerant_in, LacksNothing, TolerantRunsLackNothing}
use Rattle.tt_exec_step.specs.MachineState.{Body, CallFrame, MachineState}
use Rattle.tt_exec_step.specs.Numbered.{is_number, is_opcode, function_at}
use Rattle.tt_exec_step.specs.OnPoints.{left_by, on_points}
use Rattle.tt_exec_step.specs.Opcodes.{operation_of}
use Rattle.tt_exec_step.specs.Operation.{Operation, takes}
use Rattle.tt_exec_step.specs.Operation as op
use Rattle.tt_exec_step.specs.Runs.{run_within, run_outcome}
use Rattle.tt_exec_step.specs.Step.{on_stack, on_graphics, on_places, pushes_words, operate, done, step, is_ended}
use Rattle.tt_exec_step.specs.declared.program.Definition.{Definition}
use Rattle.tt_exec_step.specs.declared.program.Definition.TheVariants as definition
use Rattle.tt_exec_laws.proofs.Loosened.{flagged_in, with_definition_in}

-- the laws of the families
pub record Families : Type 0 where
  pub enough : PaddedIsEnough
  pub managing : ManagingIsTotal
  pub arithmetic : ArithmeticIsTotal
  pub logic : LogicIsTotal
  pub settings : SettingIsTotal
  pub values : ValuesAreTotal
  pub vectors : VectorsAreTotal
  pub queries : QueriesAreTotal
  pub points : PointsAreTotal

-- one of two results
either : (b : Bool) (x y : Result MachineState Fault) → LacksNothing x → LacksNothing y
    → LacksNothing (if b then x else y)
either true x y one other = one
either false x y one other = other

-- the families
stack_lacks : (at : ℕ) (m : MachineState) (r : Result (List ℤ) Why) → IsTotal r
    → LacksNothing (on_stack at (tolerant_in m) r)
stack_lacks at m (Ok s) total = refl
stack_lacks at m (Err e) total = total

graphics_lack : (at : ℕ) (m : MachineState) (r : Result (List ℤ × GraphicsState) Why) → IsTotal r
    → LacksNothing (on_graphics at (tolerant_in m) r)
graphics_lack at m (Ok t) total = refl
graphics_lack at m (Err e) total = total

places_lack : (at : ℕ) (m : MachineState) (r : Result (List ℤ × List ℤ × List ℤ) Why) → IsTotal r
    → LacksNothing (on_places at (tolerant_in m) r)
places_lack at m (Ok t) total = refl
places_lack at m (Err e) total = total

left_lacks : (at : ℕ) (m : MachineState) (r : Result (List ℤ × ZoneLists × GraphicsState × List ℤ) Why) → IsTotal r
    → LacksNothing (left_by at (tolerant_in m) r)
left_lacks at m (Ok t) total = refl
left_lacks at m (Err e) total = total

points_lack : PointsAreTotal → (o : OnPoints) (at : ℕ) (m : MachineState) → points.takes o ≤ length m.stack
    → LacksNothing (on_points o at (tolerant_in m))
unfolding on_points
points_lack k o at m there =
    left_lacks at m (points.on_points tolerance.Tolerant o m.ppem m.stack m.zones m.graphics m.cvt)
    (k o m.ppem m.stack m.zones m.graphics m.cvt there)

-- pushing
one_of : (b : Bool) (x y : Result (List ℤ) Why) → IsTotal x → IsTotal y → IsTotal (if b then x else y)
one_of true x y one other = one
one_of false x y one other = other

pushed_total : (v : ℤ) (s : List ℤ) → IsTotal (pushed v s)
unfolding pushed
pushed_total v s =
    one_of (is_value v) _ _
    (one_of (nat_lt (length s) stack_limit) (Ok (v ∷ s)) (Err why.StackFull) (record {}) refl) refl

bytes_total : (bytes : List ℕ) (s : List ℤ) → IsTotal (pushed_bytes bytes s)
bytes_total [] s = record {}
bytes_total (byte ∷ bytes) s =
    total_after (pushed (pos byte) s) (pushed_bytes bytes) (pushed_total (pos byte) s) (bytes_total bytes)

words_total : (bytes : List ℕ) (s : List ℤ) → IsTotal (pushed_words bytes s)
words_total (high ∷ low ∷ bytes) s =
    total_after (pushed (signed16 (high * 256 + low)) s) (pushed_words bytes)
    (pushed_total (signed16 (high * 256 + low)) s) (words_total bytes)
words_total (high ∷ []) s = record {}
words_total [] s = record {}

all_total : (vs s : List ℤ) → IsTotal (all_pushed vs s)
all_total [] s = record {}
all_total (v ∷ vs) s = total_after (pushed v s) (all_pushed vs) (pushed_total v s) (all_total vs)

variation_total : (o : Variation) (instance s : List ℤ) → IsTotal (variation_answered o instance s)
variation_total variation.Getvariation instance s = all_total instance s
variation_total variation.Getdata instance s = pushed_total (pos 17) s

-- reading a program
abbrev IsRead : {A : Type 0} → Result A Halt → Type 0
IsRead (Ok a) = ⊤
IsRead (Err halt) = is_never halt.why ≡ false

read_either : {A : Type 0} (b : Bool) (x y : Result A Halt) → IsRead x → IsRead y → IsRead (if b then x else y)
read_either true x y one other = one
read_either false x y one other = other

read_after : {A B : Type 0} (r : Result A Halt) (f : A → Result B Halt)
    → IsRead r → ((a : A) → IsRead (f a)) → IsRead (r >>= f)
read_after (Ok a) f read next = next a
read_after (Err halt) f read next = read

taken_read : (b : Bool) (i : Instr) (at : ℕ) → IsRead {A = Instr} (if b then Ok i else Err (short_at at))
taken_read true i at = record {}
taken_read false i at = refl

instruction_read : (code : List ℕ) (at : ℕ) → IsRead (instruction_at code at)
instruction_read code at = taken_read _ _ at

skip_read : (n : ℕ) (to : _) (code : List ℕ) (lost : Halt) (place depth : ℕ) → is_never lost.why ≡ false
    → IsRead (skip_from n to code lost place depth)
skip_read zero to code lost place depth known = known
skip_read (suc n) to code lost place depth known =
    read_either (nat_le (length code) place) _ _ known
    (read_after (instruction_at code place) _ (instruction_read code place)
    (λ i. read_either (ends to depth i.op) (Ok (place + i.len)) _ (record {})
    (skip_read n to code lost (place + i.len) (depth_after depth i.op) known)))

if_end_read : (code : List ℕ) (at : ℕ) → IsRead (if_end code at)
if_end_read code at =
    skip_read (length code) _ code (record { at = at; why = why.IfOpen }) (at + 1) 0 refl

else_end_read : (code : List ℕ) (at : ℕ) → IsRead (else_end code at)
else_end_read code at =
    skip_read (length code) _ code (record { at = at; why = why.IfOpen }) (at + 1) 0 refl

definition_end_read : (code : List ℕ) (at : ℕ) → IsRead (definition_end code at)
definition_end_read code at =
    skip_read (length code) _ code (record { at = at; why = why.NoEndf }) (at + 1) 0 refl

-- flags
instctrl_lacks : (s : List ℤ) (at : ℕ) (m : MachineState) → 2 ≤ length s → LacksNothing (instctrl s at (tolerant_in m))
instctrl_lacks (selector ∷ value ∷ s) at m there =
    rw (flagged_in tolerance.Tolerant m.kind selector (is_true value) (record m { stack = s })) refl
instctrl_lacks (selector ∷ []) at m there = absurd (omega arith)
instctrl_lacks [] at m there = absurd (omega arith)

-- the flow of control
skipped_lacks : (m : MachineState) (r : Result ℕ Halt) → IsRead r → LacksNothing (skipped (tolerant_in m) r)
skipped_lacks m (Ok place) read = refl
skipped_lacks m (Err halt) read = read

jumped_lacks : (at : ℕ) (offset : ℤ) (m : MachineState) → LacksNothing (jumped at offset (tolerant_in m))
jumped_lacks at offset m =
    let target = pos at +ℤ offset in
    either (int_le (pos 0) target && int_le target (pos (length m.frame.code.bytes))) _ _ refl refl

if_lacks : (s : List ℤ) (at : ℕ) (m : MachineState) → 1 ≤ length s → LacksNothing (if_from s at (tolerant_in m))
if_lacks (condition ∷ s) at m there =
    either (is_true condition) _ _ refl
    (skipped_lacks (record m { stack = s }) (if_end m.frame.code.bytes at) (if_end_read m.frame.code.bytes at))
if_lacks [] at m there = absurd (omega arith)

jmpr_lacks : (s : List ℤ) (at : ℕ) (m : MachineState) → 1 ≤ length s → LacksNothing (jmpr s at (tolerant_in m))
jmpr_lacks (offset ∷ s) at m there = jumped_lacks at offset (record m { stack = s })
jmpr_lacks [] at m there = absurd (omega arith)

jrot_lacks : (s : List ℤ) (at : ℕ) (m : MachineState) → 2 ≤ length s → LacksNothing (jrot s at (tolerant_in m))
jrot_lacks (condition ∷ offset ∷ s) at m there =
    either (is_true condition) _ _ (jumped_lacks at offset (record m { stack = s })) refl
jrot_lacks (condition ∷ []) at m there = absurd (omega arith)
jrot_lacks [] at m there = absurd (omega arith)

jrof_lacks : (s : List ℤ) (at : ℕ) (m : MachineState) → 2 ≤ length s → LacksNothing (jrof s at (tolerant_in m))
jrof_lacks (condition ∷ offset ∷ s) at m there =
    either (is_true condition) _ _ refl (jumped_lacks at offset (record m { stack = s }))
jrof_lacks (condition ∷ []) at m there = absurd (omega arith)
jrof_lacks [] at m there = absurd (omega arith)

-- definitions and calls
defined_lacks : (at : ℕ) (d : Definition) (m : MachineState) (r : Result ℕ Halt) → IsRead r
    → LacksNothing (defined at d (tolerant_in m) r)
defined_lacks at d m (Ok place) read =
    let body : Body = record { code = m.frame.code; start = at + 1 } in
    rw (with_definition_in tolerance.Tolerant d body m) refl
defined_lacks at d m (Err halt) read = read

fdef_from_lacks : (s : List ℤ) (at : ℕ) (m : MachineState) → 1 ≤ length s
    → LacksNothing (fdef_from s at (tolerant_in m))
fdef_from_lacks (n ∷ s) at m there =
    either (is_number n) _ _
    (defined_lacks at (definition.Function (unsigned_abs n)) (record m { stack = s })
    (definition_end m.frame.code.bytes at) (definition_end_read m.frame.code.bytes at)) refl
fdef_from_lacks [] at m there = absurd (omega arith)

idef_from_lacks : (s : List ℤ) (at : ℕ) (m : MachineState) → 1 ≤ length s
    → LacksNothing (idef_from s at (tolerant_in m))
idef_from_lacks (n ∷ s) at m there =
    either (is_opcode n) _ _
    (defined_lacks at (definition.Instruction (unsigned_abs n)) (record m { stack = s })
    (definition_end m.frame.code.bytes at) (definition_end_read m.frame.code.bytes at)) refl
idef_from_lacks [] at m there = absurd (omega arith)

endf_lacks : (callers : List CallFrame) (at : ℕ) (m : MachineState) → LacksNothing (endf callers at (tolerant_in m))
endf_lacks [] at m = refl
endf_lacks (caller ∷ callers) at m = either (m.frame.left == 0) _ _ refl refl

called_lacks : (at again : ℕ) (m : MachineState) (f : Option Body) → LacksNothing (called at again (tolerant_in m) f)
called_lacks at again m (Some f) = either (nat_lt (length m.callers) call_limit) _ _ refl refl
called_lacks at again m None = refl

call_lacks : (s : List ℤ) (at : ℕ) (m : MachineState) → 1 ≤ length s → LacksNothing (call s at (tolerant_in m))
call_lacks (n ∷ s) at m there = called_lacks at 0 (record m { stack = s }) (function_at n m.functions)
call_lacks [] at m there = absurd (omega arith)

instruction_called_lacks : (at : ℕ) (m : MachineState) (f : Option Body)
    → LacksNothing (instruction_called at (tolerant_in m) f)
instruction_called_lacks at m (Some f) = called_lacks at 0 m (Some f)
instruction_called_lacks at m None = refl

called_often_lacks : (at : ℕ) (count : ℤ) (m : MachineState) (f : Option Body)
    → LacksNothing (called_often at count (tolerant_in m) f)
called_often_lacks at count m (Some f) =
    either (int_lt count (pos 1)) _ _ refl (called_lacks at _ m (Some f))
called_often_lacks at count m None = refl

loopcall_lacks : (s : List ℤ) (at : ℕ) (m : MachineState) → 2 ≤ length s → LacksNothing (loopcall s at (tolerant_in m))
loopcall_lacks (n ∷ count ∷ s) at m there =
    called_often_lacks at count (record m { stack = s }) (function_at n m.functions)
loopcall_lacks (n ∷ []) at m there = absurd (omega arith)
loopcall_lacks [] at m there = absurd (omega arith)

-- a step
operate_lacks : Families → (o : Operation) (at : ℕ) (m : MachineState) → takes o ≤ length m.stack
    → LacksNothing (operate o at (tolerant_in m))
operate_lacks k (op.access_vectors o) at m there =
    graphics_lack at m (vectors_accessed o m.stack m.graphics) (k.vectors o m.stack m.graphics there)
operate_lacks k (op.set_state o) at m there =
    graphics_lack at m (state_set o m.ppem m.scale tolerance.Tolerant m.stack m.graphics)
    (k.settings o m.ppem m.scale m.stack m.graphics there)
operate_lacks k (op.manage o) at m there =
    stack_lacks at m (managed o tolerance.Tolerant m.stack) (k.managing o m.stack there)
operate_lacks k (op.evaluate o) at m there =
    stack_lacks at m (evaluated o m.graphics.round m.stack) (k.logic o m.graphics.round m.stack there)
operate_lacks k (op.compute o) at m there =
    stack_lacks at m (computed o m.graphics.round m.stack) (k.arithmetic o m.graphics.round m.stack there)
operate_lacks k (op.access_values o) at m there =
    places_lack at m (values_accessed o m.scale tolerance.Tolerant m.stack m.storage m.cvt)
    (k.values o m.scale m.stack m.storage m.cvt there)
operate_lacks k (op.answer o) at m there =
    stack_lacks at m (answered o m.ppem m.instance m.stack) (k.queries o m.ppem m.instance m.stack there)
operate_lacks k op.instctrl at m there = instctrl_lacks m.stack at m there
operate_lacks k op.if_from at m there = if_lacks m.stack at m there
operate_lacks k op.else_from at m there =
    skipped_lacks m (else_end m.frame.code.bytes at) (else_end_read m.frame.code.bytes at)
operate_lacks k op.eif at m there = refl
operate_lacks k op.jmpr at m there = jmpr_lacks m.stack at m there
operate_lacks k op.jrot at m there = jrot_lacks m.stack at m there
operate_lacks k op.jrof at m there = jrof_lacks m.stack at m there
operate_lacks k op.fdef at m there =
    either (may_define m.kind m.callers) _ _ (fdef_from_lacks m.stack at m there) refl
operate_lacks k op.endf at m there = endf_lacks m.callers at m
operate_lacks k op.call at m there = call_lacks m.stack at m there
operate_lacks k op.loopcall at m there = loopcall_lacks m.stack at m there
operate_lacks k (op.on_points o) at m there = points_lack k.points o at m there
operate_lacks k op.idef at m there =
    either (may_define m.kind m.callers) _ _ (idef_from_lacks m.stack at m there) refl
operate_lacks k (op.beyond o) at m there = either m.graphics.whole _ _ (operate_lacks k o at m there) refl
operate_lacks k (op.read_instance o opcode) at m there =
    either (has_instance m.instance) _ _
    (stack_lacks at m (variation_answered o m.instance m.stack) (variation_total o m.instance m.stack))
    (instruction_called_lacks at m (function_at (pos opcode) m.instructions))
operate_lacks k (op.unnamed opcode) at m there =
    instruction_called_lacks at m (function_at (pos opcode) m.instructions)

done_lacks : Families → (m : MachineState) (r : Result Instr Halt) → IsRead r → LacksNothing (done (tolerant_in m) r)
done_lacks k m (Ok i) read =
    let next = goes_to (m.frame.place + i.len) m in
    let o = operation_of i.op in
    either (takes_data i.op) _ _
    (stack_lacks m.frame.place next _
    (one_of (pushes_words i.op) _ _ (words_total i.args m.stack) (bytes_total i.args m.stack)))
    (operate_lacks k o m.frame.place (record next { stack = padded (takes o) m.stack }) (k.enough (takes o) m.stack))
done_lacks k m (Err halt) read = read

step_lacks : Families → (m : MachineState) → LacksNothing (step (tolerant_in m))
step_lacks k m =
    either (nat_le (length m.frame.code.bytes) m.frame.place) _ _ refl
    (done_lacks k m (instruction_at m.frame.code.bytes m.frame.place)
    (instruction_read m.frame.code.bytes m.frame.place))

-- a run
next : (r : Result MachineState Fault) (f : MachineState → Result MachineState Fault) → LacksNothing r
    → ((m : MachineState) → LacksNothing (f (tolerant_in m))) → LacksNothing (r >>= f)
next (Ok t) f tolerant further = subst (λ u. LacksNothing (f u)) (sym tolerant) (further t)
next (Err fault) f lacks further = lacks

within_lacks : Families → (n : ℕ) (s : MachineState) → LacksNothing (run_within n (tolerant_in s))
unfolding run_within
within_lacks k zero s = either (is_ended s) _ _ refl refl
within_lacks k (suc n) s =
    either (is_ended s) _ _ refl (next (step (tolerant_in s)) (run_within n) (step_lacks k s) (within_lacks k n))

pub lack_nothing : Families → TolerantRunsLackNothing
unfolding run_outcome
lack_nothing k s = within_lacks k step_limit s
