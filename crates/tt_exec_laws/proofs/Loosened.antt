-- A run on a strict machine is the same run on a tolerant one, except for the refusals that tolerance lifts.
use Rattle.std.proofs.Common.{◌≡◌, ℕ, zero, suc, ◌+◌, ◌==◌, ◌<◌, ◌≤◌, nat_le, nat_lt, ℤ, pos, ◌+ℤ◌, int_le, int_lt, unsigned_abs, Bool, true, false, ◌&&◌, if◌then◌else◌, List, [], ◌∷◌, length, Option, Some, None, Result, Ok, Err, subst, sym, refl, arith}
use Rattle.std.proofs.lemmas.Bool.Decides.{nat_tests}
use Rattle.std.specs.Ordering.{int_eq}
use Rattle.tt_core.specs.Faults.{Fault}
use Rattle.tt_core.specs.Limits.{call_limit, step_limit}
use Rattle.tt_core.specs.Outcomes.{◌>>=◌}
use Rattle.tt_core.specs.declared.fault.Why.{Why}
use Rattle.tt_core.specs.declared.fault.Why.TheVariants as why
use Rattle.tt_code.specs.declared.decoding.Halt.{Halt}
use Rattle.tt_code.specs.Decoding.{Instr, instruction_at, takes_data}
use Rattle.tt_code.specs.Skips.{if_end, else_end, definition_end}
use Rattle.tt_state.specs.declared.graphics_state.GraphicsState.{GraphicsState}
use Rattle.tt_state.specs.declared.tolerance.Tolerance.{Tolerance}
use Rattle.tt_state.specs.declared.tolerance.Tolerance.TheVariants as tolerance
use Rattle.tt_state.specs.Loosening.{Loosens, same}
use Rattle.tt_points_zones.specs.Zones.{ZoneLists}
use Rattle.tt_exec_points.specs.Instruction as points
use Rattle.tt_exec_points.specs.Laws.{PointsAreLoosened, PointsAreShort}
use Rattle.tt_exec_points.specs.declared.instruction.OnPoints.{OnPoints}
use Rattle.tt_exec_stack.specs.Arithmetic as arithmetic
use Rattle.tt_exec_stack.specs.Logic as logic
use Rattle.tt_exec_stack.specs.Logic.{is_true}
use Rattle.tt_exec_stack.specs.Managing as managing
use Rattle.tt_exec_stack.specs.Laws.{ManagingIsLoosened, ManagingIsShort, ArithmeticIsShort, LogicIsShort, EnoughStays}
use Rattle.tt_exec_stack.specs.declared.instruction.Arithmetic.{Arithmetic}
use Rattle.tt_exec_stack.specs.declared.instruction.Logic.{Logic}
use Rattle.tt_exec_stack.specs.declared.instruction.Managing.{Managing}
use Rattle.tt_exec_state.specs.declared.instruction.Query.{Query}
use Rattle.tt_exec_state.specs.declared.instruction.GraphicsSetting.{GraphicsSetting}
use Rattle.tt_exec_state.specs.declared.instruction.StoredValues.{StoredValues}
use Rattle.tt_exec_state.specs.declared.instruction.Vectors.{Vectors}
use Rattle.tt_exec_stack.specs.Pushing.{pushed_bytes, pushed_words}
use Rattle.tt_exec_stack.specs.Stack.{padded}
use Rattle.tt_exec_state.specs.Instances.{has_instance}
use Rattle.tt_exec_state.specs.Laws.{SettingIsLoosened, ValuesAreLoosened, SettingIsShort, ValuesAreShort, VectorsAreShort, QueriesAreShort}
use Rattle.tt_exec_state.specs.Queries as queries
use Rattle.tt_exec_state.specs.Settings as settings
use Rattle.tt_exec_state.specs.StoredValues as values
use Rattle.tt_exec_state.specs.Variations.{variation_answered}
use Rattle.tt_exec_state.specs.Vectors as vectors
use Rattle.tt_exec_step.specs.Flags.{flagged, instctrl}
use Rattle.tt_exec_step.specs.Flow.{goes_to, skipped, jumped, if_from, jmpr, jrot, jrof}
use Rattle.tt_exec_step.specs.Functions.{may_define, has_no_name, with_definition, defined, fdef_from, idef_from, endf, called, call, instruction_called, called_often, loopcall}
use Rattle.tt_exec_step.specs.Loosened.{strict_in, tolerant_in, RunLoosens, RunsLoosen}
use Rattle.tt_exec_step.specs.MachineState.{Body, CallFrame, MachineState, fault_in}
use Rattle.tt_exec_step.specs.Numbered.{is_number, is_opcode, function_at}
use Rattle.tt_exec_step.specs.OnPoints.{left_by, on_points}
use Rattle.tt_exec_step.specs.Opcodes.{operation_of}
use Rattle.tt_exec_step.specs.Operation.{Operation, takes}
use Rattle.tt_exec_step.specs.Operation as op
use Rattle.tt_exec_step.specs.Runs.{run_within, run_outcome}
use Rattle.tt_exec_step.specs.Step.{on_stack, on_graphics, on_places, pushes_words, operate, done, step, is_ended}
use Rattle.tt_exec_step.specs.declared.machine_state.Kind.{Kind}
use Rattle.tt_exec_step.specs.declared.machine_state.Kind.TheVariants as kind
use Rattle.tt_exec_step.specs.declared.program.Definition.{Definition}
use Rattle.tt_exec_step.specs.declared.program.Definition.TheVariants as definition

-- the laws of the families
pub record Families : Type 0 where
  pub stays : EnoughStays
  pub managing : ManagingIsLoosened
  pub managing_short : ManagingIsShort
  pub arithmetic_short : ArithmeticIsShort
  pub logic_short : LogicIsShort
  pub settings : SettingIsLoosened
  pub settings_short : SettingIsShort
  pub values : ValuesAreLoosened
  pub values_short : ValuesAreShort
  pub vectors_short : VectorsAreShort
  pub queries_short : QueriesAreShort
  pub points : PointsAreLoosened
  pub points_short : PointsAreShort

abbrev pub with_tolerance : Tolerance → MachineState → MachineState
with_tolerance t m = record m { tolerance = t }

-- a tolerant machine before an instruction, with its stack filled
abbrev filled_with : List ℤ → MachineState → MachineState
filled_with s m = record m { stack = s; tolerance = tolerance.Tolerant }

abbrev OperationLoosens : Operation → ℕ → MachineState → Type 0
OperationLoosens o at m =
    RunLoosens (operate o at (strict_in m)) (operate o at (filled_with (padded (takes o) m.stack) m))

-- one of two results
either : (b : Bool) (x y x' y' : Result MachineState Fault) → RunLoosens x x' → RunLoosens y y'
    → RunLoosens (if b then x else y) (if b then x' else y')
either true x y x' y' one other = one
either false x y x' y' one other = other

-- the same state
left : (m : MachineState) → RunLoosens (Ok (strict_in m)) (Ok (tolerant_in m))
left m = (refl, refl)

-- a refusal at a place
refused : (m : MachineState) (at : ℕ) (e : Why)
    → RunLoosens (Err (fault_in m.frame at e)) (Err (fault_in m.frame at e))
refused m at e = λ other. refl

-- the refusal of too few values, beside anything
short : (m : MachineState) (at : ℕ) (loose : Result MachineState Fault)
    → RunLoosens (Err (fault_in m.frame at why.StackShort)) loose
short m at loose = λ other. absurd cc

-- an instruction with the stack filled: its result with enough values, or the refusal of too few
filling-by : EnoughStays → (n : ℕ) (s : List ℤ) (b : Bool) (m : MachineState) (at : ℕ) (r : Result MachineState Fault)
    (f : List ℤ → Result MachineState Fault) → nat_lt (length s) n ≡ b
    → (length s < n → r ≡ Err (fault_in m.frame at why.StackShort)) → RunLoosens r (f s) → RunLoosens r (f (padded n s))
filling-by stays n s true m at r f is few enough =
    let less : length s < n = grind (arith, nat_tests) in
    rw (few less) (short m at (f (padded n s)))
filling-by stays n s false m at r f is few enough =
    let there : n ≤ length s = grind (arith, nat_tests) in
    rw (stays n s there) enough

filling : EnoughStays → (n : ℕ) (s : List ℤ) (m : MachineState) (at : ℕ) (r : Result MachineState Fault)
    (f : List ℤ → Result MachineState Fault)
    → (length s < n → r ≡ Err (fault_in m.frame at why.StackShort)) → RunLoosens r (f s) → RunLoosens r (f (padded n s))
filling stays n s m at r f few enough = filling-by stays n s (nat_lt (length s) n) m at r f refl few enough

-- the families
stack_loosens : (at : ℕ) (m : MachineState) (r loose : Result (List ℤ) Why) → Loosens r loose
    → RunLoosens (on_stack at (strict_in m) r) (on_stack at (tolerant_in m) loose)
stack_loosens at m (Ok s) loose stays = rw stays (left (record m { stack = s }))
stack_loosens at m (Err e) loose stays = λ other. rw (stays other) refl

graphics_loosen : (at : ℕ) (m : MachineState) (r loose : Result (List ℤ × GraphicsState) Why) → Loosens r loose
    → RunLoosens (on_graphics at (strict_in m) r) (on_graphics at (tolerant_in m) loose)
graphics_loosen at m (Ok t) loose stays = rw stays (left (record m { stack = t.0; graphics = t.1 }))
graphics_loosen at m (Err e) loose stays = λ other. rw (stays other) refl

places_loosen : (at : ℕ) (m : MachineState) (r loose : Result (List ℤ × List ℤ × List ℤ) Why) → Loosens r loose
    → RunLoosens (on_places at (strict_in m) r) (on_places at (tolerant_in m) loose)
places_loosen at m (Ok t) loose stays = rw stays (left (record m { stack = t.0; storage = t.1; cvt = t.2 }))
places_loosen at m (Err e) loose stays = λ other. rw (stays other) refl

left_loosens : (at : ℕ) (m : MachineState) (r loose : Result (List ℤ × ZoneLists × GraphicsState × List ℤ) Why)
    → Loosens r loose → RunLoosens (left_by at (strict_in m) r) (left_by at (tolerant_in m) loose)
left_loosens at m (Ok t) loose stays =
    rw stays (left (record m { stack = t.0; zones = t.1; graphics = t.2; cvt = t.3 }))
left_loosens at m (Err e) loose stays = λ other. rw (stays other) refl

-- flags
in_tolerance : (t : Tolerance) (b : Bool) (x y x' y' : MachineState) → x' ≡ with_tolerance t x → y' ≡ with_tolerance t y
    → (if b then x' else y') ≡ with_tolerance t (if b then x else y)
in_tolerance t true x y x' y' one other = one
in_tolerance t false x y x' y' one other = other

pub flagged_in : (t : Tolerance) (k : Kind) (selector : ℤ) (on : Bool) (m : MachineState)
    → flagged k selector on (with_tolerance t m) ≡ with_tolerance t (flagged k selector on m)
flagged_in t kind.Font selector on m = refl
flagged_in t kind.Glyph selector on m = refl
flagged_in t kind.ControlValue selector on m =
    in_tolerance t (int_eq selector (pos 1)) _ _ _ _ refl
    (in_tolerance t (int_eq selector (pos 2)) _ _ _ _ refl refl)

instctrl_loosens : EnoughStays → (s : List ℤ) (at : ℕ) (m : MachineState)
    → RunLoosens (instctrl s at (strict_in m)) (instctrl (padded 2 s) at (filled_with (padded 2 s) m))
instctrl_loosens stays (selector ∷ value ∷ s) at m =
    let strict = flagged_in tolerance.Strict m.kind selector (is_true value) (record m { stack = s }) in
    let tolerant = flagged_in tolerance.Tolerant m.kind selector (is_true value) (record m { stack = s }) in
    rw (stays 2 (selector ∷ value ∷ s) (omega arith))
    (rw (strict, tolerant) (left (flagged m.kind selector (is_true value) (record m { stack = s }))))
instctrl_loosens stays (selector ∷ []) at m = short m at _
instctrl_loosens stays [] at m = short m at _

-- the flow of control
skipped_loosens : (m : MachineState) (r : Result ℕ Halt)
    → RunLoosens (skipped (strict_in m) r) (skipped (tolerant_in m) r)
skipped_loosens m (Ok place) = left (goes_to place m)
skipped_loosens m (Err halt) = λ other. refl

jumped_loosens : (at : ℕ) (offset : ℤ) (m : MachineState)
    → RunLoosens (jumped at offset (strict_in m)) (jumped at offset (tolerant_in m))
jumped_loosens at offset m =
    let target = pos at +ℤ offset in
    either (int_le (pos 0) target && int_le target (pos (length m.frame.code.bytes))) _ _ _ _
    (left (goes_to (unsigned_abs target) m)) (refused m at why.JumpRange)

if_loosens : EnoughStays → (s : List ℤ) (at : ℕ) (m : MachineState)
    → RunLoosens (if_from s at (strict_in m)) (if_from (padded 1 s) at (filled_with (padded 1 s) m))
if_loosens stays (condition ∷ s) at m =
    rw (stays 1 (condition ∷ s) (omega arith))
    (either (is_true condition) _ _ _ _ (left (record m { stack = s }))
    (skipped_loosens (record m { stack = s }) (if_end m.frame.code.bytes at)))
if_loosens stays [] at m = short m at _

jmpr_loosens : EnoughStays → (s : List ℤ) (at : ℕ) (m : MachineState)
    → RunLoosens (jmpr s at (strict_in m)) (jmpr (padded 1 s) at (filled_with (padded 1 s) m))
jmpr_loosens stays (offset ∷ s) at m =
    rw (stays 1 (offset ∷ s) (omega arith)) (jumped_loosens at offset (record m { stack = s }))
jmpr_loosens stays [] at m = short m at _

jrot_loosens : EnoughStays → (s : List ℤ) (at : ℕ) (m : MachineState)
    → RunLoosens (jrot s at (strict_in m)) (jrot (padded 2 s) at (filled_with (padded 2 s) m))
jrot_loosens stays (condition ∷ offset ∷ s) at m =
    rw (stays 2 (condition ∷ offset ∷ s) (omega arith))
    (either (is_true condition) _ _ _ _ (jumped_loosens at offset (record m { stack = s }))
    (left (record m { stack = s })))
jrot_loosens stays (condition ∷ []) at m = short m at _
jrot_loosens stays [] at m = short m at _

jrof_loosens : EnoughStays → (s : List ℤ) (at : ℕ) (m : MachineState)
    → RunLoosens (jrof s at (strict_in m)) (jrof (padded 2 s) at (filled_with (padded 2 s) m))
jrof_loosens stays (condition ∷ offset ∷ s) at m =
    rw (stays 2 (condition ∷ offset ∷ s) (omega arith))
    (either (is_true condition) _ _ _ _ (left (record m { stack = s }))
    (jumped_loosens at offset (record m { stack = s })))
jrof_loosens stays (condition ∷ []) at m = short m at _
jrof_loosens stays [] at m = short m at _

-- definitions and calls
pub with_definition_in : (t : Tolerance) (d : Definition) (f : Body) (m : MachineState)
    → with_definition d f (with_tolerance t m) ≡ with_tolerance t (with_definition d f m)
with_definition_in t (definition.Function n) f m = refl
with_definition_in t (definition.Instruction opcode) f m = in_tolerance t
    (has_no_name m.instance opcode) _ _ _ _ refl refl

defined_loosens : (at : ℕ) (d : Definition) (m : MachineState) (r : Result ℕ Halt)
    → RunLoosens (defined at d (strict_in m) r) (defined at d (tolerant_in m) r)
defined_loosens at d m (Ok place) =
    let body : Body = record { code = m.frame.code; start = at + 1 } in
    rw (with_definition_in tolerance.Strict d body m, with_definition_in tolerance.Tolerant d body m)
    (left (goes_to place (with_definition d body m)))
defined_loosens at d m (Err halt) = λ other. refl

fdef_from_loosens : EnoughStays → (s : List ℤ) (at : ℕ) (m : MachineState)
    → RunLoosens (fdef_from s at (strict_in m)) (fdef_from (padded 1 s) at (filled_with (padded 1 s) m))
fdef_from_loosens stays (n ∷ s) at m =
    rw (stays 1 (n ∷ s) (omega arith))
    (either (is_number n) _ _ _ _
    (defined_loosens at (definition.Function (unsigned_abs n)) (record m { stack = s })
    (definition_end m.frame.code.bytes at))
    (refused m at why.BadArgument))
fdef_from_loosens stays [] at m = short m at _

idef_from_loosens : EnoughStays → (s : List ℤ) (at : ℕ) (m : MachineState)
    → RunLoosens (idef_from s at (strict_in m)) (idef_from (padded 1 s) at (filled_with (padded 1 s) m))
idef_from_loosens stays (n ∷ s) at m =
    rw (stays 1 (n ∷ s) (omega arith))
    (either (is_opcode n) _ _ _ _
    (defined_loosens at (definition.Instruction (unsigned_abs n)) (record m { stack = s })
    (definition_end m.frame.code.bytes at))
    (refused m at why.BadArgument))
idef_from_loosens stays [] at m = short m at _

endf_loosens : (callers : List CallFrame) (at : ℕ) (m : MachineState)
    → RunLoosens (endf callers at (strict_in m)) (endf callers at (tolerant_in m))
endf_loosens [] at m = λ other. refl
endf_loosens (caller ∷ callers) at m = either (m.frame.left == 0) _ _ _ _ (refl, refl) (refl, refl)

called_loosens : (at again : ℕ) (m : MachineState) (f : Option Body)
    → RunLoosens (called at again (strict_in m) f) (called at again (tolerant_in m) f)
called_loosens at again m (Some f) =
    either (nat_lt (length m.callers) call_limit) _ _ _ _ (refl, refl) (refused m at why.CallDepth)
called_loosens at again m None = λ other. refl

call_loosens : EnoughStays → (s : List ℤ) (at : ℕ) (m : MachineState)
    → RunLoosens (call s at (strict_in m)) (call (padded 1 s) at (filled_with (padded 1 s) m))
call_loosens stays (n ∷ s) at m =
    rw (stays 1 (n ∷ s) (omega arith)) (called_loosens at 0 (record m { stack = s }) (function_at n m.functions))
call_loosens stays [] at m = short m at _

instruction_called_loosens : (at : ℕ) (m : MachineState) (f : Option Body)
    → RunLoosens (instruction_called at (strict_in m) f) (instruction_called at (tolerant_in m) f)
instruction_called_loosens at m (Some f) = called_loosens at 0 m (Some f)
instruction_called_loosens at m None = λ other. refl

called_often_loosens : (at : ℕ) (count : ℤ) (m : MachineState) (f : Option Body)
    → RunLoosens (called_often at count (strict_in m) f) (called_often at count (tolerant_in m) f)
called_often_loosens at count m (Some f) =
    either (int_lt count (pos 1)) _ _ _ _ (left m) (called_loosens at _ m (Some f))
called_often_loosens at count m None = λ other. refl

loopcall_loosens : EnoughStays → (s : List ℤ) (at : ℕ) (m : MachineState)
    → RunLoosens (loopcall s at (strict_in m)) (loopcall (padded 2 s) at (filled_with (padded 2 s) m))
loopcall_loosens stays (n ∷ count ∷ s) at m =
    rw (stays 2 (n ∷ count ∷ s) (omega arith))
    (called_often_loosens at count (record m { stack = s }) (function_at n m.functions))
loopcall_loosens stays (n ∷ []) at m = short m at _
loopcall_loosens stays [] at m = short m at _

-- an instruction without values: nothing is filled
unfilled : EnoughStays → (m : MachineState) (r : Result MachineState Fault)
    (f : MachineState → Result MachineState Fault) → RunLoosens r (f (tolerant_in m))
    → RunLoosens r (f (filled_with (padded 0 m.stack) m))
unfilled stays m r f same_stack = rw (stays 0 m.stack (omega arith)) same_stack

-- the families with the stack filled
managing_loosens : Families → (o : Managing) (at : ℕ) (m : MachineState) → OperationLoosens (op.manage o) at m
managing_loosens k o at m =
    filling k.stays (managing.takes o) m.stack m at (operate (op.manage o) at (strict_in m))
    (λ s. operate (op.manage o) at (filled_with s m))
    (λ less. rw (k.managing_short o tolerance.Strict m.stack less) refl)
    (stack_loosens at m (managing.managed o tolerance.Strict m.stack) (managing.managed o tolerance.Tolerant m.stack)
    (k.managing o m.stack))

logic_loosens : Families → (o : Logic) (at : ℕ) (m : MachineState) → OperationLoosens (op.evaluate o) at m
logic_loosens k o at m =
    let given = logic.evaluated o m.graphics.round m.stack in
    filling k.stays (logic.takes o) m.stack m at (operate (op.evaluate o) at (strict_in m))
    (λ s. operate (op.evaluate o) at (filled_with s m))
    (λ less. rw (k.logic_short o m.graphics.round m.stack less) refl) (stack_loosens at m given given (same given))

arithmetic_loosens : Families → (o : Arithmetic) (at : ℕ) (m : MachineState) → OperationLoosens (op.compute o) at m
arithmetic_loosens k o at m =
    let given = arithmetic.computed o m.graphics.round m.stack in
    filling k.stays (arithmetic.takes o) m.stack m at (operate (op.compute o) at (strict_in m))
    (λ s. operate (op.compute o) at (filled_with s m))
    (λ less. rw (k.arithmetic_short o m.graphics.round m.stack less) refl) (stack_loosens at m given given (same given))

queries_loosen : Families → (o : Query) (at : ℕ) (m : MachineState) → OperationLoosens (op.answer o) at m
queries_loosen k o at m =
    let given = queries.answered o m.ppem m.instance m.stack in
    filling k.stays (queries.takes o) m.stack m at (operate (op.answer o) at (strict_in m))
    (λ s. operate (op.answer o) at (filled_with s m))
    (λ less. rw (k.queries_short o m.ppem m.instance m.stack less) refl) (stack_loosens at m given given (same given))

vectors_loosen : Families → (o : Vectors) (at : ℕ) (m : MachineState) → OperationLoosens (op.access_vectors o) at m
vectors_loosen k o at m =
    let given = vectors.vectors_accessed o m.stack m.graphics in
    filling k.stays (vectors.takes o) m.stack m at (operate (op.access_vectors o) at (strict_in m))
    (λ s. operate (op.access_vectors o) at (filled_with s m))
    (λ less. rw (k.vectors_short o m.stack m.graphics less) refl) (graphics_loosen at m given given (same given))

settings_loosen : Families → (o : GraphicsSetting) (at : ℕ) (m : MachineState) → OperationLoosens (op.set_state o) at m
settings_loosen k o at m =
    filling k.stays (settings.takes o) m.stack m at (operate (op.set_state o) at (strict_in m))
    (λ s. operate (op.set_state o) at (filled_with s m))
    (λ less. rw (k.settings_short o m.ppem m.scale tolerance.Strict m.stack m.graphics less) refl)
    (graphics_loosen at m (settings.state_set o m.ppem m.scale tolerance.Strict m.stack m.graphics)
    (settings.state_set o m.ppem m.scale tolerance.Tolerant m.stack m.graphics)
    (k.settings o m.ppem m.scale m.stack m.graphics))

values_loosen : Families → (o : StoredValues) (at : ℕ) (m : MachineState) → OperationLoosens (op.access_values o) at m
values_loosen k o at m =
    filling k.stays (values.takes o) m.stack m at (operate (op.access_values o) at (strict_in m))
    (λ s. operate (op.access_values o) at (filled_with s m))
    (λ less. rw (k.values_short o m.scale tolerance.Strict m.stack m.storage m.cvt less) refl)
    (places_loosen at m (values.values_accessed o m.scale tolerance.Strict m.stack m.storage m.cvt)
    (values.values_accessed o m.scale tolerance.Tolerant m.stack m.storage m.cvt)
    (k.values o m.scale m.stack m.storage m.cvt))

points_loosen : Families → (o : OnPoints) (at : ℕ) (m : MachineState) → OperationLoosens (op.on_points o) at m
unfolding on_points
points_loosen k o at m =
    filling k.stays (points.takes o) m.stack m at (operate (op.on_points o) at (strict_in m))
    (λ s. operate (op.on_points o) at (filled_with s m))
    (λ less. rw (k.points_short o m.ppem tolerance.Strict m.stack m.zones m.graphics m.cvt less) refl)
    (left_loosens at m (points.on_points tolerance.Strict o m.ppem m.stack m.zones m.graphics m.cvt)
    (points.on_points tolerance.Tolerant o m.ppem m.stack m.zones m.graphics m.cvt)
    (k.points o m.ppem m.stack m.zones m.graphics m.cvt))

-- a step
operate_loosens : Families → (o : Operation) (at : ℕ) (m : MachineState) → OperationLoosens o at m
operate_loosens k (op.access_vectors o) at m = vectors_loosen k o at m
operate_loosens k (op.set_state o) at m = settings_loosen k o at m
operate_loosens k (op.manage o) at m = managing_loosens k o at m
operate_loosens k (op.evaluate o) at m = logic_loosens k o at m
operate_loosens k (op.compute o) at m = arithmetic_loosens k o at m
operate_loosens k (op.access_values o) at m = values_loosen k o at m
operate_loosens k (op.answer o) at m = queries_loosen k o at m
operate_loosens k op.instctrl at m = instctrl_loosens k.stays m.stack at m
operate_loosens k op.if_from at m = if_loosens k.stays m.stack at m
operate_loosens k op.else_from at m =
    unfilled k.stays m (operate op.else_from at (strict_in m)) (operate op.else_from at)
    (skipped_loosens m (else_end m.frame.code.bytes at))
operate_loosens k op.eif at m = unfilled k.stays m (operate op.eif at (strict_in m)) (operate op.eif at) (left m)
operate_loosens k op.jmpr at m = jmpr_loosens k.stays m.stack at m
operate_loosens k op.jrot at m = jrot_loosens k.stays m.stack at m
operate_loosens k op.jrof at m = jrof_loosens k.stays m.stack at m
operate_loosens k op.fdef at m =
    either (may_define m.kind m.callers) _ _ _ _ (fdef_from_loosens k.stays m.stack at m)
    (refused m at why.DefinitionPlace)
operate_loosens k op.endf at m =
    unfilled k.stays m (operate op.endf at (strict_in m)) (operate op.endf at) (endf_loosens m.callers at m)
operate_loosens k op.call at m = call_loosens k.stays m.stack at m
operate_loosens k op.loopcall at m = loopcall_loosens k.stays m.stack at m
operate_loosens k (op.on_points o) at m = points_loosen k o at m
operate_loosens k op.idef at m =
    either (may_define m.kind m.callers) _ _ _ _ (idef_from_loosens k.stays m.stack at m)
    (refused m at why.DefinitionPlace)
operate_loosens k (op.beyond o) at m =
    either m.graphics.whole _ _ _ _ (operate_loosens k o at m) (refused m at why.OffProfile)
operate_loosens k (op.read_instance o opcode) at m =
    let given = variation_answered o m.instance m.stack in
    unfilled k.stays m (operate (op.read_instance o opcode) at (strict_in m)) (operate (op.read_instance o opcode) at)
    (either (has_instance m.instance) _ _ _ _ (stack_loosens at m given given (same given))
    (instruction_called_loosens at m (function_at (pos opcode) m.instructions)))
operate_loosens k (op.unnamed opcode) at m =
    unfilled k.stays m (operate (op.unnamed opcode) at (strict_in m)) (operate (op.unnamed opcode) at)
    (instruction_called_loosens at m (function_at (pos opcode) m.instructions))

done_loosens : Families → (m : MachineState) (r : Result Instr Halt)
    → RunLoosens (done (strict_in m) r) (done (tolerant_in m) r)
done_loosens k m (Ok i) =
    let next = goes_to (m.frame.place + i.len) m in
    let given = if pushes_words i.op then pushed_words i.args m.stack else pushed_bytes i.args m.stack in
    either (takes_data i.op) _ _ _ _ (stack_loosens m.frame.place next given given (same given))
    (operate_loosens k (operation_of i.op) m.frame.place next)
done_loosens k m (Err halt) = λ other. refl

step_loosens : Families → (m : MachineState) → RunLoosens (step (strict_in m)) (step (tolerant_in m))
step_loosens k m =
    either (nat_le (length m.frame.code.bytes) m.frame.place) _ _ _ _ (refused m m.frame.place why.CodeShort)
    (done_loosens k m (instruction_at m.frame.code.bytes m.frame.place))

-- a run
next : (r loose : Result MachineState Fault) (f : MachineState → Result MachineState Fault) → RunLoosens r loose
    → ((m : MachineState) → RunLoosens (f (strict_in m)) (f (tolerant_in m))) → RunLoosens (r >>= f) (loose >>= f)
next (Ok t) loose f (stays, strict) further =
    rw stays (subst (λ u. RunLoosens (f u) (f (tolerant_in t))) (sym strict) (further t))
next (Err fault) loose f stays further = λ other. rw (stays other) refl

within_loosens : Families → (n : ℕ) (s : MachineState)
    → RunLoosens (run_within n (strict_in s)) (run_within n (tolerant_in s))
unfolding run_within
within_loosens k zero s = either (is_ended s) _ _ _ _ (left s) (refused s s.frame.place why.StepLimit)
within_loosens k (suc n) s =
    either (is_ended s) _ _ _ _ (left s)
    (next (step (strict_in s)) (step (tolerant_in s)) (run_within n) (step_loosens k s) (within_loosens k n))

pub runs_loosen : Families → RunsLoosen
unfolding run_outcome
runs_loosen k s = within_loosens k step_limit s
