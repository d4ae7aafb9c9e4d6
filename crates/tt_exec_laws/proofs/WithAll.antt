-- A run without the whole instruction set is the same run with it, except for the refusals of the profile.
use Rattle.std.proofs.Common.{◌≡◌, ℕ, zero, suc, ◌+◌, ◌==◌, nat_le, nat_lt, ℤ, pos, ◌+ℤ◌, int_le, int_lt, unsigned_abs, Bool, true, false, ◌&&◌, if◌then◌else◌, List, [], ◌∷◌, length, Option, Some, None, Result, Ok, Err, refl}
use Rattle.std.specs.Ordering.{int_eq}
use Rattle.tt_core.specs.Faults.{Fault}
use Rattle.tt_core.specs.Limits.{call_limit, step_limit}
use Rattle.tt_core.specs.Outcomes.{◌>>=◌}
use Rattle.tt_core.specs.declared.fault.Why.{Why}
use Rattle.tt_core.specs.declared.fault.Why.TheVariants as why
use Rattle.tt_code.specs.declared.decoding.Halt.{Halt}
use Rattle.tt_code.specs.Decoding.{Instr, instruction_at, takes_data}
use Rattle.tt_code.specs.Skips.{if_end, else_end, definition_end}
use Rattle.tt_state.specs.declared.graphics_state.GraphicsState.{GraphicsState}
use Rattle.tt_points_zones.specs.WithAll.{with_all, Stays}
use Rattle.tt_points_zones.specs.Zones.{ZoneLists}
use Rattle.tt_exec_points.specs.Instruction as points
use Rattle.tt_exec_points.specs.WithAll.{PointsStay}
use Rattle.tt_exec_points.specs.WithAll as of_points
use Rattle.tt_exec_points.specs.declared.instruction.OnPoints.{OnPoints}
use Rattle.tt_exec_stack.specs.Arithmetic.{computed}
use Rattle.tt_exec_stack.specs.Logic.{is_true, evaluated}
use Rattle.tt_exec_stack.specs.Managing.{managed}
use Rattle.tt_exec_stack.specs.Pushing.{pushed_bytes, pushed_words}
use Rattle.tt_exec_state.specs.Instances.{has_instance}
use Rattle.tt_exec_state.specs.Queries.{answered}
use Rattle.tt_exec_state.specs.Settings.{state_set}
use Rattle.tt_exec_state.specs.StoredValues.{values_accessed}
use Rattle.tt_exec_state.specs.Variations.{variation_answered}
use Rattle.tt_exec_state.specs.Vectors.{vectors_accessed}
use Rattle.tt_exec_state.specs.WithAll.{VectorsStay, SettingsStay}
use Rattle.tt_exec_state.specs.WithAll as of_settings
use Rattle.tt_exec_step.specs.Flags.{flagged, instctrl}
use Rattle.tt_exec_step.specs.Flow.{goes_to, skipped, jumped, if_from, jmpr, jrot, jrof}
use Rattle.tt_exec_step.specs.Functions.{may_define, has_no_name, with_definition, defined, fdef_from, idef_from, endf, called, call, instruction_called, called_often, loopcall}
use Rattle.tt_exec_step.specs.MachineState.{Body, CallFrame, MachineState, fault_in}
use Rattle.tt_exec_step.specs.Numbered.{is_number, is_opcode, function_at}
use Rattle.tt_exec_step.specs.OnPoints.{left_by, on_points}
use Rattle.tt_exec_step.specs.Opcodes.{operation_of}
use Rattle.tt_exec_step.specs.Operation.{Operation}
use Rattle.tt_exec_step.specs.Operation as op
use Rattle.tt_exec_step.specs.Runs.{run_within, run_outcome}
use Rattle.tt_state.specs.Tolerance.{is_tolerant}
use Rattle.tt_exec_step.specs.Step.{filled, on_stack, on_graphics, on_places, pushes_words, operate, done, step, is_ended}
use Rattle.tt_exec_step.specs.WithAll.{with_all_in, RunStays, RunsStay}
use Rattle.tt_exec_step.specs.declared.machine_state.Kind.{Kind}
use Rattle.tt_exec_step.specs.declared.machine_state.Kind.TheVariants as kind
use Rattle.tt_exec_step.specs.declared.program.Definition.{Definition}
use Rattle.tt_exec_step.specs.declared.program.Definition.TheVariants as definition

-- the laws of the families that read the graphics state or set it
pub record Families : Type 0 where
  pub vectors : VectorsStay
  pub settings : SettingsStay
  pub points : PointsStay

-- one of two results
either : (b : Bool) (x y x' y' : Result MachineState Fault) → RunStays x x' → RunStays y y'
    → RunStays (if b then x else y) (if b then x' else y')
either true x y x' y' one other = one
either false x y x' y' one other = other

-- a refusal at a place
refused : (m : MachineState) (at : ℕ) (e : Why)
    → RunStays (Err (fault_in m.frame at e)) (Err (fault_in m.frame at e))
refused m at e = λ other. refl

-- the families
stack_stays : (at : ℕ) (m : MachineState) (r : Result (List ℤ) Why)
    → RunStays (on_stack at m r) (on_stack at (with_all_in m) r)
stack_stays at m (Ok s) = refl
stack_stays at m (Err e) = λ other. refl

places_stay : (at : ℕ) (m : MachineState) (r : Result (List ℤ × List ℤ × List ℤ) Why)
    → RunStays (on_places at m r) (on_places at (with_all_in m) r)
places_stay at m (Ok t) = refl
places_stay at m (Err e) = λ other. refl

graphics_stay : (at : ℕ) (m : MachineState) (r with : Result (List ℤ × GraphicsState) Why)
    → Stays of_settings.beside r with → RunStays (on_graphics at m r) (on_graphics at (with_all_in m) with)
graphics_stay at m (Ok t) with stays = rw stays refl
graphics_stay at m (Err e) with stays = λ other. rw (stays other) refl

left_stays : (at : ℕ) (m : MachineState) (r with : Result (List ℤ × ZoneLists × GraphicsState × List ℤ) Why)
    → Stays of_points.beside r with → RunStays (left_by at m r) (left_by at (with_all_in m) with)
left_stays at m (Ok t) with stays = rw stays refl
left_stays at m (Err e) with stays = λ other. rw (stays other) refl

points_stay : PointsStay → (o : OnPoints) (at : ℕ) (m : MachineState)
    → RunStays (on_points o at m) (on_points o at (with_all_in m))
unfolding on_points
points_stay k o at m =
    left_stays at m (points.on_points m.tolerance o m.ppem m.stack m.zones m.graphics m.cvt)
    (points.on_points m.tolerance o m.ppem m.stack m.zones (with_all m.graphics) m.cvt)
    (k m.tolerance o m.ppem m.stack m.zones m.graphics m.cvt)

flag : (b : Bool) (x y x' y' : MachineState) → x' ≡ with_all_in x → y' ≡ with_all_in y
    → (if b then x' else y') ≡ with_all_in (if b then x else y)
flag true x y x' y' one other = one
flag false x y x' y' one other = other

flagged_stays : (k : Kind) (selector : ℤ) (on : Bool) (m : MachineState)
    → flagged k selector on (with_all_in m) ≡ with_all_in (flagged k selector on m)
flagged_stays kind.Font selector on m = refl
flagged_stays kind.Glyph selector on m = refl
flagged_stays kind.ControlValue selector on m =
    flag (int_eq selector (pos 1)) _ _ _ _ refl (flag (int_eq selector (pos 2)) _ _ _ _ refl refl)

instctrl_stays : (s : List ℤ) (at : ℕ) (m : MachineState) → RunStays (instctrl s at m) (instctrl s at (with_all_in m))
instctrl_stays (selector ∷ value ∷ s) at m =
    rw (flagged_stays m.kind selector (is_true value) (record m { stack = s })) refl
instctrl_stays (selector ∷ []) at m = λ other. refl
instctrl_stays [] at m = λ other. refl

-- the flow of control
skipped_stays : (m : MachineState) (r : Result ℕ Halt) → RunStays (skipped m r) (skipped (with_all_in m) r)
skipped_stays m (Ok place) = refl
skipped_stays m (Err halt) = λ other. refl

jumped_stays : (at : ℕ) (offset : ℤ) (m : MachineState)
    → RunStays (jumped at offset m) (jumped at offset (with_all_in m))
jumped_stays at offset m =
    let target = pos at +ℤ offset in
    either (int_le (pos 0) target && int_le target (pos (length m.frame.code.bytes))) _ _ _ _ refl
    (refused m at why.JumpRange)

if_stays : (s : List ℤ) (at : ℕ) (m : MachineState) → RunStays (if_from s at m) (if_from s at (with_all_in m))
if_stays (condition ∷ s) at m =
    either (is_true condition) _ _ _ _ refl
    (skipped_stays (record m { stack = s }) (if_end m.frame.code.bytes at))
if_stays [] at m = λ other. refl

jmpr_stays : (s : List ℤ) (at : ℕ) (m : MachineState) → RunStays (jmpr s at m) (jmpr s at (with_all_in m))
jmpr_stays (offset ∷ s) at m = jumped_stays at offset (record m { stack = s })
jmpr_stays [] at m = λ other. refl

jrot_stays : (s : List ℤ) (at : ℕ) (m : MachineState) → RunStays (jrot s at m) (jrot s at (with_all_in m))
jrot_stays (condition ∷ offset ∷ s) at m =
    either (is_true condition) _ _ _ _ (jumped_stays at offset (record m { stack = s })) refl
jrot_stays (condition ∷ []) at m = λ other. refl
jrot_stays [] at m = λ other. refl

jrof_stays : (s : List ℤ) (at : ℕ) (m : MachineState) → RunStays (jrof s at m) (jrof s at (with_all_in m))
jrof_stays (condition ∷ offset ∷ s) at m =
    either (is_true condition) _ _ _ _ refl (jumped_stays at offset (record m { stack = s }))
jrof_stays (condition ∷ []) at m = λ other. refl
jrof_stays [] at m = λ other. refl

-- definitions and calls
with_definition_stays : (d : Definition) (f : Body) (m : MachineState)
    → with_definition d f (with_all_in m) ≡ with_all_in (with_definition d f m)
with_definition_stays (definition.Function n) f m = refl
with_definition_stays (definition.Instruction opcode) f m = flag (has_no_name m.instance opcode) _ _ _ _ refl refl

defined_stays : (at : ℕ) (d : Definition) (m : MachineState) (r : Result ℕ Halt)
    → RunStays (defined at d m r) (defined at d (with_all_in m) r)
defined_stays at d m (Ok place) =
    rw (with_definition_stays d (record { code = m.frame.code; start = at + 1 }) m) refl
defined_stays at d m (Err halt) = λ other. refl

fdef_from_stays : (s : List ℤ) (at : ℕ) (m : MachineState) → RunStays (fdef_from s at m) (fdef_from s at (with_all_in m))
fdef_from_stays (n ∷ s) at m =
    either (is_number n) _ _ _ _ (defined_stays at (definition.Function (unsigned_abs n)) (record m { stack = s }) (definition_end m.frame.code.bytes at))
    (refused m at why.BadArgument)
fdef_from_stays [] at m = λ other. refl

idef_from_stays : (s : List ℤ) (at : ℕ) (m : MachineState) → RunStays (idef_from s at m) (idef_from s at (with_all_in m))
idef_from_stays (n ∷ s) at m =
    either (is_opcode n) _ _ _ _ (defined_stays at (definition.Instruction (unsigned_abs n)) (record m { stack = s }) (definition_end m.frame.code.bytes at))
    (refused m at why.BadArgument)
idef_from_stays [] at m = λ other. refl

endf_stays : (callers : List CallFrame) (at : ℕ) (m : MachineState) → RunStays (endf callers at m) (endf callers at (with_all_in m))
endf_stays [] at m = λ other. refl
endf_stays (caller ∷ callers) at m = either (m.frame.left == 0) _ _ _ _ refl refl

called_stays : (at again : ℕ) (m : MachineState) (f : Option Body)
    → RunStays (called at again m f) (called at again (with_all_in m) f)
called_stays at again m (Some f) =
    either (nat_lt (length m.callers) call_limit) _ _ _ _ refl (refused m at why.CallDepth)
called_stays at again m None = λ other. refl

call_stays : (s : List ℤ) (at : ℕ) (m : MachineState) → RunStays (call s at m) (call s at (with_all_in m))
call_stays (n ∷ s) at m = called_stays at 0 (record m { stack = s }) (function_at n m.functions)
call_stays [] at m = λ other. refl

instruction_called_stays : (at : ℕ) (m : MachineState) (f : Option Body)
    → RunStays (instruction_called at m f) (instruction_called at (with_all_in m) f)
instruction_called_stays at m (Some f) = called_stays at 0 m (Some f)
instruction_called_stays at m None = λ other. refl

called_often_stays : (at : ℕ) (count : ℤ) (m : MachineState) (f : Option Body)
    → RunStays (called_often at count m f) (called_often at count (with_all_in m) f)
called_often_stays at count m (Some f) =
    either (int_lt count (pos 1)) _ _ _ _ refl (called_stays at _ m (Some f))
called_often_stays at count m None = λ other. refl

loopcall_stays : (s : List ℤ) (at : ℕ) (m : MachineState) → RunStays (loopcall s at m) (loopcall s at (with_all_in m))
loopcall_stays (n ∷ count ∷ s) at m =
    called_often_stays at count (record m { stack = s }) (function_at n m.functions)
loopcall_stays (n ∷ []) at m = λ other. refl
loopcall_stays [] at m = λ other. refl

-- an instruction that is refused without the whole instruction set
beyond_stays : (whole : Bool) (m : MachineState) (at : ℕ) (r with : Result MachineState Fault) → RunStays r with
    → RunStays (if whole then r else Err (fault_in m.frame at why.OffProfile)) with
beyond_stays true m at r with stays = stays
beyond_stays false m at r with stays = λ other. absurd cc

-- a step
operate_stays : Families → (o : Operation) (at : ℕ) (m : MachineState)
    → RunStays (operate o at m) (operate o at (with_all_in m))
operate_stays k (op.access_vectors o) at m =
    graphics_stay at m (vectors_accessed o m.stack m.graphics) _ (k.vectors o m.stack m.graphics)
operate_stays k (op.set_state o) at m =
    graphics_stay at m (state_set o m.ppem m.scale m.tolerance m.stack m.graphics) _
    (k.settings o m.ppem m.scale m.tolerance m.stack m.graphics)
operate_stays k (op.manage o) at m = stack_stays at m (managed o m.tolerance m.stack)
operate_stays k (op.evaluate o) at m = stack_stays at m (evaluated o m.graphics.round m.stack)
operate_stays k (op.compute o) at m = stack_stays at m (computed o m.graphics.round m.stack)
operate_stays k (op.access_values o) at m =
    places_stay at m (values_accessed o m.scale m.tolerance m.stack m.storage m.cvt)
operate_stays k (op.answer o) at m = stack_stays at m (answered o m.ppem m.instance m.stack)
operate_stays k op.instctrl at m = instctrl_stays m.stack at m
operate_stays k op.if_from at m = if_stays m.stack at m
operate_stays k op.else_from at m = skipped_stays m (else_end m.frame.code.bytes at)
operate_stays k op.eif at m = refl
operate_stays k op.jmpr at m = jmpr_stays m.stack at m
operate_stays k op.jrot at m = jrot_stays m.stack at m
operate_stays k op.jrof at m = jrof_stays m.stack at m
operate_stays k op.fdef at m =
    either (may_define m.kind m.callers) _ _ _ _ (fdef_from_stays m.stack at m) (refused m at why.DefinitionPlace)
operate_stays k op.endf at m = endf_stays m.callers at m
operate_stays k op.call at m = call_stays m.stack at m
operate_stays k op.loopcall at m = loopcall_stays m.stack at m
operate_stays k (op.on_points o) at m = points_stay k.points o at m
operate_stays k op.idef at m =
    either (may_define m.kind m.callers) _ _ _ _ (idef_from_stays m.stack at m) (refused m at why.DefinitionPlace)
operate_stays k (op.beyond o) at m =
    beyond_stays m.graphics.whole m at (operate o at m) (operate o at (with_all_in m)) (operate_stays k o at m)
operate_stays k (op.read_instance o opcode) at m =
    either (has_instance m.instance) _ _ _ _ (stack_stays at m (variation_answered o m.instance m.stack))
    (instruction_called_stays at m (function_at (pos opcode) m.instructions))
operate_stays k (op.unnamed opcode) at m =
    instruction_called_stays at m (function_at (pos opcode) m.instructions)

filled_stays : (o : Operation) (m : MachineState) → filled o (with_all_in m) ≡ with_all_in (filled o m)
filled_stays o m = flag (is_tolerant m.tolerance) _ _ _ _ refl refl

done_stays : Families → (m : MachineState) (r : Result Instr Halt) → RunStays (done m r) (done (with_all_in m) r)
done_stays k m (Ok i) =
    let next = goes_to (m.frame.place + i.len) m in
    either (takes_data i.op) _ _ _ _
    (stack_stays m.frame.place next
    (if pushes_words i.op then pushed_words i.args m.stack else pushed_bytes i.args m.stack))
    (rw (filled_stays (operation_of i.op) next)
    (operate_stays k (operation_of i.op) m.frame.place (filled (operation_of i.op) next)))
done_stays k m (Err halt) = λ other. refl

step_stays : Families → (m : MachineState) → RunStays (step m) (step (with_all_in m))
step_stays k m =
    either (nat_le (length m.frame.code.bytes) m.frame.place) _ _ _ _ (refused m m.frame.place why.CodeShort)
    (done_stays k m (instruction_at m.frame.code.bytes m.frame.place))

-- a run
next : (r with : Result MachineState Fault) (f : MachineState → Result MachineState Fault) → RunStays r with
    → ((t : MachineState) → RunStays (f t) (f (with_all_in t))) → RunStays (r >>= f) (with >>= f)
next (Ok t) with f stays further = rw stays (further t)
next (Err fault) with f stays further = λ other. rw (stays other) refl

within_stays : Families → (n : ℕ) (s : MachineState) → RunStays (run_within n s) (run_within n (with_all_in s))
unfolding run_within
within_stays k zero s = either (is_ended s) _ _ _ _ refl (refused s s.frame.place why.StepLimit)
within_stays k (suc n) s =
    either (is_ended s) _ _ _ _ refl
    (next (step s) (step (with_all_in s)) (run_within n) (step_stays k s) (within_stays k n))

pub runs_stay : Families → RunsStay
unfolding run_outcome
runs_stay k s = within_stays k step_limit s
