-- No instruction adds or removes a point, a storage place or a control value.
use Rattle.std.proofs.Common.{◌≡◌, ◌∙◌, ℕ, zero, suc, ◌+◌, ◌==◌, nat_le, nat_lt, ℤ, pos, ◌+ℤ◌, int_le, int_lt, unsigned_abs, Bool, true, false, ◌&&◌, if◌then◌else◌, List, [], ◌∷◌, length, Option, Some, None, Result, Ok, Err, IfOk, subst, refl}
use Rattle.std.specs.Ordering.{int_eq}
use Rattle.tt_core.specs.declared.scaling.Scale.{Scale}
use Rattle.tt_core.specs.Faults.{Fault}
use Rattle.tt_core.specs.declared.fault.Why.{Why}
use Rattle.tt_code.specs.declared.decoding.Halt.{Halt}
use Rattle.tt_code.specs.Decoding.{Instr, instruction_at, takes_data}
use Rattle.tt_code.specs.Skips.{if_end, else_end, definition_end}
use Rattle.tt_state.specs.declared.graphics_state.GraphicsState.{GraphicsState}
use Rattle.tt_exec_points.specs.zones.Zones.{ZoneLists, SameShape}
use Rattle.tt_exec_points.specs.declared.instruction.OnPoints.{OnPoints}
use Rattle.tt_exec_points.specs.Instruction as points
use Rattle.tt_exec_points.specs.Shapes as shapes
use Rattle.tt_exec_stack.specs.Arithmetic.{computed}
use Rattle.tt_exec_stack.specs.Logic.{is_true, evaluated}
use Rattle.tt_state.specs.Tolerance.{is_tolerant}
use Rattle.tt_state.specs.declared.tolerance.Tolerance.{Tolerance}
use Rattle.tt_exec_stack.specs.Managing.{managed}
use Rattle.tt_exec_stack.specs.Stack.{padded}
use Rattle.tt_exec_step.specs.Operation.{takes}
use Rattle.tt_exec_state.specs.StoredValues.{values_accessed}
use Rattle.tt_exec_stack.specs.Pushing.{pushed_bytes, pushed_words}
use Rattle.tt_exec_state.specs.Queries.{answered}
use Rattle.tt_exec_state.specs.Settings.{state_set}
use Rattle.tt_exec_state.specs.Instances.{has_instance}
use Rattle.tt_exec_state.specs.Variations.{variation_answered}
use Rattle.tt_exec_state.specs.Vectors.{vectors_accessed}
use Rattle.tt_exec_state.specs.declared.instruction.StoredValues.{StoredValues}
use Rattle.tt_core.specs.Limits.{call_limit}
use Rattle.tt_exec_step.specs.Flags.{flagged, instctrl}
use Rattle.tt_exec_step.specs.Flow.{goes_to, skipped, jumped, if_from, jmpr, jrot, jrof}
use Rattle.tt_exec_step.specs.Functions.{may_define, has_no_name, with_definition, defined, fdef_from, idef_from, endf, called, call, instruction_called, called_often, loopcall}
use Rattle.tt_exec_step.specs.MachineState.{Body, CallFrame, MachineState}
use Rattle.tt_exec_step.specs.OnPoints.{left_by, on_points}
use Rattle.tt_exec_step.specs.Numbered.{is_number, is_opcode, function_at}
use Rattle.tt_exec_step.specs.Opcodes.{operation_of}
use Rattle.tt_exec_step.specs.Operation.{Operation}
use Rattle.tt_exec_step.specs.Operation as op
use Rattle.tt_exec_step.specs.Runs.{Leads, Ends}
use Rattle.tt_exec_step.specs.Sizes.{HasContours, SameSizes}
use Rattle.tt_exec_step.specs.Step.{on_stack, on_graphics, on_places, pushes_words, operate, done, step}
use Rattle.tt_exec_step.specs.declared.program.Definition.{Definition}
use Rattle.tt_exec_step.specs.declared.program.Definition.TheVariants as definition
use Rattle.tt_exec_step.specs.declared.machine_state.Kind.{Kind}
use Rattle.tt_exec_step.specs.declared.machine_state.Kind.TheVariants as kind

-- the laws of the instructions on points, and of those on storage and control values
abbrev pub PointsKept : Type 0
PointsKept = (t : Tolerance) (o : OnPoints) (ppem : ℕ) (s : List ℤ) (z : ZoneLists) (g : GraphicsState) (cvt : List ℤ) → HasContours z
    → IfOk (points.on_points t o ppem s z g cvt) (shapes.SameSizes z cvt)

abbrev pub OnPlaces : Type 0
OnPlaces = (o : StoredValues) (scale : Scale) (t : Tolerance) (s storage cvt : List ℤ)
    → IfOk (values_accessed o scale t s storage cvt)
    (λ t. (length t.1 ≡ length storage) × (length t.2 ≡ length cvt))

-- the sizes that a step leaves unchanged
abbrev Kept : MachineState → MachineState → Type 0
Kept old new =
    SameShape old.zones new.zones
    × (length new.storage ≡ length old.storage)
    × (length new.cvt ≡ length old.cvt)

abbrev Keeps : MachineState → Result MachineState Fault → Type 0
Keeps old r = IfOk r (Kept old)

same_zones : (z : ZoneLists) → SameShape z z
same_zones z = record { twilight = refl; glyph = refl; contours = refl; originals = refl }

same : (m : MachineState) → Kept m m
same m = (same_zones m.zones, refl, refl)

joined : (a b c : MachineState) → Kept a b → Kept b c → Kept a c
joined a b c (first, s, v) (second, s', v') = (
  record {
    twilight = second.twilight ∙ first.twilight;
    glyph = second.glyph ∙ first.glyph;
    contours = second.contours ∙ first.contours;
    originals = second.originals ∙ first.originals;
  },
  s' ∙ s,
  v' ∙ v,
)

-- a property of both of two
either : {A : Type 0} (P : A → Type 0) (b : Bool) (x y : A) → P x → P y → P (if b then x else y)
either P true x y one other = one
either P false x y one other = other

on_stack_kept : (at : ℕ) (m : MachineState) (r : Result (List ℤ) Why) → Keeps m (on_stack at m r)
on_stack_kept at m (Ok s) = same m
on_stack_kept at m (Err why) = tt

on_graphics_kept : (at : ℕ) (m : MachineState) (r : Result (List ℤ × GraphicsState) Why) → Keeps m (on_graphics at m r)
on_graphics_kept at m (Ok t) = same m
on_graphics_kept at m (Err why) = tt

on_places_kept : (at : ℕ) (m : MachineState) (r : Result (List ℤ × List ℤ × List ℤ) Why)
    → IfOk r (λ t. (length t.1 ≡ length m.storage) × (length t.2 ≡ length m.cvt))
    → Keeps m (on_places at m r)
on_places_kept at m (Ok t) (s, v) = (same_zones m.zones, s, v)
on_places_kept at m (Err why) long = tt

left_by_kept : (at : ℕ) (m : MachineState) (r : Result (List ℤ × ZoneLists × GraphicsState × List ℤ) Why)
    → IfOk r (shapes.SameSizes m.zones m.cvt) → Keeps m (left_by at m r)
left_by_kept at m (Ok t) sizes = (sizes.zones, refl, sizes.control_values)
left_by_kept at m (Err why) sizes = tt

on_points_kept : PointsKept → (o : OnPoints) (at : ℕ) (m : MachineState) → HasContours m.zones → Keeps m (on_points o at m)
unfolding on_points
on_points_kept k o at m has =
    left_by_kept at m (points.on_points m.tolerance o m.ppem m.stack m.zones m.graphics m.cvt)
    (k m.tolerance o m.ppem m.stack m.zones m.graphics m.cvt has)

flagged_kept : (k : Kind) (selector : ℤ) (on : Bool) (m : MachineState) → Kept m (flagged k selector on m)
flagged_kept kind.Font selector on m = same m
flagged_kept kind.Glyph selector on m = same m
flagged_kept kind.ControlValue selector on m =
    either (Kept m) (int_eq selector (pos 1)) _ _ (same m)
    (either (Kept m) (int_eq selector (pos 2)) _ _ (same m) (same m))

instctrl_kept : (s : List ℤ) (at : ℕ) (m : MachineState) → Keeps m (instctrl s at m)
instctrl_kept (selector ∷ value ∷ s) at m = flagged_kept m.kind selector (is_true value) (record m { stack = s })
instctrl_kept (selector ∷ []) at m = tt
instctrl_kept [] at m = tt

-- the flow of control
skipped_kept : (m : MachineState) (r : Result ℕ Halt) → Keeps m (skipped m r)
skipped_kept m (Ok place) = same m
skipped_kept m (Err halt) = tt

jumped_kept : (at : ℕ) (offset : ℤ) (m : MachineState) → Keeps m (jumped at offset m)
jumped_kept at offset m =
    let target = pos at +ℤ offset in
    either (Keeps m) (int_le (pos 0) target && int_le target (pos (length m.frame.code.bytes))) _ _ (same m) tt

if_kept : (s : List ℤ) (at : ℕ) (m : MachineState) → Keeps m (if_from s at m)
if_kept (condition ∷ s) at m =
    either (Keeps m) (is_true condition) _ _ (same m)
    (skipped_kept (record m { stack = s }) (if_end m.frame.code.bytes at))
if_kept [] at m = tt

jmpr_kept : (s : List ℤ) (at : ℕ) (m : MachineState) → Keeps m (jmpr s at m)
jmpr_kept (offset ∷ s) at m = jumped_kept at offset (record m { stack = s })
jmpr_kept [] at m = tt

jrot_kept : (s : List ℤ) (at : ℕ) (m : MachineState) → Keeps m (jrot s at m)
jrot_kept (condition ∷ offset ∷ s) at m =
    either (Keeps m) (is_true condition) _ _ (jumped_kept at offset (record m { stack = s })) (same m)
jrot_kept (condition ∷ []) at m = tt
jrot_kept [] at m = tt

jrof_kept : (s : List ℤ) (at : ℕ) (m : MachineState) → Keeps m (jrof s at m)
jrof_kept (condition ∷ offset ∷ s) at m =
    either (Keeps m) (is_true condition) _ _ (same m) (jumped_kept at offset (record m { stack = s }))
jrof_kept (condition ∷ []) at m = tt
jrof_kept [] at m = tt

-- functions
with_definition_kept : (d : Definition) (f : Body) (m : MachineState) → Kept m (with_definition d f m)
with_definition_kept (definition.Function n) f m = same m
with_definition_kept (definition.Instruction opcode) f m = either (Kept m) (has_no_name m.instance opcode) _ _
    (same m) (same m)

defined_kept : (at : ℕ) (d : Definition) (m : MachineState) (r : Result ℕ Halt) → Keeps m (defined at d m r)
defined_kept at d m (Ok place) = with_definition_kept d _ m
defined_kept at d m (Err halt) = tt

fdef_from_kept : (s : List ℤ) (at : ℕ) (m : MachineState) → Keeps m (fdef_from s at m)
fdef_from_kept (n ∷ s) at m =
    either (Keeps m) (is_number n) _ _
    (defined_kept at (definition.Function (unsigned_abs n)) (record m { stack = s }) (definition_end m.frame.code.bytes at)) tt
fdef_from_kept [] at m = tt

idef_from_kept : (s : List ℤ) (at : ℕ) (m : MachineState) → Keeps m (idef_from s at m)
idef_from_kept (n ∷ s) at m =
    either (Keeps m) (is_opcode n) _ _
    (defined_kept at (definition.Instruction (unsigned_abs n)) (record m { stack = s }) (definition_end m.frame.code.bytes at)) tt
idef_from_kept [] at m = tt

endf_kept : (callers : List CallFrame) (at : ℕ) (m : MachineState) → Keeps m (endf callers at m)
endf_kept [] at m = tt
endf_kept (caller ∷ callers) at m = either (Keeps m) (m.frame.left == 0) _ _ (same m) (same m)

called_kept : (at again : ℕ) (m : MachineState) (f : Option Body) → Keeps m (called at again m f)
called_kept at again m (Some f) = either (Keeps m) (nat_lt (length m.callers) call_limit) _ _ (same m) tt
called_kept at again m None = tt

call_kept : (s : List ℤ) (at : ℕ) (m : MachineState) → Keeps m (call s at m)
call_kept (n ∷ s) at m = called_kept at 0 (record m { stack = s }) (function_at n m.functions)
call_kept [] at m = tt

called_often_kept : (at : ℕ) (count : ℤ) (m : MachineState) (f : Option Body) → Keeps m (called_often at count m f)
called_often_kept at count m (Some f) =
    either (Keeps m) (int_lt count (pos 1)) _ _ (same m) (called_kept at _ m (Some f))
called_often_kept at count m None = tt

loopcall_kept : (s : List ℤ) (at : ℕ) (m : MachineState) → Keeps m (loopcall s at m)
loopcall_kept (n ∷ count ∷ s) at m =
    called_often_kept at count (record m { stack = s }) (function_at n m.functions)
loopcall_kept (n ∷ []) at m = tt
loopcall_kept [] at m = tt

instruction_called_kept : (at : ℕ) (m : MachineState) (f : Option Body) → Keeps m (instruction_called at m f)
instruction_called_kept at m (Some f) = called_kept at 0 m (Some f)
instruction_called_kept at m None = tt

-- a step
operate_kept : PointsKept → OnPlaces → (o : Operation) (at : ℕ) (m : MachineState) → HasContours m.zones
    → Keeps m (operate o at m)
operate_kept k j (op.access_vectors o) at m has = on_graphics_kept at m (vectors_accessed o m.stack m.graphics)
operate_kept k j (op.set_state o) at m has =
    on_graphics_kept at m (state_set o m.ppem m.scale m.tolerance m.stack m.graphics)
operate_kept k j (op.manage o) at m has = on_stack_kept at m (managed o m.tolerance m.stack)
operate_kept k j (op.evaluate o) at m has = on_stack_kept at m (evaluated o m.graphics.round m.stack)
operate_kept k j (op.compute o) at m has = on_stack_kept at m (computed o m.graphics.round m.stack)
operate_kept k j (op.access_values o) at m has =
    on_places_kept at m (values_accessed o m.scale m.tolerance m.stack m.storage m.cvt)
    (j o m.scale m.tolerance m.stack m.storage m.cvt)
operate_kept k j (op.answer o) at m has = on_stack_kept at m (answered o m.ppem m.instance m.stack)
operate_kept k j op.instctrl at m has = instctrl_kept m.stack at m
operate_kept k j op.if_from at m has = if_kept m.stack at m
operate_kept k j op.else_from at m has = skipped_kept m (else_end m.frame.code.bytes at)
operate_kept k j op.eif at m has = same m
operate_kept k j op.jmpr at m has = jmpr_kept m.stack at m
operate_kept k j op.jrot at m has = jrot_kept m.stack at m
operate_kept k j op.jrof at m has = jrof_kept m.stack at m
operate_kept k j op.fdef at m has =
    either (Keeps m) (may_define m.kind m.callers) _ _ (fdef_from_kept m.stack at m) tt
operate_kept k j op.endf at m has = endf_kept m.callers at m
operate_kept k j op.call at m has = call_kept m.stack at m
operate_kept k j op.loopcall at m has = loopcall_kept m.stack at m
operate_kept k j (op.on_points o) at m has = on_points_kept k o at m has
operate_kept k j op.idef at m has =
    either (Keeps m) (may_define m.kind m.callers) _ _ (idef_from_kept m.stack at m) tt
operate_kept k j (op.beyond o) at m has =
    either (Keeps m) m.graphics.whole _ _ (operate_kept k j o at m has) tt
operate_kept k j (op.read_instance o opcode) at m has =
    either (Keeps m) (has_instance m.instance) _ _ (on_stack_kept at m (variation_answered o m.instance m.stack))
    (instruction_called_kept at m (function_at (pos opcode) m.instructions))
operate_kept k j (op.unnamed opcode) at m has =
    instruction_called_kept at m (function_at (pos opcode) m.instructions)

-- with the stack filled for it
filled_kept : PointsKept → OnPlaces → (o : Operation) (at : ℕ) (m : MachineState) → HasContours m.zones → (tolerant : Bool)
    → Keeps m (operate o at (if tolerant then record m { stack = padded (takes o) m.stack } else m))
filled_kept k j o at m has true = operate_kept k j o at (record m { stack = padded (takes o) m.stack }) has
filled_kept k j o at m has false = operate_kept k j o at m has

done_kept : PointsKept → OnPlaces → (m : MachineState) (r : Result Instr Halt) → HasContours m.zones
    → Keeps m (done m r)
done_kept k j m (Ok i) has =
    let next = goes_to (m.frame.place + i.len) m in
    either (Keeps m) (takes_data i.op) _ _
    (on_stack_kept m.frame.place next
    (if pushes_words i.op then pushed_words i.args m.stack else pushed_bytes i.args m.stack))
    (filled_kept k j (operation_of i.op) m.frame.place next has (is_tolerant m.tolerance))
done_kept k j m (Err halt) has = tt

step_kept : PointsKept → OnPlaces → (m : MachineState) → HasContours m.zones → Keeps m (step m)
step_kept k j m has =
    either (Keeps m) (nat_le (length m.frame.code.bytes) m.frame.place) _ _ tt
    (done_kept k j m (instruction_at m.frame.code.bytes m.frame.place) has)

-- a run
has_still : (a b : ZoneLists) → SameShape a b → HasContours a → HasContours b
has_still a b shape has = rw (shape.contours, shape.glyph) has

leads_kept : PointsKept → OnPlaces → (n : ℕ) (s t : MachineState) → HasContours s.zones → Leads n s t → Kept s t
leads_kept k j zero s t has here = subst (Kept s) here (same s)
leads_kept k j (suc n) s t has (m, to_m, made) =
    let so_far = leads_kept k j n s m has to_m in
    let one = step_kept k j m (has_still s.zones m.zones so_far.0 has) in
    joined s m t so_far (rw made at one)

pub shape_kept : PointsKept → OnPlaces → (old new : MachineState) (n : ℕ) → HasContours old.zones → Ends old n new
    → SameShape old.zones new.zones
shape_kept k j old new n has e = (leads_kept k j n old new has e.leads).0

pub sizes_kept : PointsKept → OnPlaces → (old new : MachineState) (n : ℕ) → HasContours old.zones → Ends old n new
    → SameSizes old new
sizes_kept k j old new n has e =
    let all = leads_kept k j n old new has e.leads in
    record { storage = all.1; cvt = all.2 }
