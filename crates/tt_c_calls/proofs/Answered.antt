-- The answer for a fault that stopped a call.
use Rattle.std.proofs.Common.{◌≡◌, ◌≢◌, List, ℕ, Option, Bool, true, false, Result, Ok, Err, inl, inr, refl, nat_lt, length, arith}
use Rattle.std.specs.Prelude.{IfSome, if◌then◌else◌}
use Rattle.tt_core.specs.declared.collection.Reading.{Reading}
use Rattle.tt_face.specs.declared.rules.Opening.{Opening}
use Rattle.tt_core.specs.declared.fault.JobFault.{JobFault}
use Rattle.tt_core.specs.Faults.{Fault}
use Rattle.tt_core.specs.Limits.{font_limit}
use Rattle.tt_core.specs.declared.font_fault.FontFault.{FontFault}
use Rattle.tt_core.specs.declared.font_fault.FontFault.TheVariants as reading
use Rattle.tt_core.specs.Outcomes.{◌>>=◌, draw_fault_of_font, draw_font_fault, font_fault}
use Rattle.tt_render_run.specs.Outcome.{of_font}
use Rattle.tt_core.specs.declared.draw_fault.DrawFault.{DrawFault}
use Rattle.tt_core.specs.declared.draw_fault.DrawFault.TheVariants as draw
use Rattle.tt_strike.specs.Refusals.{Refused, as_font, as_job, job, large, refusal}
use Rattle.tt_face.specs.Faces.{Face}
use Rattle.tt_face.specs.Files.{face_by}
use Rattle.tt_face.specs.Instance.{Asked, face_at_instance}
use Rattle.tt_c_calls.specs.declared.fault.CallFault.{CallFault}
use Rattle.tt_c_calls.specs.declared.fault.CallFault.TheVariants as call
use Rattle.tt_c_calls.specs.Answers.{DefectStands, TellsRefusal, call_answer}
use Rattle.tt_c_calls.specs.Fonts.{face_wanted, opened_wanted}
use Rattle.tt_c_calls.specs.Refusals.{Refusal, as_call, call_font_fault, call_of_draw, call_refusal, refused}

tells_memory : {X : Type 0} (wanted : Result X Refusal) → TellsRefusal wanted (call_answer call.Memory)
tells_memory (Ok x) = refl
tells_memory (Err why) = inr refl

-- an answer reports the refusal of a fault
pub tells : {X : Type 0} (wanted : Result X Refusal) (f : CallFault) → IfSome (call_refusal f) (λ why. wanted ≡ Err why)
    → TellsRefusal wanted (call_answer f)
tells wanted (call.Font f) is = rw is (inl refl)
tells wanted (call.Job j) is = rw is (inl refl)
tells wanted call.FontLarge is = rw is (inl refl)
tells wanted call.UnknownFit is = rw is (inl refl)
tells wanted call.LineEnds is = rw is (inl refl)
tells wanted call.UnknownAlign is = rw is (inl refl)
tells wanted call.AxesMany is = rw is (inl refl)
tells wanted call.WidthRange is = rw is (inl refl)
tells wanted call.BoxRange is = rw is (inl refl)
tells wanted call.BoxSmall is = rw is (inl refl)
tells wanted call.NotUtf8 is = rw is (inl refl)
tells wanted call.Memory is = tells_memory wanted

-- an answer reports the defect of a fault
pub stands : (P : Fault → Type 0) (f : CallFault) → IfSome (call_font_fault f) P → DefectStands P (call_answer f)
stands P (call.Font f) is = λ _. (f, refl, is)
stands P (call.Job j) is = λ h. absurd (omega (arith, h))
stands P call.FontLarge is = λ h. absurd (omega (arith, h))
stands P call.UnknownFit is = λ h. absurd (omega (arith, h))
stands P call.LineEnds is = λ h. absurd (omega (arith, h))
stands P call.UnknownAlign is = λ h. absurd (omega (arith, h))
stands P call.AxesMany is = λ h. absurd (omega (arith, h))
stands P call.WidthRange is = λ h. absurd (omega (arith, h))
stands P call.BoxRange is = λ h. absurd (omega (arith, h))
stands P call.BoxSmall is = λ h. absurd (omega (arith, h))
stands P call.NotUtf8 is = λ h. absurd (omega (arith, h))
stands P call.Memory is = λ h. absurd (omega (arith, h))

-- an answer does not report refused memory where memory was not refused
pub serves : (f : CallFault) → f ≢ call.Memory → (call_answer f).status ≢ 5
serves (call.Font f) other = λ h. omega (arith, h)
serves (call.Job j) other = λ h. omega (arith, h)
serves call.FontLarge other = λ h. omega (arith, h)
serves call.UnknownFit other = λ h. omega (arith, h)
serves call.LineEnds other = λ h. omega (arith, h)
serves call.UnknownAlign other = λ h. omega (arith, h)
serves call.AxesMany other = λ h. omega (arith, h)
serves call.WidthRange other = λ h. omega (arith, h)
serves call.BoxRange other = λ h. omega (arith, h)
serves call.BoxSmall other = λ h. omega (arith, h)
serves call.NotUtf8 other = λ h. omega (arith, h)
serves call.Memory other = λ h. other refl

-- the status of the answer for a fault is not 0, done
pub fails : (f : CallFault) → (call_answer f).status ≢ 0
fails (call.Font f) = λ h. omega (arith, h)
fails (call.Job j) = λ h. omega (arith, h)
fails call.FontLarge = λ h. omega (arith, h)
fails call.UnknownFit = λ h. omega (arith, h)
fails call.LineEnds = λ h. omega (arith, h)
fails call.UnknownAlign = λ h. omega (arith, h)
fails call.AxesMany = λ h. omega (arith, h)
fails call.WidthRange = λ h. omega (arith, h)
fails call.BoxRange = λ h. omega (arith, h)
fails call.BoxSmall = λ h. omega (arith, h)
fails call.NotUtf8 = λ h. omega (arith, h)
fails call.Memory = λ h. omega (arith, h)

-- the status of the answer for a fault is not 7, a room that is too small
pub wants_none : (f : CallFault) → (call_answer f).status ≢ 7
wants_none (call.Font f) = λ h. omega (arith, h)
wants_none (call.Job j) = λ h. omega (arith, h)
wants_none call.FontLarge = λ h. omega (arith, h)
wants_none call.UnknownFit = λ h. omega (arith, h)
wants_none call.LineEnds = λ h. omega (arith, h)
wants_none call.UnknownAlign = λ h. omega (arith, h)
wants_none call.AxesMany = λ h. omega (arith, h)
wants_none call.WidthRange = λ h. omega (arith, h)
wants_none call.BoxRange = λ h. omega (arith, h)
wants_none call.BoxSmall = λ h. omega (arith, h)
wants_none call.NotUtf8 = λ h. omega (arith, h)
wants_none call.Memory = λ h. omega (arith, h)

-- the answer for a fault reports nothing written
pub writes_none : (f : CallFault) → (call_answer f).bytes ≡ 0
writes_none (call.Font f) = refl
writes_none (call.Job j) = refl
writes_none call.FontLarge = refl
writes_none call.UnknownFit = refl
writes_none call.LineEnds = refl
writes_none call.UnknownAlign = refl
writes_none call.AxesMany = refl
writes_none call.WidthRange = refl
writes_none call.BoxRange = refl
writes_none call.BoxSmall = refl
writes_none call.NotUtf8 = refl
writes_none call.Memory = refl

-- if the first part has no value, its reason is the reason of the whole
pub first_stops : {A B : Type 0} (wanted : Result A Refusal) (f : A → Result B Refusal) (fault : CallFault)
    → IfSome (call_refusal fault) (λ why. wanted ≡ Err why)
    → IfSome (call_refusal fault) (λ why. (wanted >>= f) ≡ Err why)
first_stops wanted f (call.Font d) is = rw is refl
first_stops wanted f (call.Job j) is = rw is refl
first_stops wanted f call.FontLarge is = rw is refl
first_stops wanted f call.UnknownFit is = rw is refl
first_stops wanted f call.LineEnds is = rw is refl
first_stops wanted f call.UnknownAlign is = rw is refl
first_stops wanted f call.AxesMany is = rw is refl
first_stops wanted f call.WidthRange is = rw is refl
first_stops wanted f call.BoxRange is = rw is refl
first_stops wanted f call.BoxSmall is = rw is refl
first_stops wanted f call.NotUtf8 is = rw is refl
first_stops wanted f call.Memory is = tt

by_size : {X : Type 0} (is_large : Bool) (face : Result Face Fault) (make : Face → Result X Refused)
    → as_call (if is_large then Err large else (as_font face >>= make))
    ≡ (as_call (if is_large then Err large else as_font face) >>= λ face. as_call (make face))
by_size true face make = refl
by_size false (Ok face) make = refl
by_size false (Err f) make = refl

-- a request of a font that passes its tests is one of the font's tables
pub by_face : {X : Type 0} (test : Result (Unit {0}) JobFault) (make : Face → Result X Refused) (r : Reading)
    (font : List ℕ) → test ≡ Ok tt
    → as_call (as_job test >>= λ u. of_font (λ file. as_font (face_by file r) >>= make) font)
    ≡ (face_wanted r font >>= λ face. as_call (make face))
unfolding face_wanted
by_face test make r font passes = rw passes (by_size (nat_lt font_limit (length font)) (face_by font r) make)

-- the same at an instance, with the rules of lines
pub by_opening : {X : Type 0} (test : Result (Unit {0}) JobFault) (make : Face → Result X Refused) (o : Opening)
    (i : Option Asked) (font : List ℕ) → test ≡ Ok tt
    → as_call (as_job test >>= λ u. of_font (λ file. as_font (face_at_instance file o i) >>= make) font)
    ≡ (opened_wanted o i font >>= λ face. as_call (make face))
unfolding opened_wanted
by_opening test make o i font passes = rw passes (by_size (nat_lt font_limit (length font)) (face_at_instance font o i) make)

-- a request of a font that fails its tests
pub by_test : {X : Type 0} (test : Result (Unit {0}) JobFault) (make : Unit {0} → Result X Refused) (j : JobFault)
    → test ≡ Err j → as_call (as_job test >>= make) ≡ Err (refused (job j))
by_test test make j fails = rw fails refl

-- a fault of drawing stops the call for the same reason
pub draw_refused : {X : Type 0} (wanted : Result X Refused) (d : DrawFault)
    → IfSome (refusal d) (λ why. wanted ≡ Err why)
    → IfSome (call_refusal (call_of_draw d)) (λ why. as_call wanted ≡ Err why)
draw_refused wanted (draw.Font f) is = rw is refl
draw_refused wanted (draw.Job j) is = rw is refl
draw_refused wanted draw.Memory is = tt

pub draw_tells : (P : Fault → Type 0) (d : DrawFault) → IfSome (draw_font_fault d) P
    → IfSome (call_font_fault (call_of_draw d)) P
draw_tells P (draw.Font f) stands = stands
draw_tells P (draw.Job j) stands = tt
draw_tells P draw.Memory stands = tt

-- what is drawn is what the call gives
pub drawn_too : {X : Type 0} (wanted : Result X Refused) (x : X) → wanted ≡ Ok x → as_call wanted ≡ Ok x
drawn_too wanted x is = rw is refl

-- a fault of reading stops what draws for the same reason
pub font_refused : {X : Type 0} (wanted : Result X Fault) (d : FontFault)
    → IfSome (font_fault d) (λ why. wanted ≡ Err why)
    → IfSome (refusal (draw_fault_of_font d)) (λ why. as_font wanted ≡ Err why)
font_refused wanted (reading.Font f) is = rw is refl
font_refused wanted reading.Memory is = tt

pub font_tells : (P : Fault → Type 0) (d : FontFault) → IfSome (font_fault d) P
    → IfSome (draw_font_fault (draw_fault_of_font d)) P
font_tells P (reading.Font f) stands = stands
font_tells P reading.Memory stands = tt

-- what is read is what the call gives
pub font_drawn : {X : Type 0} (wanted : Result X Fault) (x : X) → wanted ≡ Ok x → as_font wanted ≡ Ok x
font_drawn wanted x is = rw is refl
