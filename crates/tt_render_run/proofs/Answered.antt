-- The clauses of a call whose step failed.
use Rattle.std.proofs.Common.{◌≡◌, ◌<◌, ℕ, Bool, true, List, length, Option, Some, None, IfSome, Result, Ok, Err, refl}
use Rattle.std.specs.Prelude.{IsOkAnd}
use Rattle.std.specs.Io.KnownBytes.{Consumes, IsAtEnd}
use Rattle.tt_face.specs.declared.rules.Opening.{Opening}
use Rattle.tt_core.specs.declared.font_fault.FontFault.{FontFault}
use Rattle.tt_core.specs.declared.font_fault.FontFault.TheVariants as font_of
use Rattle.tt_core.specs.declared.fault.JobFault.{JobFault}
use Rattle.tt_core.specs.declared.fault.JobFault.TheVariants as fault
use Rattle.tt_core.specs.Faults.{Fault}
use Rattle.tt_core.specs.Limits.{font_limit}
use Rattle.tt_core.specs.Outcomes.{font_fault, draw_font_fault, draw_job_fault}
use Rattle.tt_core.specs.declared.draw_fault.DrawFault.{DrawFault}
use Rattle.tt_core.specs.declared.draw_fault.DrawFault.TheVariants as draw
use Rattle.tt_render_streams.specs.declared.fault.RunFault.{RunFault}
use Rattle.tt_render_streams.specs.declared.fault.RunFault.TheVariants as run
use Rattle.tt_strike.specs.Job.{Job}
use Rattle.tt_render_run.specs.Defects.{TellsDefectsOf, IsJobRefusal}
use Rattle.tt_strike.specs.Defects.{IsFontRefusal}
use Rattle.tt_face.specs.Faces.{Face}
use Rattle.tt_face.specs.Instance.{Asked, face_at_instance}
use Rattle.tt_strike.specs.Refusals.{Refused, as_font, needs_font, refusal}
use Rattle.tt_render_run.specs.Outcome.{Wanted, CallFails, IfJob, IfLarge}
use Rattle.tt_render_streams.specs.Reading.{ReadFails}
use Rattle.tt_render_streams.specs.Views.{run_fault_of_font, run_fault_of_draw}
use Rattle.tt_render_run.proofs.Calls.{IsOfFont, IsRead, font_fails, late_job_fails, memory_fails, tells_of_known}
use Rattle.tt_render_streams.proofs.Known.{known_of}

-- reading a font refuses no job
pub reading_job : (e : RunFault) (before after : Option (List ℕ)) (read : Bool) (P : JobFault → Type 0)
    → ReadFails e before after read → IfJob {V = Unit {0}} (Err e) P
reading_job (run.Font f) before after read P fails = tt
reading_job (run.Job j) before after read P fails = absurd fails
reading_job run.Read before after read P fails = tt
reading_job run.FontLarge before after read P fails = tt
reading_job (run.Write sent) before after read P fails = tt
reading_job run.Memory before after read P fails = tt

pub reading_large : (e : RunFault) (before after : Option (List ℕ)) (read : Bool) → ReadFails e before after read
    → IfLarge {V = Unit {0}} (Err e) (IfSome before (λ file. font_limit < length file))
reading_large (run.Font f) before after read fails = tt
reading_large (run.Job j) before after read fails = tt
reading_large run.Read before after read fails = tt
reading_large run.FontLarge before after read fails = fails.0
reading_large (run.Write sent) before after read fails = tt
reading_large run.Memory before after read fails = tt

-- reading a font names no defect
pub reading_defects : (V : Type 0) (e : RunFault) (before after : Option (List ℕ)) (read : Bool) (IsOne : List ℕ → Fault → Type 0)
    → ReadFails e before after read → TellsDefectsOf {V = V} before IsOne (Err e)
reading_defects V e None after read IsOne fails = tt
reading_defects V (run.Font f) (Some file) after read IsOne fails = absurd fails
reading_defects V (run.Job j) (Some file) after read IsOne fails = tt
reading_defects V run.Read (Some file) after read IsOne fails = tt
reading_defects V run.FontLarge (Some file) after read IsOne fails = tt
reading_defects V (run.Write sent) (Some file) after read IsOne fails = absurd fails
reading_defects V run.Memory (Some file) after read IsOne fails = tt

-- a refusal by the font is known once the font is
late_refusal : (face : Face) (a : Job) (j : JobFault) → IsFontRefusal face a j → needs_font j ≡ true
late_refusal face a fault.SizeRange stands = absurd stands
late_refusal face a fault.TextLong stands = absurd stands
late_refusal face a fault.EmptyPicture stands = refl
late_refusal face a fault.PictureLarge stands = refl
late_refusal face a fault.MarginRange stands = absurd stands
late_refusal face a fault.WorkLarge stands = refl

late : (r : Result Face Fault) (a : Job) (j : JobFault) → IsOkAnd r (λ face. IsFontRefusal face a j) → needs_font j
    ≡ true
late (Ok face) a j stands = late_refusal face a j stands
late (Err f) a j stands = absurd stands

-- no picture was made of the bytes read
pub drawing_fails : (w : Wanted) (made : List ℕ → Result (List ℕ) Refused) → IsOfFont w made → (by : Opening) (i : Option Asked) (a : Job)
    (d : DrawFault) (before after out : Option (List ℕ)) (file : List ℕ) (read write : Bool)
    → IsRead before after file read write → IfSome (refusal d) (λ e. made file ≡ Err e) → IfSome (draw_job_fault d)
    (λ j. IsOkAnd (face_at_instance file by i) (λ face. IsFontRefusal face a j)) → CallFails (run_fault_of_draw d)
    (record { left_before = before; left_after = after; read_failed = read; out_before = out; out_after = out; write_failed = write }) w
drawing_fails w made of_made by i a (draw.Font f) before after out file read write r fails extent =
    font_fails w made of_made f before after out file read write r fails
drawing_fails w made of_made by i a (draw.Job j) before after out file read write r fails extent =
    late_job_fails w made of_made j before after out file read write r fails (late (face_at_instance file by i) a j extent)
drawing_fails w made of_made by i a draw.Memory before after out file read write r fails extent =
    memory_fails w made of_made before after out file read write r

pub drawing_job : (r : Opening) (i : Option Asked) (a : Job) (d : DrawFault) (before after : Option (List ℕ)) (file : List ℕ)
    → Consumes before after file → IsAtEnd after → IfSome (draw_job_fault d)
    (λ j. IsOkAnd (face_at_instance file r i) (λ face. IsFontRefusal face a j)) → IfJob {V = Unit {0}} (Err (run_fault_of_draw d))
    (IsJobRefusal r i a before)
drawing_job r i a (draw.Font f) before after file taken end extent = tt
drawing_job r i a (draw.Job j) before after file taken end extent =
    rw (late (face_at_instance file r i) a j extent) (known_of before after file
    (λ file. IsOkAnd (face_at_instance file r i) (λ face. IsFontRefusal face a j)) taken end extent)
drawing_job r i a draw.Memory before after file taken end extent = tt

pub drawing_large : (d : DrawFault) (P : Type 0) → IfLarge {V = Unit {0}} (Err (run_fault_of_draw d)) P
drawing_large (draw.Font f) P = tt
drawing_large (draw.Job j) P = tt
drawing_large draw.Memory P = tt

pub drawing_defects : (V : Type 0) (d : DrawFault) (before after : Option (List ℕ)) (file : List ℕ) (IsOne : List ℕ → Fault → Type 0)
    → Consumes before after file → IsAtEnd after → IfSome (draw_font_fault d) (IsOne file)
    → TellsDefectsOf {V = V} before IsOne (Err (run_fault_of_draw d))
drawing_defects V (draw.Font f) before after file IsOne taken end stands = tells_of_known IsOne before after file
    (Err (run.Font f)) taken end stands
drawing_defects V (draw.Job j) before after file IsOne taken end stands = tells_of_known IsOne before after file
    (Err (run.Job j)) taken end tt
drawing_defects V draw.Memory before after file IsOne taken end stands = tells_of_known IsOne before after file
    (Err run.Memory) taken end tt

-- no lines were made of the bytes read
pub lines_fail : (w : Wanted) (of : List ℕ → Result (List ℕ) Fault) → IsOfFont w (λ file. as_font (of file))
    → (d : FontFault) (before after out : Option (List ℕ)) (file : List ℕ) (read write : Bool)
    → IsRead before after file read write → IfSome (font_fault d) (λ f. of file ≡ Err f)
    → CallFails (run_fault_of_font d)
    (record { left_before = before; left_after = after; read_failed = read; out_before = out; out_after = out; write_failed = write }) w
lines_fail w of of_made (font_of.Font f) before after out file read write r fails = font_fails w
    (λ file. as_font (of file)) of_made f before after out file read write r (rw fails refl)
lines_fail w of of_made font_of.Memory before after out file read write r fails = memory_fails w
    (λ file. as_font (of file)) of_made before after out file read write r

pub lines_job : (d : FontFault) (P : JobFault → Type 0) → IfJob {V = Unit {0}} (Err (run_fault_of_font d)) P
lines_job (font_of.Font f) P = tt
lines_job font_of.Memory P = tt

pub lines_large : (d : FontFault) (P : Type 0) → IfLarge {V = Unit {0}} (Err (run_fault_of_font d)) P
lines_large (font_of.Font f) P = tt
lines_large font_of.Memory P = tt

pub lines_defects : (d : FontFault) (before after : Option (List ℕ)) (file : List ℕ) (IsOne : List ℕ → Fault → Type 0)
    → Consumes before after file → IsAtEnd after → IfSome (font_fault d) (IsOne file)
    → TellsDefectsOf {V = Unit {0}} before IsOne (Err (run_fault_of_font d))
lines_defects (font_of.Font f) before after file IsOne taken end stands = tells_of_known IsOne before after file
    (Err (run.Font f)) taken end stands
lines_defects font_of.Memory before after file IsOne taken end stands = tells_of_known IsOne before after file
    (Err run.Memory) taken end tt
