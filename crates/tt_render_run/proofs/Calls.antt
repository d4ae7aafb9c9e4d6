-- The promises of a call's steps, joined.
use Rattle.std.proofs.Common.{◌≡◌, ℕ, ◌<◌, ◌≤◌, Bool, true, false, nat_lt, List, length, Option, Some, None, IfSome, Result, Ok, Err, refl, ◌∙◌, arith, subst}
use Rattle.std.proofs.lemmas.Bool.Decides.{nat_tests}
use Rattle.std.specs.Io.KnownBytes.{Consumes, IsAtEnd, Keeps}
use Rattle.tt_core.specs.declared.collection.Reading.{Reading}
use Rattle.tt_face.specs.declared.rules.Opening.{Opening}
use Rattle.tt_face.specs.Instance.{Asked}
use Rattle.tt_core.specs.declared.fault.JobFault.{JobFault}
use Rattle.tt_core.specs.Faults.{Fault}
use Rattle.tt_core.specs.Limits.{font_limit}
use Rattle.tt_render_streams.specs.declared.fault.RunFault.{RunFault}
use Rattle.tt_render_streams.specs.declared.fault.RunFault.TheVariants as run
use Rattle.tt_strike.specs.Job.{Job, tested, text_tested}
use Rattle.tt_render_run.specs.Defects.{CallTellsDefects, TellsDefectsOf}
use Rattle.tt_render_run.specs.File.{file_pictured}
use Rattle.tt_render_run.specs.MapLines.{lines_of, map_outcome}
use Rattle.tt_strike.specs.Refusals.{Refused, font, job, large, as_font, needs_font}
use Rattle.tt_render_run.specs.Outcome.{of_font, Wanted, WithBytes, CallFails}
use Rattle.tt_render_run.specs.Run.{run_outcome}
use Rattle.tt_render_streams.specs.Reading.{ReadFails}
use Rattle.tt_render_streams.proofs.Known.{consumes_all}

-- the definition for a font is its result, if the font is not too large and the job passed its own tests
pub record IsOfFont (w : Wanted) (made : List ℕ → Result (List ℕ) Refused) : Type 0 where
  pub tested : w.tested ≡ Ok tt
  pub same : (file : List ℕ) → w.bytes file ≡ of_font made file

pub map_is_of_font : (r : Reading) (i : Option Asked) (text : List ℕ) → text_tested text ≡ Ok tt → IsOfFont
    (record { tested = text_tested text; bytes = map_outcome r i text }) (λ file. as_font (lines_of r i file text))
unfolding map_outcome
map_is_of_font r i text good = record { tested = good; same = λ file. rw good refl }

pub run_is_of_font : (r : Opening) (i : Option Asked) (a : Job) → tested a ≡ Ok tt
    → IsOfFont (record { tested = tested a; bytes = run_outcome r i a }) (file_pictured r i a)
unfolding run_outcome
run_is_of_font r i a good = record { tested = good; same = λ file. rw good refl }

-- a job that is refused at once is refused whatever the font
pub map_refused : (r : Reading) (i : Option Asked) (text : List ℕ) (j : JobFault) → text_tested text ≡ Err j → (file : List ℕ)
    → map_outcome r i text file ≡ Err (job j)
unfolding map_outcome
map_refused r i text j refused file = rw refused refl

pub run_refused : (r : Opening) (i : Option Asked) (a : Job) (j : JobFault) → tested a ≡ Err j → (file : List ℕ)
    → run_outcome r i a file ≡ Err (job j)
unfolding run_outcome
run_refused r i a j refused file = rw refused refl

too_large : (made : List ℕ → Result (List ℕ) Refused) (file : List ℕ) → font_limit < length file → of_font made file
    ≡ Err large
too_large made file big = let is_big : nat_lt font_limit (length file) ≡ true = grind (arith, nat_tests) in
    rw is_big refl

small_enough : (made : List ℕ → Result (List ℕ) Refused) (file : List ℕ) → length file ≤ font_limit → of_font made file
    ≡ made file
small_enough made file small = let fits : nat_lt font_limit (length file) ≡ false = grind (arith, nat_tests) in
    rw fits refl

pub keeps_same : (a : Option (List ℕ)) → Keeps a a
keeps_same None = tt
keeps_same (Some xs) = refl

pub if_some : {X : Type 0} (o : Option X) (P : X → Type 0) → ((x : X) → P x) → IfSome o P
if_some None P all = tt
if_some (Some x) P all = all x

if_some_more : {X : Type 0} (o : Option X) (P Q : X → Type 0) → ((x : X) → P x → Q x) → IfSome o P → IfSome o Q
if_some_more None P Q more h = tt
if_some_more (Some x) P Q more h = more x h

pub job_fails : (w : Wanted) (j : JobFault) (left out : Option (List ℕ)) (read write : Bool) → w.tested ≡ Err j
    → ((file : List ℕ) → w.bytes file ≡ Err (job j)) → needs_font j ≡ false → read ≡ false → write ≡ false
    → CallFails (run.Job j)
    (record { left_before = left; left_after = left; read_failed = read; out_before = out; out_after = out; write_failed = write }) w
job_fails w j left out read write refused whatever first reader_serves writer_serves = rw first
    ((refused, whatever), (keeps_same left, reader_serves), (keeps_same out, writer_serves))

-- the outcome depends only on the bytes read to the end
pub outcome_known : (w : Wanted) (made : List ℕ → Result (List ℕ) Refused) → IsOfFont w made
    → (before after : Option (List ℕ)) (file : List ℕ) → Consumes before after file → IsAtEnd after
    → length file ≤ font_limit → IfSome before (λ all. w.bytes all ≡ made file)
outcome_known w made of_made None after file taken end small = tt
outcome_known w made of_made (Some xs) after file taken end small =
    let all = consumes_all xs after file taken end in rw (← all) (of_made.same file ∙ small_enough made file small)

pub reading_fails : (w : Wanted) (made : List ℕ → Result (List ℕ) Refused) → IsOfFont w made → (e : RunFault)
    (before after out : Option (List ℕ)) (read write : Bool) → ReadFails e before after read → write ≡ false
    → CallFails e (record
    { left_before = before; left_after = after; read_failed = read; out_before = out; out_after = out; write_failed = write }) w
reading_fails w made of_made (run.Font f) before after out read write fails serves = absurd fails
reading_fails w made of_made (run.Job j) before after out read write fails serves = absurd fails
reading_fails w made of_made run.Read before after out read write fails serves =
    (of_made.tested, fails, (keeps_same out, serves))
reading_fails w made of_made run.FontLarge before after out read write fails serves =
    (of_made.tested, if_some_more before (λ file. font_limit < length file) (λ file. w.bytes file ≡ Err large) (λ file big. of_made.same file ∙ too_large made file big) fails.0, (fails.1, fails.2), (keeps_same out, serves))
reading_fails w made of_made (run.Write sent) before after out read write fails serves = absurd fails
reading_fails w made of_made run.Memory before after out read write fails serves =
    (of_made.tested, fails, (keeps_same out, serves))

-- the reader's bytes were read to the end, and nothing was written
pub record IsRead (before after : Option (List ℕ)) (file : List ℕ) (read write : Bool) : Type 0 where
  pub taken : Consumes before after file
  pub end : IsAtEnd after
  pub small : length file ≤ font_limit
  pub reader_serves : read ≡ false
  pub writer_serves : write ≡ false

-- a stop in making the bytes stops the call
pub font_fails : (w : Wanted) (made : List ℕ → Result (List ℕ) Refused) → IsOfFont w made
    → (f : Fault) (before after out : Option (List ℕ)) (file : List ℕ) (read write : Bool)
    → IsRead before after file read write → made file ≡ Err (font f) → CallFails (run.Font f)
    (record { left_before = before; left_after = after; read_failed = read; out_before = out; out_after = out; write_failed = write }) w
font_fails w made of_made f before after out file read write r fails =
    (of_made.tested, if_some_more before (λ all. w.bytes all ≡ made file) (λ all. w.bytes all ≡ Err (font f)) (λ all h. h ∙ fails) (outcome_known w made of_made before after file r.taken r.end r.small), (r.end, r.reader_serves), (keeps_same out, r.writer_serves))

pub late_job_fails : (w : Wanted) (made : List ℕ → Result (List ℕ) Refused) → IsOfFont w made → (j : JobFault)
    (before after out : Option (List ℕ)) (file : List ℕ) (read write : Bool) → IsRead before after file read write
    → made file ≡ Err (job j) → needs_font j ≡ true → CallFails (run.Job j)
    (record { left_before = before; left_after = after; read_failed = read; out_before = out; out_after = out; write_failed = write }) w
late_job_fails w made of_made j before after out file read write r fails late =
    rw late (of_made.tested, if_some_more before (λ all. w.bytes all ≡ made file) (λ all. w.bytes all ≡ Err (job j)) (λ all h. h ∙ fails) (outcome_known w made of_made before after file r.taken r.end r.small), (r.end, r.reader_serves), (keeps_same out, r.writer_serves))

pub memory_fails : (w : Wanted) (made : List ℕ → Result (List ℕ) Refused) → IsOfFont w made
    → (before after out : Option (List ℕ)) (file : List ℕ) (read write : Bool) → IsRead before after file read write
    → CallFails run.Memory
    (record { left_before = before; left_after = after; read_failed = read; out_before = out; out_after = out; write_failed = write }) w
memory_fails w made of_made before after out file read write r =
    (of_made.tested, ((file, r.taken), r.reader_serves), (keeps_same out, r.writer_serves))

-- a fact of the bytes made is one of the bytes to write
pub with_bytes : (w : Wanted) (made : List ℕ → Result (List ℕ) Refused) → IsOfFont w made → (Q : List ℕ → Type 0)
    (before after : Option (List ℕ)) (file bytes : List ℕ) → Consumes before after file → IsAtEnd after
    → length file ≤ font_limit → made file ≡ Ok bytes → Q bytes → IfSome before (WithBytes w.bytes Q)
with_bytes w made of_made Q before after file bytes taken end small is_made holds =
    if_some_more before (λ all. w.bytes all ≡ made file) (WithBytes w.bytes Q) (λ all h. (bytes, h ∙ is_made, holds))
    (outcome_known w made of_made before after file taken end small)

-- a claim about the defects of the bytes read is one about the reader's
pub tells_of_known : {V : Type 0} (IsOne : List ℕ → Fault → Type 0) (before after : Option (List ℕ)) (file : List ℕ)
    (result : Result V RunFault) → Consumes before after file → IsAtEnd after → CallTellsDefects (IsOne file) result
    → TellsDefectsOf before IsOne result
tells_of_known IsOne None after file result taken end tells = tt
tells_of_known {V} IsOne (Some xs) after file result taken end tells =
    let same = consumes_all xs after file taken end in
    let P : List ℕ → Type 0 = λ all. CallTellsDefects (IsOne all) result in subst P same tells
