-- No part of the standard: the promises of a call about its answer and both devices, for each answer.
use Rattle.std.specs.Prelude.{◌≡◌, ℕ, Bool, true, false, List, IfSome, Result, Ok, Err, ⊤}
use Rattle.tt_core.specs.declared.fault.JobFault.{JobFault}
use Rattle.tt_core.specs.Outcomes.{◌>>=◌}
use Rattle.tt_strike.specs.Refusals.{Refused, as_job, font, job, large, needs_font}
use Rattle.tt_render_streams.specs.declared.fault.RunFault.{RunFault}
use Rattle.tt_render_streams.specs.declared.fault.RunFault.TheVariants as run
use Rattle.tt_render_streams.specs.Traffic.{ReaderFails, ReadsNothing, ReadsSome, ReadsToEnd, SendsAll, SendsFirst, Traffic, WriterFails, WriterServes, WritesNothing, if_readable}

-- the result by a font, if it is not too large to be read
abbrev pub of_font : {X : Type 0} → (List ℕ → Result X Refused) → List ℕ → Result X Refused
of_font made file = if_readable large made file

-- the bytes for a font file, or the refusal: the job is tested first, then the file's size
abbrev pub outcome_of : Result (Unit {0}) JobFault → (List ℕ → Result (List ℕ) Refused) → List ℕ
    → Result (List ℕ) Refused
outcome_of tested made file = as_job tested >>= λ u. of_font made file

-- the definition of a call: the tests of the job alone, and the bytes for a font file
pub record Wanted : Type 0 where
  pub tested : Result (Unit {0}) JobFault
  pub bytes : List ℕ → Result (List ℕ) Refused

-- the job passed its tests
abbrev pub Passes : Wanted → Type 0
Passes w = w.tested ≡ Ok tt

-- the definition gives this refusal for the reader's bytes
abbrev pub RefusedFor : Traffic → Wanted → Refused → Type 0
RefusedFor t w why = IfSome t.left_before (λ file. w.bytes file ≡ Err why)

-- a fact of the bytes that are defined for a font file
abbrev pub WithBytes : (List ℕ → Result (List ℕ) Refused) → (List ℕ → Type 0) → List ℕ → Type 0
WithBytes wanted Q file = (bytes : List ℕ) × (wanted file ≡ Ok bytes) × Q bytes

-- a fact of the bytes that are defined for the reader's bytes
abbrev pub WithBytesFor : Traffic → Wanted → (List ℕ → Type 0) → Type 0
WithBytesFor t w Q = IfSome t.left_before (WithBytes w.bytes Q)

-- a job that fails its tests is refused whatever the reader has
abbrev pub RefusedAtOnce : JobFault → Wanted → Type 0
RefusedAtOnce j w = (w.tested ≡ Err j) × ((file : List ℕ) → w.bytes file ≡ Err (job j))

-- a refused job, by the reader's bytes or at once
abbrev pub JobFails : Bool → JobFault → Traffic → Wanted → Type 0
JobFails true j t w = Passes w × RefusedFor t w (job j) × ReadsToEnd t × WritesNothing t
JobFails false j t w = RefusedAtOnce j w × ReadsNothing t × WritesNothing t

-- a call failed with this fault
abbrev pub CallFails : RunFault → Traffic → Wanted → Type 0
CallFails (run.Font f) t w = Passes w × RefusedFor t w (font f) × ReadsToEnd t × WritesNothing t
CallFails (run.Job j) t w = JobFails (needs_font j) j t w
CallFails run.Read t w = Passes w × ReaderFails t × WritesNothing t
CallFails run.FontLarge t w = Passes w × RefusedFor t w large × ReadsSome t × WritesNothing t
CallFails (run.Write sent) t w = Passes w × WithBytesFor t w (SendsFirst sent t) × ReadsToEnd t × WriterFails t
CallFails run.Memory t w = Passes w × ReadsSome t × WritesNothing t

-- a call wrote all bytes that are defined for the reader's bytes, or failed with its fault
abbrev pub CallGives : {V : Type 0} → Result V RunFault → Traffic → Wanted → Type 0
CallGives (Ok v) t w = Passes w × WithBytesFor t w (SendsAll t) × ReadsToEnd t × WriterServes t
CallGives (Err e) t w = CallFails e t w

-- a fact of a refusal of the job
abbrev pub IfJob : {V : Type 0} → Result V RunFault → (JobFault → Type 0) → Type 0
IfJob (Err (run.Job j)) P = P j
IfJob r P = ⊤

-- a fact that holds where the font was too large
abbrev pub IfLarge : {V : Type 0} → Result V RunFault → Type 0 → Type 0
IfLarge (Err run.FontLarge) P = P
IfLarge r P = ⊤
