-- The request of a font, by the font's tables.
use Rattle.std.proofs.Common.{◌≡◌, List, ℕ, Option, Bool, true, false, Result, Ok, Err, inl, inr, ap, nat_lt, length, ◌==◌}
use Rattle.std.specs.Prelude.{IfSome, if◌then◌else◌}
use Rattle.std.specs.Str.{is_utf8}
use Rattle.tt_core.specs.declared.collection.Reading.{Reading}
use Rattle.tt_face.specs.declared.rules.Opening.{Opening}
use Rattle.tt_core.specs.Chains.{came-through}
use Rattle.tt_core.specs.Directory.{HasNo}
use Rattle.tt_core.specs.Faults.{Fault}
use Rattle.tt_core.specs.Limits.{font_limit}
use Rattle.tt_core.specs.Outcomes.{◌>>=◌}
use Rattle.tt_fit.specs.declared.programs.Fit.TheVariants as fit
use Rattle.tt_line.specs.Layout.{text_glyphs}
use Rattle.tt_face.specs.Files.{face_by}
use Rattle.tt_face.specs.Instance.{Asked, face_at_instance}
use Rattle.tt_fit.specs.declared.programs.Fit.{Fit}
use Rattle.tt_strike.specs.Defects.{IsLineDefect, TellsDefects}
use Rattle.tt_strike.specs.Job.{Job, tested}
use Rattle.tt_strike.specs.Refusals.{Refused, as_font, font, large}
use Rattle.tt_face.specs.Faces.{Face}
use Rattle.tt_c_calls.specs.declared.asked.CJob.{CJob}
use Rattle.tt_c_calls.specs.declared.fault.CallFault.{CallFault}
use Rattle.tt_c_calls.specs.declared.fault.CallFault.TheVariants as call
use Rattle.tt_c_calls.specs.Asked.{IsAskedDefect, IsJobFaceDefect, asked, fit_asked, job_fit, job_instance, job_opening, plain_of, text_asked}
use Rattle.tt_c_calls.specs.Bitmaps.{plain_face}
use Rattle.tt_c_calls.specs.Fonts.{face_wanted, job_opened, opened_wanted, plain_opened}
use Rattle.tt_c_calls.specs.Pictures.{made_for}
use Rattle.tt_c_calls.specs.Variations.{axes_most, axes_tested}
use Rattle.tt_c_calls.specs.Refusals.{Refusal, as_call, axes_many, call_font_fault, call_refusal, not_utf8, refused, unknown_fit}
use Rattle.tt_c_calls.proofs.Answered.{by_opening}
use Rattle.tt_c_calls.proofs.StrikeLines.{if_some_more}

-- making the job of a request is never refused as `run` refuses
pub no_fit : (a b c d : Bool) (r : Refused)
    → (if a then Ok fit.Full else if b then Ok fit.None else if c then Ok fit.Fallback
    else if d then Ok fit.Best else Err unknown_fit) ≡ Err (refused r) → ⊥
no_fit true b c d r is = cc
no_fit false true c d r is = cc
no_fit false false true d r is = cc
no_fit false false false true r is = cc
no_fit false false false false r is = cc

no_axes : (b : Bool) (r : Refused) → (if◌then◌else◌ {A = Result (Unit {0}) Refusal} b (Err axes_many) (Ok tt)) ≡ Err (refused r) → ⊥
no_axes true r is = cc
no_axes false r is = cc

no_text : (b : Bool) (text : List ℕ) (r : Refused) → (if b then Ok text else Err not_utf8) ≡ Err (refused r) → ⊥
no_text true text r is = cc
no_text false text r is = cc

neither : {A B C : Type 0} (a : Result A Refusal) (b : Result B Refusal) (make : A → B → C) (r : Refused)
    → (a ≡ Err (refused r) → ⊥) → (b ≡ Err (refused r) → ⊥)
    → (a >>= λ x. b >>= λ y. Ok (make x y)) ≡ Err (refused r) → ⊥
neither (Ok x) (Ok y) make r first second is = cc
neither (Ok x) (Err e) make r first second is = let same : e ≡ refused r = cc in second (ap Err same)
neither (Err e) b make r first second is = let same : e ≡ refused r = cc in first (ap Err same)

pub fit_by_itself : (j : CJob) (r : Refused) → job_fit j ≡ Err (refused r) → ⊥
unfolding job_fit fit_asked axes_tested
fit_by_itself j r is =
    neither (fit_asked j.fit) (axes_tested j.axes) (λ f u. f) r (no_fit (j.fit == 0) (j.fit == 1) (j.fit == 2) (j.fit == 3) r)
    (no_axes (nat_lt axes_most j.axes) r) is

by_itself : (j : CJob) (text : List ℕ) (r : Refused) → asked j text ≡ Err (refused r) → ⊥
unfolding asked text_asked
by_itself j text r is =
    neither (job_fit j) (text_asked text) _ r (fit_by_itself j r) (no_text (is_utf8 text) text r) is

-- the way to fit that a job has is that of its number
pub fit_of_job : (j : CJob) (how : Fit) → job_fit j ≡ Ok how → fit_asked j.fit ≡ Ok how
unfolding job_fit
fit_of_job j how is =
    let by_fit = came-through (fit_asked j.fit) _ how is in
    let by_axes = came-through (axes_tested j.axes) _ how by_fit.rest in
    let same : by_fit.value ≡ how = cc in
    rw (← same) by_fit.first

pub asked_tells : (P : Fault → Type 0) (j : CJob) (text : List ℕ) (f : CallFault)
    → IfSome (call_refusal f) (λ why. asked j text ≡ Err why) → IfSome (call_font_fault f) P
asked_tells P j text (call.Font d) is = absurd (by_itself j text (font d) is)
asked_tells P j text (call.Job d) is = tt
asked_tells P j text call.FontLarge is = tt
asked_tells P j text call.UnknownFit is = tt
asked_tells P j text call.LineEnds is = tt
asked_tells P j text call.UnknownAlign is = tt
asked_tells P j text call.AxesMany is = tt
asked_tells P j text call.WidthRange is = tt
asked_tells P j text call.BoxRange is = tt
asked_tells P j text call.BoxSmall is = tt
asked_tells P j text call.NotUtf8 is = tt
asked_tells P j text call.Memory is = tt

-- a job that passes its tests is for its font's tables
pub of_tables : {X : Type 0} (make : Face → Job → Result X Refused) (j : CJob) (text file : List ℕ) (a : Job)
    → asked j text ≡ Ok a → tested a ≡ Ok tt
    → (asked j text >>= λ a. as_call (made_for (λ face. make face a) j a file))
    ≡ (job_opened j a.fit file >>= λ face. as_call (make face a))
of_tables make j text file a is passes =
    rw is (by_opening (tested a) (λ face. make face a) (job_opening j a.fit) (job_instance j) file passes)

read_by : (is_large : Bool) (read : Result Face Fault) (face : Face)
    → as_call (if is_large then Err large else as_font read) ≡ Ok face → read ≡ Ok face
read_by true read face is = absurd cc
read_by false (Ok own) face is = cc
read_by false (Err f) face is = absurd cc

-- the requested tables are those of the file
pub face_read : (r : Reading) (file : List ℕ) (face : Face) → face_wanted r file ≡ Ok face → face_by file r ≡ Ok face
unfolding face_wanted
face_read r file face is = read_by (nat_lt font_limit (length file)) (face_by file r) face is

pub face_opened : (o : Opening) (i : Option Asked) (file : List ℕ) (face : Face) → opened_wanted o i file ≡ Ok face
    → face_at_instance file o i ≡ Ok face
unfolding opened_wanted
face_opened o i file face is = read_by (nat_lt font_limit (length file)) (face_at_instance file o i) face is

pub job_face_opened : (j : CJob) (how : Fit) (file : List ℕ) (face : Face) → job_opened j how file ≡ Ok face
    → face_at_instance file (job_opening j how) (job_instance j) ≡ Ok face
job_face_opened j how file face is = face_opened (job_opening j how) (job_instance j) file face is

pub plain_face_opened : (j : CJob) (how : Fit) (file : List ℕ) (face : Face) → plain_opened j how file ≡ Ok face
    → plain_face file j how ≡ Ok face
plain_face_opened j how file face is = face_opened (plain_of j how) (job_instance j) file face is

-- a defect of a font's tables is one that the job meets
pub face_defects : (j : CJob) (text file : List ℕ) (a : Job) (e : CallFault) → asked j text ≡ Ok a
    → IfSome (call_font_fault e) (IsJobFaceDefect j a.fit file)
    → IfSome (call_font_fault e) (IsAskedDefect j text file)
face_defects j text file a e is = if_some_more (call_font_fault e) _ _ (λ f h. rw is (inl h))

-- statements about a font's tables are statements about the file
pub asked_defects : {V : Type 0} (j : CJob) (text file : List ℕ) (a : Job) (face : Face) (r : Result V CallFault)
    → asked j text ≡ Ok a → job_opened j a.fit file ≡ Ok face
    → HasNo (IsJobFaceDefect j a.fit file)
    → TellsDefects call_font_fault (IsLineDefect face a (text_glyphs face.cmap a.text)) r
    → TellsDefects call_font_fault (IsAskedDefect j text file) r
asked_defects j text file a face (Ok v) is read none line =
    rw is (λ fault defect. elim (rw (job_face_opened j a.fit file face read) at defect) [
      | inl tables ↦ none fault tables
      | inr glyphs ↦ line fault glyphs
    ])
asked_defects j text file a face (Err (call.Font d)) is read none line =
    rw (is, job_face_opened j a.fit file face read) (inr line)
asked_defects j text file a face (Err (call.Job d)) is read none line = tt
asked_defects j text file a face (Err call.FontLarge) is read none line = tt
asked_defects j text file a face (Err call.UnknownFit) is read none line = tt
asked_defects j text file a face (Err call.LineEnds) is read none line = tt
asked_defects j text file a face (Err call.UnknownAlign) is read none line = tt
asked_defects j text file a face (Err call.AxesMany) is read none line = tt
asked_defects j text file a face (Err call.WidthRange) is read none line = tt
asked_defects j text file a face (Err call.BoxRange) is read none line = tt
asked_defects j text file a face (Err call.BoxSmall) is read none line = tt
asked_defects j text file a face (Err call.NotUtf8) is read none line = tt
asked_defects j text file a face (Err call.Memory) is read none line = tt
