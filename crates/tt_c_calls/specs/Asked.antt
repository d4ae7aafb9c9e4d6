-- No part of the standard: the requests of a call of C (profile).
use Rattle.std.specs.Prelude.{◌≡◌, refl, ℕ, ◌-◌, ◌==◌, if◌then◌else◌, Bool, not, ◌||◌, List, [], ◌∷◌, map, Option, Some, None, Result, Ok, Err, IsOkAnd}
use Rattle.std.specs.Str.{is_utf8}
use Rattle.tt_core.specs.declared.collection.Reading.{Reading}
use Rattle.tt_core.specs.declared.collection.Reading.TheVariants as reading
use Rattle.tt_core.specs.Faults.{Fault}
use Rattle.tt_core.specs.Outcomes.{◌>>=◌}
use Rattle.tt_face.specs.declared.rules.Opening.{Opening}
use Rattle.tt_fit.specs.declared.programs.Fit.{Fit}
use Rattle.tt_fit.specs.declared.programs.Fit.TheVariants as fit
use Rattle.tt_face.specs.Instance.{Asked, IsDefectAtInstance}
use Rattle.tt_face.specs.Rules.{plain_opening}
use Rattle.tt_metrics.specs.declared.heights.Heights.{Heights}
use Rattle.tt_metrics.specs.declared.heights.Heights.TheVariants as heights
use Rattle.tt_render_texts.specs.Readings.{fit_reading, reading_asked}
use Rattle.tt_strike.specs.Defects.{IsRunDefect}
use Rattle.tt_strike.specs.Job.{Job, job_for}
use Rattle.tt_c_calls.specs.declared.asked.CJob.{CJob}
use Rattle.tt_c_calls.specs.Refusals.{Refusal, not_utf8, unknown_fit}
use Rattle.tt_c_calls.specs.Variations.{axes_tested, instance_asked}

-- the way to fit of a number
unfoldable pub fit_asked : ℕ → Result Fit Refusal
fit_asked n =
    if n == 0 then Ok fit.Full
    else if n == 1 then Ok fit.None
    else if n == 2 then Ok fit.Fallback
    else if n == 3 then Ok fit.Best
    else Err unknown_fit

-- bytes that are to be a text
unfoldable pub text_asked : List ℕ → Result (List ℕ) Refusal
text_asked text = if is_utf8 text then Ok text else Err not_utf8

-- the way to fit of a job; the number of its values of axes is tested behind it
unfoldable pub job_fit : CJob → Result Fit Refusal
job_fit j = fit_asked j.fit >>= λ f. axes_tested j.axes >>= λ u. Ok f

-- the job of a text; the way to fit and the number of values are tested first
unfoldable pub asked : CJob → List ℕ → Result Job Refusal
asked j text =
    job_fit j >>= λ f.
    text_asked text >>= λ t.
    Ok (job_for j.size f t j.margin)

-- whether the picture is to be enlarged so that no ink is cut
abbrev pub grows : CJob → Bool
grows j = not (j.grow == 0)

-- the face that a number names: none for 0, face n for n + 1
abbrev pub face_named : ℕ → Option ℕ
face_named n = if n == 0 then None else Some (n - 1)

-- the reading of a call that takes a face and no job
abbrev pub face_reading : ℕ → Reading
face_reading n = reading_asked (face_named n) reading.Strict

-- the reading of a job with a way to fit
abbrev pub job_reading : CJob → Fit → Reading
job_reading j how = reading_asked (face_named j.face) (fit_reading how)

-- whether the text of a job is read widely, so that variation selectors belong to characters
abbrev pub reads_widely : CJob → Bool
reads_widely j = not (j.face == 0) || (j.fit == 3)

-- how heights are rounded, by a number that is 0 or not
abbrev pub heights_asked : ℕ → Heights
heights_asked n = if n == 0 then heights.Exact else heights.Rounded

-- how the face of a job is opened, with a way to fit
abbrev pub job_opening : CJob → Fit → Opening
job_opening j how = record {
  reading = job_reading j how;
  rules = record { heights = heights_asked j.rounded; kerned = not (j.kern == 0) };
}

-- the instance that the face of a job is opened at
abbrev pub job_instance : CJob → Option Asked
job_instance j = instance_asked j.instance j.axes j.axis

-- how the face of a job is opened for calls that lay out no line
abbrev pub plain_of : CJob → Fit → Opening
plain_of j how = plain_opening (job_reading j how)

-- a defect of a font that the job of a text meets
abbrev pub IsAskedDefect : CJob → List ℕ → List ℕ → Fault → Type 0
IsAskedDefect j text font f = IsOkAnd (asked j text) (λ a. IsRunDefect (job_opening j a.fit) (job_instance j) a font f)

-- a defect of the tables that every text of a job needs, or of those of its instance
abbrev pub IsJobFaceDefect : CJob → Fit → List ℕ → Fault → Type 0
IsJobFaceDefect j how font f = IsDefectAtInstance font (job_opening j how) (job_instance j) f

abbrev pub IsPlainFaceDefect : CJob → Fit → List ℕ → Fault → Type 0
IsPlainFaceDefect j how font f = IsDefectAtInstance font (plain_of j how) (job_instance j) f

abbrev pub IsAskedFaceDefect : CJob → List ℕ → Fault → Type 0
IsAskedFaceDefect j font f = IsOkAnd (job_fit j) (λ how. IsJobFaceDefect j how font f)

-- worked values
by_its_programs : fit_asked 0 ≡ Ok fit.Full
unfolding fit_asked
by_its_programs = refl

with_dropouts : fit_asked 3 ≡ Ok fit.Best
unfolding fit_asked
with_dropouts = refl

none_of_the_four : fit_asked 4 ≡ Err unknown_fit
unfolding fit_asked
none_of_the_four = refl

no_face_and_the_first_two : map face_reading (0 ∷ 1 ∷ 2 ∷ []) ≡ reading.Strict ∷ reading.Wide 0 ∷ reading.Wide 1 ∷ []
no_face_and_the_first_two = refl
