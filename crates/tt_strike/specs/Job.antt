-- No part of the standard: the job of a call, its tests before the font is read, and its face (profile).
use Rattle.std.specs.Prelude.{◌≡◌, refl, ℕ, ◌<◌, ◌≤◌, ◌||◌, nat_lt, if◌then◌else◌, List, length, chars, codes, Option, Result, Ok, Err, IsOkAnd, ◌⊎◌}
use Rattle.tt_face.specs.declared.rules.Opening.{Opening}
use Rattle.tt_core.specs.declared.fault.JobFault.{JobFault}
use Rattle.tt_core.specs.declared.fault.JobFault.TheVariants as fault
use Rattle.tt_core.specs.Faults.{Fault}
use Rattle.tt_core.specs.Limits.{text_limit, size_limit, margin_limit}
use Rattle.tt_core.specs.Outcomes.{◌>>=◌}
use Rattle.tt_face.specs.Faces.{Face}
use Rattle.tt_face.specs.Instance.{Asked, IsDefectAtInstance, face_at_instance}
use Rattle.tt_fit.specs.declared.programs.Fit.{Fit}
use Rattle.tt_fit.specs.declared.programs.Fit.TheVariants as fit
use Rattle.tt_strike.specs.Refusals.{Refused, as_font}
use Rattle.tt_strike.specs.declared.job.Job as declared

-- a text, the pixels per em, the pixels round the line, and how outlines are fitted. How the face is opened, and the
-- requested instance, stand beside the job: once the face is open, nothing else depends on them
pub record Job : Type 0 where
  pub text : List ℕ
  pub ppem : ℕ
  pub margin : ℕ
  pub fit : Fit

-- the job of a text with a margin, at a size and with a fit
abbrev pub job_for : ℕ → Fit → List ℕ → ℕ → Job
job_for ppem how text margin = record { text = text; ppem = ppem; margin = margin; fit = how }

abbrev pub job_view : declared.Job → Job
job_view j = job_for j.ppem j.fit j.text.now j.margin

-- the limit of a text, in characters
unfoldable pub text_tested : List ℕ → Result (Unit {0}) JobFault
text_tested text = if nat_lt text_limit (length (chars text)) then Err fault.TextLong else Ok tt

-- the limits of a size in pixels per em, and of a margin in pixels
unfoldable pub size_tested : ℕ → Result (Unit {0}) JobFault
size_tested ppem = if nat_lt ppem 1 || nat_lt size_limit ppem then Err fault.SizeRange else Ok tt

unfoldable pub margin_tested : ℕ → Result (Unit {0}) JobFault
margin_tested margin = if nat_lt margin_limit margin then Err fault.MarginRange else Ok tt

-- the limits of a job, in the order of their tests
unfoldable pub tested : Job → Result (Unit {0}) JobFault
tested a = size_tested a.ppem >>= λ u. margin_tested a.margin >>= λ u. text_tested a.text

-- a job within its limits
pub record IsJob (a : Job) : Type 0 where
  pub low : 1 ≤ a.ppem
  pub high : a.ppem ≤ size_limit
  pub margin : a.margin ≤ margin_limit
  pub text : length (chars a.text) ≤ text_limit

-- the fact that refuses a size
abbrev pub IsSizeRefusal : ℕ → JobFault → Type 0
IsSizeRefusal ppem j = (j ≡ fault.SizeRange) × ((ppem < 1) ⊎ (size_limit < ppem))

-- the fact that refuses a job before the font is read
abbrev pub IsTestRefusal : Job → JobFault → Type 0
IsTestRefusal a fault.SizeRange = (a.ppem < 1) ⊎ (size_limit < a.ppem)
IsTestRefusal a fault.MarginRange = margin_limit < a.margin
IsTestRefusal a fault.TextLong = text_limit < length (chars a.text)
IsTestRefusal a j = ⊥

-- what a job makes of the face of a font file, at the requested instance
abbrev pub by_face : {X : Type 0} → (Face → Job → Result X Refused) → Opening → Option Asked → Job → List ℕ → Result X Refused
by_face make r i a file = as_font (face_at_instance file r i) >>= λ face. make face a

-- a fact of a job by that face, if there is one
abbrev pub ByFace : (Face → Job → Type 0) → Opening → Option Asked → Job → List ℕ → Type 0
ByFace P r i a file = IsOkAnd (face_at_instance file r i) (λ face. P face a)

-- a defect of a font file as it is opened for a job: one of the face or of its instance, or one of this kind by the face
abbrev pub IsFontDefect : (Face → Job → Fault → Type 0) → Opening → Option Asked → Job → List ℕ → Fault → Type 0
IsFontDefect IsOne r i a file fault = IsDefectAtInstance file r i fault ⊎ ByFace (λ face a. IsOne face a fault) r i a file

-- worked values
of_size : ℕ → Job
of_size ppem = job_for ppem fit.None (codes "A") 0

no_size : tested (of_size 0) ≡ Err fault.SizeRange
unfolding of_size tested size_tested
no_size = refl

a_larger_size : tested (of_size 301) ≡ Err fault.SizeRange
unfolding of_size tested size_tested
a_larger_size = refl

size_before_margin : tested (record (of_size 301) { margin = 65 }) ≡ Err fault.SizeRange
unfolding of_size tested size_tested
size_before_margin = refl
