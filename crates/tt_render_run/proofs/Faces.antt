-- The claims of a font's strike about a line, as claims about the font's file.
use Rattle.std.proofs.Common.{◌≡◌, List, ℕ, Option, Result, Ok, Err, inl, inr, refl, arith}
use Rattle.std.specs.Prelude.{IfSome, IsOkAnd}
use Rattle.tt_face.specs.declared.rules.Opening.{Opening}
use Rattle.tt_core.specs.declared.fault.JobFault.{JobFault}
use Rattle.tt_core.specs.declared.fault.JobFault.TheVariants as job_of
use Rattle.tt_core.specs.Directory.{HasNo}
use Rattle.tt_core.specs.Faults.{Fault}
use Rattle.tt_core.specs.Outcomes.{◌>>=◌, draw_font_fault, draw_job_fault}
use Rattle.tt_line.specs.Layout.{text_glyphs}
use Rattle.tt_face.specs.Instance.{Asked, IsDefectAtInstance, face_at_instance}
use Rattle.tt_strike.specs.Defects.{IsFontRefusal, IsLineDefect, IsLineRefusal, IsRunDefect}
use Rattle.tt_strike.specs.Job.{Job, IsJob, IsSizeRefusal, size_tested, tested}
use Rattle.tt_strike.specs.Picture.{line_outcome, pictured_by}
use Rattle.tt_strike.specs.Refusals.{Refused, as_job, refusal, job}
use Rattle.tt_strike.specs.Refusals as outcome
use Rattle.tt_face.specs.Faces.{Face}
use Rattle.tt_core.specs.declared.draw_fault.DrawFault.{DrawFault}
use Rattle.tt_core.specs.declared.draw_fault.DrawFault.TheVariants as draw

pub no_defect : (r : Opening) (i : Option Asked) (a : Job) (file : List ℕ) (face : Face) → face_at_instance file r i ≡ Ok face
    → HasNo (IsDefectAtInstance file r i) → HasNo (IsLineDefect face a (text_glyphs face.cmap a.text)) → HasNo (IsRunDefect r i a file)
no_defect r i a file face there none line = λ fault defect. elim defect [
  | inl tables ↦ none fault tables
  | inr glyphs ↦ line fault (rw there at glyphs)
]

pub defect_tells : (r : Opening) (i : Option Asked) (a : Job) (file : List ℕ) (face : Face) (e : DrawFault) → face_at_instance file r i ≡ Ok face
    → IfSome (draw_font_fault e) (IsLineDefect face a (text_glyphs face.cmap a.text))
    → IfSome (draw_font_fault e) (IsRunDefect r i a file)
defect_tells r i a file face (draw.Font f) there stands = inr (rw there stands)
defect_tells r i a file face (draw.Job j) there stands = tt
defect_tells r i a file face draw.Memory there stands = tt

-- a line of a job within its limits is refused by its font
by_font : (a : Job) (face : Face) (j : JobFault) → IsJob a → IsLineRefusal face a j → IsFontRefusal face a j
by_font a face job_of.SizeRange valid stands = absurd (elim stands [
  | inl small ↦ omega (arith, small, valid.low)
  | inr large ↦ omega (arith, large, valid.high)
])
by_font a face job_of.MarginRange valid stands = absurd (omega (arith, stands, valid.margin))
by_font a face job_of.TextLong valid stands = absurd (omega (arith, stands, valid.text))
by_font a face job_of.EmptyPicture valid stands = stands
by_font a face job_of.PictureLarge valid stands = stands
by_font a face job_of.WorkLarge valid stands = stands

pub refusal_tells : (r : Opening) (i : Option Asked) (a : Job) (file : List ℕ) (face : Face) (e : DrawFault) → IsJob a
    → face_at_instance file r i ≡ Ok face → IfSome (draw_job_fault e) (IsLineRefusal face a)
    → IfSome (draw_job_fault e) (λ j. IsOkAnd (face_at_instance file r i) (λ face. IsFontRefusal face a j))
refusal_tells r i a file face (draw.Font f) valid there stands = tt
refusal_tells r i a file face (draw.Job j) valid there stands = rw there (by_font a face j valid stands)
refusal_tells r i a file face draw.Memory valid there stands = tt

-- a size out of range is the first refusal of a job
first_refused : (t : Result (Unit {0}) JobFault) (f : Unit {0} → Result (Unit {0}) JobFault) (r : Refused)
    → as_job t ≡ Err r → as_job (t >>= f) ≡ Err r
first_refused (Ok u) f r refused = absurd cc
first_refused (Err j) f r refused = refused

size_first : (a : Job) (face : Face) (r : Refused) → as_job (size_tested a.ppem) ≡ Err r → line_outcome face a ≡ Err r
unfolding line_outcome tested
size_first a face r refused = rw (first_refused (size_tested a.ppem) _ r refused) refl

pub size_stops : (a : Job) (face : Face) (e : DrawFault)
    → IfSome (refusal e) (λ r. as_job (size_tested a.ppem) ≡ Err r) → IfSome (refusal e) (λ r. line_outcome face a ≡ Err r)
size_stops a face (draw.Font f) refused = size_first a face (outcome.font f) refused
size_stops a face (draw.Job j) refused = size_first a face (job j) refused
size_stops a face draw.Memory refused = tt

pub size_refuses : (a : Job) (face : Face) (e : DrawFault) → IfSome (draw_job_fault e) (IsSizeRefusal a.ppem)
    → IfSome (draw_job_fault e) (IsLineRefusal face a)
size_refuses a face (draw.Font f) stands = tt
size_refuses a face (draw.Job j) stands = rw stands.0 stands.1
size_refuses a face draw.Memory stands = tt

-- a refused size names no defect of a font
pub size_tells : (P : Fault → Type 0) (e : DrawFault) → IfSome (draw_font_fault e) (λ _. ⊥) → IfSome (draw_font_fault e) P
size_tells P (draw.Font f) none = absurd none
size_tells P (draw.Job j) none = tt
size_tells P draw.Memory none = tt

pub within : (a : Job) (face : Face) → tested a ≡ Ok tt → line_outcome face a ≡ pictured_by face a
unfolding line_outcome
within a face passes = rw passes refl
