-- No part of the standard: a font opened by a call of C, and the faces of its file counted (profile).
use Rattle.std.specs.Prelude.{◌≡◌, ◌≢◌, ℕ, List, Option, Result, IsOkAnd}
use Rattle.tt_core.specs.Collections.{IsOffsetDefect, count_of}
use Rattle.tt_core.specs.declared.collection.Reading.{Reading}
use Rattle.tt_face.specs.declared.rules.Opening.{Opening}
use Rattle.tt_core.specs.declared.collection.Reading.TheVariants as reading
use Rattle.tt_face.specs.Files.{face_by, IsFaceDefectBy}
use Rattle.tt_face.specs.Instance.{Asked, face_at_instance}
use Rattle.tt_fit.specs.declared.programs.Fit.{Fit}
use Rattle.tt_metrics.specs.Metrics.{Metrics, ascent_of, descent_of, glyphs_of, line_gap_of, units_per_em_of}
use Rattle.tt_render_run.specs.Outcome.{of_font}
use Rattle.tt_strike.specs.Refusals.{as_font}
use Rattle.tt_face.specs.Faces.{Face}
use Rattle.tt_c_calls.specs.declared.answer.CAnswer.{CAnswer}
use Rattle.tt_c_calls.specs.declared.asked.CJob.{CJob}
use Rattle.tt_c_calls.specs.declared.opening.CFont.{CFont}
use Rattle.tt_c_calls.specs.Answers.{DefectStands, TellsRefusal, done_answer}
use Rattle.tt_c_calls.specs.Asked.{job_instance, job_opening, plain_of}
use Rattle.tt_c_calls.specs.Refusals.{Refusal, as_call}

-- the tables that every text needs, by a reading of a file that is not too large
unfoldable pub face_wanted : Reading → List ℕ → Result Face Refusal
face_wanted r font = as_call (of_font (λ file. as_font (face_by file r)) font)

-- the same tables at an instance, if one is requested, with the rules of their lines
unfoldable pub opened_wanted : Opening → Option Asked → List ℕ → Result Face Refusal
opened_wanted o i font = as_call (of_font (λ file. as_font (face_at_instance file o i)) font)

-- the tables of a job with a way to fit
abbrev pub job_opened : CJob → Fit → List ℕ → Result Face Refusal
job_opened j how font = opened_wanted (job_opening j how) (job_instance j) font

-- the same for calls that lay out no line
abbrev pub plain_opened : CJob → Fit → List ℕ → Result Face Refusal
plain_opened j how font = opened_wanted (plain_of j how) (job_instance j) font

-- the figures of a font, for C
abbrev pub font_told : Metrics → CFont
font_told m = record {
  units_per_em = units_per_em_of m;
  ascent = ascent_of m;
  descent = descent_of m;
  glyphs = glyphs_of m;
  line_gap = line_gap_of m;
}

-- the figures by a reading of a font file, for C
abbrev pub IsFontOf : Reading → List ℕ → CFont → Type 0
IsFontOf r font told = IsOkAnd (face_wanted r font) (λ face. told ≡ font_told face.metrics)

-- a call opened a font and wrote its figures, or says why not; it took no memory
pub record OpensFont (r : Reading) (font : List ℕ) (before told : CFont) (a : CAnswer) : Type 0 where
  pub done : a.status ≡ 0 → IsFontOf r font told × (a ≡ done_answer 0 0)
  pub refused : a.status ≢ 0 → TellsRefusal (face_wanted r font) a
  pub memory : a.status ≢ 5
  pub kept : a.status ≢ 0 → told ≡ before
  pub stands : DefectStands (IsFaceDefectBy font r) a

-- the number of faces of a file that is not too large
unfoldable pub count_wanted : List ℕ → Result ℕ Refusal
count_wanted font = as_call (of_font (λ file. as_font (count_of file)) font)

-- an answer counts the faces of a file
abbrev pub IsCountOf : List ℕ → CAnswer → Type 0
IsCountOf font a = IsOkAnd (count_wanted font) (λ count. a ≡ done_answer 0 count)

-- a call counted the faces of a file, or says why not; it took no memory
pub record CountsFaces (font : List ℕ) (a : CAnswer) : Type 0 where
  pub done : a.status ≡ 0 → IsCountOf font a
  pub refused : a.status ≢ 0 → TellsRefusal (count_wanted font) a
  pub memory : a.status ≢ 5
  pub stands : DefectStands (IsOffsetDefect font (reading.Wide 0)) a
