-- No part of the standard: a font at a size, with a fit, its cache's limit in bytes and its cached glyphs with their
-- numbers, the newest first; and the jobs of its lines.
use Rattle.std.specs.Prelude.{◌≡◌, ℕ, List, [], Option, None, Some, Ok, ⊤}
use Rattle.tt_fit.specs.declared.programs.Fit.{Fit}
use Rattle.tt_fit.specs.Fitting.{Fitter}
use Rattle.tt_line.specs.Known.{Source}
use Rattle.tt_picture.specs.Cached.{AreCachedFor}
use Rattle.tt_strike.specs.Job.{Job, job_for}
use Rattle.tt_strike.specs.Picture.{setting}
use Rattle.tt_face.specs.Faces.{Face}
use Rattle.tt_strike_kept.specs.Glyph.{KeptGlyph}
use Rattle.tt_strike_kept.specs.Kept.{Kept}

pub record Strike : Type 0 where
  pub face : Face
  pub ppem : ℕ
  pub fit : Fit
  pub most : ℕ
  pub kept : List (ℕ × KeptGlyph)

-- the job of a line
abbrev pub job_of : Strike → List ℕ → ℕ → Job
job_of s text margin = job_for s.ppem s.fit text margin

-- a font at a size, with a fit, without its cache
pub record SizedFace : Type 0 where
  pub face : Face
  pub ppem : ℕ
  pub fit : Fit

-- the source of glyphs and advances at a size
abbrev pub advances_of : Face → ℕ → Source
advances_of face ppem = record { metrics = face.metrics; cmap = face.cmap; ppem = ppem }

abbrev pub job_by : SizedFace → List ℕ → ℕ → Job
job_by z text margin = job_for z.ppem z.fit text margin

-- the job of a line that is laid out, which does not depend on the text any more
abbrev pub job_with : SizedFace → ℕ → Job
job_with z margin = job_by z [] margin

-- a cache for a font at a size, if there is one: each glyph equals the one made anew, where its cost is paid
abbrev pub IsCacheOf : SizedFace → Option Kept → Type 0
IsCacheOf z None = ⊤
IsCacheOf z (Some k) = (s : Fitter) → setting z.face z.ppem z.fit ≡ Ok s → AreCachedFor s k.entries

-- a new cache of at most this many bytes, if there is one
abbrev pub IsFresh : ℕ → Option Kept → Type 0
IsFresh most None = ⊤
IsFresh most (Some k) = (k.entries ≡ []) × (k.most ≡ most)
