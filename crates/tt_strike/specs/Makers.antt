-- No part of the standard: the state of a strike's fitter.
use Rattle.std.specs.Prelude.{◌≡◌, ℕ, false, [], None, Ok, Err, ⊤}
use Rattle.tt_core.specs.Directory.{HasNo}
use Rattle.tt_fit.specs.Fitting.{Fitter}
use Rattle.tt_fit.specs.declared.programs.Fit.{Fit}
use Rattle.tt_metrics.specs.Metrics.{glyphs_of}
use Rattle.tt_strike.specs.Defects.{IsSettingDefect}
use Rattle.tt_strike.specs.Job.{Job, job_for}
use Rattle.tt_strike.specs.Picture.{setting}
use Rattle.tt_face.specs.Faces.{Face}
use Rattle.tt_strike.specs.Work.{is_bounded}
use Rattle.tt_strike.specs.declared.maker.Maker.{Maker}
use Rattle.tt_strike.specs.declared.maker.Maker.TheVariants as maker

-- any job of this size and fit
abbrev pub job_at : ℕ → Fit → Job
job_at ppem how = job_for ppem how [] 0

-- this fitter is that of a font at a size, the font has no defect for it, and its work is bounded only with best
pub record IsSetting (face : Face) (ppem : ℕ) (how : Fit) (s : Fitter) : Type 0 where
  pub exact : setting face ppem how ≡ Ok s
  pub glyphs : s.tables.glyphs ≡ glyphs_of face.metrics
  pub sound : HasNo (IsSettingDefect face (job_at ppem how))
  pub unbounded : is_bounded how ≡ false → s.work ≡ None

-- the state is unmade, the fitter of the definition, or the defect for which there is none
abbrev pub IsMaker : Face → ℕ → Fit → Maker → Type 0
IsMaker face ppem how maker.Unmade = ⊤
IsMaker face ppem how (maker.Ready s) = IsSetting face ppem how s
IsMaker face ppem how (maker.Refused fault) = (setting face ppem how ≡ Err fault)
    × IsSettingDefect face (job_at ppem how) fault
