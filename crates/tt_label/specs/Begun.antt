-- No part of the standard: a text that is broken into rows, whose glyphs are made before its rows are laid out.
use Rattle.std.specs.List.{sum_by}
use Rattle.std.specs.Prelude.{◌≡◌, ◌≤◌, true, false, All, length, map, Result, Ok}
use Rattle.tt_core.specs.Limits.{text_limit}
use Rattle.tt_core.specs.Outcomes.{◌>>=◌}
use Rattle.tt_face.specs.Faces.{Face}
use Rattle.tt_fit.specs.Fitting.{Fitter}
use Rattle.tt_label.specs.declared.begun.BegunLabel.{BegunLabel}
use Rattle.tt_label.specs.declared.begun.Stage.{Stage}
use Rattle.tt_label.specs.declared.begun.Stage.TheVariants as stage
use Rattle.tt_label.specs.Gathered.{AreReady, gathered, units_glyphs, units_in, units_made}
use Rattle.tt_line.specs.Outcome.{placement_of}
use Rattle.tt_rows.specs.Rows.{one_at_least}
use Rattle.tt_strike.specs.declared.laid.Laid.{Laid}
use Rattle.tt_strike.specs.Fitted.{AreFittedUnits}
use Rattle.tt_strike.specs.Job.{Job, tested}
use Rattle.tt_strike.specs.Picture.{setting_in}
use Rattle.tt_strike.specs.Refusals.{Refused, as_job}
use Rattle.tt_strike.specs.Work.{is_bounded}

-- the glyphs of a tested text are made, or the first refusal
abbrev pub begun_outcome : Face → Job → Result Fitter Refused
begun_outcome face a = as_job (tested a) >>= λ u. units_made face a

-- how far the glyphs of a text are made, by this fitter
abbrev pub HasStage : Face → Job → Fitter → Stage → Type 0
HasStage face a s (stage.Fitted t) = (is_bounded a.fit ≡ true) × AreFittedUnits face a.ppem a.fit (units_glyphs face a) t s
HasStage face a s (stage.Made g) = (is_bounded a.fit ≡ false) × AreReady face a s (units_glyphs face a) g.made.items g.cost

-- what is needed to draw them
pub record CanFinish (face : Face) (a : Job) (s : Fitter) (l : Laid) (st : Stage) : Type 0 where
  pub opened : setting_in face a ≡ Ok s
  pub line : placement_of l.line ≡ gathered (units_glyphs face a)
  pub stage : HasStage face a s st

abbrev pub HasFinish : Face → Job → Laid → Stage → Type 0
HasFinish face a line st = (s : Fitter) × CanFinish face a s line st

-- the units of a text have their steps, and its glyphs are made, by this fitter
pub record HasBegun (face : Face) (a : Job) (b : BegunLabel) (s : Fitter) : Type 0 where
  pub tested : tested a ≡ Ok tt
  pub made : units_made face a ≡ Ok s
  pub finish : CanFinish face a s b.gathered b.stage
  pub lines : map (λ l. l.items) b.lines.items ≡ units_in face a s
  pub margin : b.gathered.margin ≡ a.margin
  pub few : All (λ l. length l.items ≤ text_limit) b.lines.items
  pub some : 1 ≤ length b.lines.items
  pub rows : sum_by (λ l. one_at_least (length l.items)) b.lines.items ≤ text_limit

abbrev pub IsBegun : Face → Job → BegunLabel → Type 0
IsBegun face a b = (s : Fitter) × HasBegun face a b s
