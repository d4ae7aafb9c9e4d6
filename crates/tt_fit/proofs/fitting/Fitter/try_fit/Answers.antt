use Rattle.std.proofs.Common.{◌∙◌, ap, Err}
use Rattle.tt_core.specs.Chains.{if-told}
use Rattle.tt_core.specs.Outcomes.{font_fault}
use Rattle.tt_fit.specs.Defects.{IsOutlineDefect}
use Rattle.tt_fit.specs.Fitting.{Fitter, fitted_outline}
use Rattle.tt_fit_outline.specs.Views.{outline_of}
use Rattle.tt_fit.proofs.Falling.{after-is}
use Rattle.tt_fit.proofs.Standing.{faults-stand}
use Rattle.tt_fit.proofs.Refusing.{refusal_tells, some_then, where_refused}
use Rattle.tt_fit.proofs.fitting.Fitter.try_fit.Goals.{Joined-made, in-Ok, in-Err}
use Rattle.tt_fit.proofs.fitting.Fitter.try_fit.Goals as goal

pub returns-clause-fault : goal.returns-clause-fault
returns-clause-fault c =
    let s = c.args.self.now in
    elim c.match-made.branch [
      | in-Ok w ↦ rw w.result-is tt
      | in-Err w ↦
          let exact = rw (c.self.view_is, w.in-Err.is) at c.fitted_within-made.ensures.exact in
          let told = if-told outline_of (Err w.in-Err.fault) (fitted_outline s c.args.g) (IsOutlineDefect s c.args.g) exact
          (faults-stand s c.args.g) in
          rw w.result-is (refusal_tells w.refused_by.result w.in-Err.fault (IsOutlineDefect s c.args.g) w.refused_by.ensures told)
    ]

pub returns-clause-after : goal.returns-clause-after
returns-clause-after c =
    let left = c.fitted_within-made.new.runner.work.left in
    elim c.match-made.branch [
      | in-Ok w ↦
          let rest = rw (c.self.view_is, w.in-Ok.is) at c.fitted_within-made.ensures.left in
          rw w.result-is (ap {A = Fitter} (λ s. record s { work = left }) c.self.view_is ∙ after-is c.args.self.now c.args.g left rest)
      | in-Err w ↦
          let rest = rw (c.self.view_is, w.in-Err.is) at c.fitted_within-made.ensures.refused in
          rw w.result-is (where_refused w.refused_by.result w.in-Err.fault _ w.refused_by.ensures
          (some_then (font_fault w.in-Err.fault) _ _ (λ same.
          ap {A = Fitter} (λ s. record s { work = left }) c.self.view_is ∙ after-is c.args.self.now c.args.g left same) rest))
    ]
