use Rattle.std.proofs.Common.{◌∙◌, Err, ap}
use Rattle.std.proofs.lemmas.Result.{err_from_is_err_and}
use Rattle.tt_core.specs.Chains.{if-told}
use Rattle.tt_fit.specs.Defects.{IsOutlineDefect}
use Rattle.tt_fit.specs.Fitting.{Fitter, fitted_outline}
use Rattle.tt_fit_outline.specs.Views.{outline_of}
use Rattle.tt_fit.proofs.Falling.{after-is}
use Rattle.tt_fit.proofs.Standing.{outlines-whole, faults-stand}
use Rattle.tt_fit.proofs.fitting.Fitter.fit.Goals as goal

pub returns-in_err-outline-clause-fault : goal.returns-in_err-outline-clause-fault
returns-in_err-outline-clause-fault c =
    let s = c.args.self.now in
    let e = err_from_is_err_and c.from_residual.result c.from_residual.ensures.1 in
    rw (e.1, e.2)
    (if-told outline_of (Err c.in_err-outline.field-0.0) (fitted_outline s c.args.g) (IsOutlineDefect s c.args.g)
    (rw c.self.view_is at c.in_err-outline.ensures.exact) (faults-stand s c.args.g))

pub returns-clause-sound : goal.returns-clause-sound
returns-clause-sound c =
    outlines-whole c.args.self.now c.args.g (outline_of c.in_ok-outline.outline)
    (rw c.self.view_is at c.in_ok-outline.ensures.exact)

pub returns-clause-after : goal.returns-clause-after
returns-clause-after c =
    let left = c.fitted_within.new.runner.work.left in
    ap {A = Fitter} (λ s. record s { work = left }) c.self.view_is
    ∙ after-is c.args.self.now c.args.g left (rw c.self.view_is at c.in_ok-outline.ensures.left)
