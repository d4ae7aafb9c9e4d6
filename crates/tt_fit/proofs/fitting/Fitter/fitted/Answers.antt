use Rattle.tt_core.specs.Chains.{on-given, if-told}
use Rattle.tt_core.specs.Directory.{HasNo}
use Rattle.tt_fit.specs.Defects.{IsOutlineDefect}
use Rattle.tt_fit.specs.Fitting.{fitted_outline}
use Rattle.tt_fit_outline.specs.Views.{outline_of}
use Rattle.tt_fit.proofs.Standing.{outlines-whole, faults-stand}
use Rattle.tt_fit.proofs.fitting.Fitter.fitted.Goals as goal

pub returns-clause-sound : goal.returns-clause-sound
returns-clause-sound c =
    on-given outline_of c.fitted_within.result (fitted_outline c.args.self.now c.args.g)
    (HasNo (IsOutlineDefect c.args.self.now c.args.g)) c.fitted_within.ensures.exact
    (outlines-whole c.args.self.now c.args.g)

pub returns-clause-fault : goal.returns-clause-fault
returns-clause-fault c =
    if-told outline_of c.fitted_within.result (fitted_outline c.args.self.now c.args.g)
    (IsOutlineDefect c.args.self.now c.args.g) c.fitted_within.ensures.exact
    (faults-stand c.args.self.now c.args.g)
