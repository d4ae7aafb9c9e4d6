use Rattle.std.proofs.Common.{◌≡◌, arith}
use Rattle.tt_fit.specs.Fitting.{with_hinting}
use Rattle.tt_fit_hinting.specs.Views.{hinting_view}
use Rattle.tt_fit.proofs.Unbounded.{of-outline, never-spent}
use Rattle.tt_fit.proofs.fitting.Fitter.marked.Goals as goal

pub unbounded-requires : goal.unbounded-requires
unbounded-requires c =
    let s = with_hinting c.args.self.now (hinting_view c.args.hinting.now) in
    let free = of-outline s c.self.inside.levels c.args.g in
    never-spent c.in-Err.refusal _ _ free (rw c.unbounded-runner.ensures at c.in-Err.ensures.work)

pub returns-in-Ok-clause-exact : goal.returns-in-Ok-clause-exact
returns-in-Ok-clause-exact c =
    let same : c.args.self.now.levels ≡ c.self.inside.levels = grind (arith, c.self.view_is) in
    rw (← same) at c.in-Ok.ensures.exact
