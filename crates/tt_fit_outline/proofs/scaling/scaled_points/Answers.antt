use Rattle.tt_fit_outline.specs.Views.{size_view}
use Rattle.tt_fit_outline.proofs.Shifts.{each-within}
use Rattle.tt_fit_outline.proofs.scaling.scaled_points.Goals as goal

pub returns-in-Some-clause-exact : goal.returns-in-Some-clause-exact
returns-in-Some-clause-exact c =
    let scale = c.in-Some.ensures in
    let made = rw scale at c.in_ok-shifted_points.ensures.exact in
    let all = rw made at c.in_ok-shifted_points.ensures.coordinates in
    rw made (each-within (size_view c.args.size) c.args.at c.args.points.now all)
