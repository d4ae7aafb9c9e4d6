use Rattle.std.proofs.Common.{◌∙◌}
use Rattle.tt_box.proofs.Tries.{fitted_cost, made_cost}
use Rattle.tt_box.proofs.trying.begun_cost.Goals as goal

pub returns-in-Fitted : goal.returns-in-Fitted
returns-in-Fitted c = λ face a s has.
    let begun = rw c.in-Fitted.is at has in
    c.work_taken.ensures ∙ fitted_cost face a s c.in-Fitted.units.left begun.0 begun.1.work

pub returns-in-Made : goal.returns-in-Made
returns-in-Made c = λ face a s has.
    let made = rw c.in-Made.is at has in made_cost face a s made.0
