use Rattle.tt_strike_laws.proofs.StepLaws.{best_lays_by_steps, defaults_lay_by_advances, glyphs_before_extent, others_lay_by_advances, others_lay_by_units}
use Rattle.tt_strike_laws.proofs.laws.best_lays_by_steps.Goals as goal

pub returns-clause-units : goal.returns-clause-units
returns-clause-units c = others_lay_by_units

pub returns-clause-advances : goal.returns-clause-advances
returns-clause-advances c = others_lay_by_advances

pub returns-clause-default : goal.returns-clause-default
returns-clause-default c = defaults_lay_by_advances

pub returns-clause-steps : goal.returns-clause-steps
returns-clause-steps c = best_lays_by_steps

pub returns-clause-order : goal.returns-clause-order
returns-clause-order c = glyphs_before_extent
