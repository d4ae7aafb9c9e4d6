use Rattle.tt_strike_laws.proofs.MeasuredSteps.{equal_glyphs_step_alike, measure_tells_steps}
use Rattle.tt_strike_laws.proofs.laws.measures_tell_steps.Goals as goal

pub returns-clause-pens : goal.returns-clause-pens
returns-clause-pens c = measure_tells_steps c.steps_lead.ensures

pub returns-clause-glyphs : goal.returns-clause-glyphs
returns-clause-glyphs c = equal_glyphs_step_alike
