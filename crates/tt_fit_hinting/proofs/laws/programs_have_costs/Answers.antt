use Rattle.tt_fit_hinting.proofs.ProgramCosts.{programs-have-costs}
use Rattle.tt_fit_hinting.proofs.laws.programs_have_costs.Goals as goal

pub returns : goal.returns
returns c = programs-have-costs
