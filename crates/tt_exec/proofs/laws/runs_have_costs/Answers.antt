use Rattle.tt_exec.proofs.RunCosts.{runs_have_costs, runs_grow}
use Rattle.tt_exec.proofs.laws.runs_have_costs.Goals as goal

pub returns-clause-cost : goal.returns-clause-cost
returns-clause-cost c = runs_have_costs

pub returns-clause-grows : goal.returns-clause-grows
returns-clause-grows c = runs_grow
