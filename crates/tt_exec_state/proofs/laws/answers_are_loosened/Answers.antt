use Rattle.tt_exec_state.proofs.Tolerant.{setting_loosened, values_loosened}
use Rattle.tt_exec_state.proofs.laws.answers_are_loosened.Goals as goal

pub returns-clause-settings : goal.returns-clause-settings
returns-clause-settings c = setting_loosened

pub returns-clause-values : goal.returns-clause-values
returns-clause-values c = values_loosened
