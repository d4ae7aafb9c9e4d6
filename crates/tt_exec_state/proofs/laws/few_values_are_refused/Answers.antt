use Rattle.tt_exec_state.proofs.Tolerant.{setting_short, values_short, vectors_short, queries_short}
use Rattle.tt_exec_state.proofs.laws.few_values_are_refused.Goals as goal

pub returns-clause-settings : goal.returns-clause-settings
returns-clause-settings c = setting_short

pub returns-clause-values : goal.returns-clause-values
returns-clause-values c = values_short

pub returns-clause-vectors : goal.returns-clause-vectors
returns-clause-vectors c = vectors_short

pub returns-clause-queries : goal.returns-clause-queries
returns-clause-queries c = queries_short
