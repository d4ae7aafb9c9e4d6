use Rattle.tt_exec_state.proofs.Tolerant.{setting_total, values_total, vectors_total, queries_total}
use Rattle.tt_exec_state.proofs.laws.answers_are_total.Goals as goal

pub returns-clause-settings : goal.returns-clause-settings
returns-clause-settings c = setting_total

pub returns-clause-values : goal.returns-clause-values
returns-clause-values c = values_total

pub returns-clause-vectors : goal.returns-clause-vectors
returns-clause-vectors c = vectors_total

pub returns-clause-queries : goal.returns-clause-queries
returns-clause-queries c = queries_total
