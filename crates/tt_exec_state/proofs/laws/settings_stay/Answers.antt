use Rattle.tt_exec_state.proofs.WithAll.{vectors_stay, settings_stay}
use Rattle.tt_exec_state.proofs.laws.settings_stay.Goals as goal

pub returns-clause-vectors : goal.returns-clause-vectors
returns-clause-vectors c = vectors_stay

pub returns-clause-settings : goal.returns-clause-settings
returns-clause-settings c = settings_stay
