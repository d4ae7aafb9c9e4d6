use Rattle.tt_c_calls.proofs.Plain.{plain_is_run}
use Rattle.tt_c_calls.proofs.laws.plain_is_run.Goals as goal

pub returns : goal.returns
returns c = plain_is_run
