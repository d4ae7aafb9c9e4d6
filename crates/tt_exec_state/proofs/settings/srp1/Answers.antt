use Rattle.std.proofs.Common.{rules}
use Rattle.tt_exec_state.proofs.settings.srp1.Goals as goal

pub returns : goal.returns
returns c = search rules
