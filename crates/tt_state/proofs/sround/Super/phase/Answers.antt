use Rattle.std.proofs.Common.{rules}
use Rattle.tt_state.proofs.sround.Super.phase.Goals as goal

pub returns : goal.returns
returns c = search rules
