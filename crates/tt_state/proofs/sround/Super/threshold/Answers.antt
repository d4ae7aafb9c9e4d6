use Rattle.std.proofs.Common.{rules}
use Rattle.tt_state.proofs.sround.Super.threshold.Goals as goal

pub returns : goal.returns
returns c = search rules
