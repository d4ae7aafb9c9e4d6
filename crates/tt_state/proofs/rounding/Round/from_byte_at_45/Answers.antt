use Rattle.std.proofs.Common.{rules}
use Rattle.tt_state.proofs.rounding.Round.from_byte_at_45.Goals as goal

pub returns : goal.returns
returns c = search rules
