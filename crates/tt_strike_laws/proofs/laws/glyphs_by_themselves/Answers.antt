use Rattle.tt_strike_laws.proofs.Beside.{by_themselves}
use Rattle.tt_strike_laws.proofs.laws.glyphs_by_themselves.Goals as goal

pub returns : goal.returns
returns c = by_themselves
