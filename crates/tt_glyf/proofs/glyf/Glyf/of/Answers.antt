use Rattle.std.proofs.Common.{refl}
use Rattle.tt_glyf.proofs.glyf.Glyf.of.Goals as goal

pub returns : goal.returns
returns c = refl
