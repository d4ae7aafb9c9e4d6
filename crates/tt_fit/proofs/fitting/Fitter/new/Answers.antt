use Rattle.std.proofs.Common.{refl}
use Rattle.tt_fit.proofs.fitting.Fitter.new.Goals as goal

pub returns-clause-ppem : goal.returns-clause-ppem
returns-clause-ppem c = refl
