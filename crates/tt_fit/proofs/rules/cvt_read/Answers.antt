use Rattle.std.proofs.lemmas.List.{take_min}
use Rattle.tt_fit.proofs.rules.cvt_read.Goals as goal

pub returns-in-Best : goal.returns-in-Best
returns-in-Best c = rw (c.in-Best.is, c.min.ensures) (take_min 131070 c.args.cvt.now)
