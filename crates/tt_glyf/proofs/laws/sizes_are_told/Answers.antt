use Rattle.tt_glyf.proofs.Headers.{sizes-told}
use Rattle.tt_glyf.proofs.laws.sizes_are_told.Goals as goal

pub returns : goal.returns
returns c = sizes-told
