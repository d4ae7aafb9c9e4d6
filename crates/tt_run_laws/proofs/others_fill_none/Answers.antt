use Rattle.tt_run_laws.proofs.Made.{written-by-edges}
use Rattle.tt_run_laws.proofs.others_fill_none.Goals as goal

pub returns : goal.returns
returns c = written-by-edges c.others_fill_none.ensures.picture
