use Rattle.tt_bdf.proofs.ReadBack.{rows_read_back}
use Rattle.tt_bdf.proofs.laws.rows_read_back.Goals as goal

pub returns : goal.returns
returns c = rows_read_back
