use Rattle.tt_scan.proofs.Moved.{black_in_columns}
use Rattle.tt_scan.proofs.laws.moved_edges.Goals as goal

pub returns : goal.returns
returns c = λ k es m column y. black_in_columns k es m column y
