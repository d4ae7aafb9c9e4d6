use Rattle.tt_scan.proofs.Points.{lies_on_some, black_where}
use Rattle.tt_scan.proofs.laws.black_points.Goals as goal

pub returns-clause-on : goal.returns-clause-on
returns-clause-on c = lies_on_some

pub returns-clause-black : goal.returns-clause-black
returns-clause-black c = black_where
