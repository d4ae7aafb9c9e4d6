use Rattle.tt_kern.proofs.SearchEnds.{is-reached, few-asked}
use Rattle.tt_kern.proofs.laws.searches_end.Goals as goal

pub returns-clause-ends : goal.returns-clause-ends
returns-clause-ends c = is-reached

pub returns-clause-short : goal.returns-clause-short
returns-clause-short c = few-asked
