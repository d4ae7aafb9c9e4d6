use Rattle.tt_cmap.proofs.Halves.{is-reached, reached-least, past-all}
use Rattle.tt_cmap.proofs.laws.searches_end.Goals as goal

pub returns-clause-ends : goal.returns-clause-ends
returns-clause-ends c = is-reached

pub returns-clause-least : goal.returns-clause-least
returns-clause-least c = reached-least

pub returns-clause-none : goal.returns-clause-none
returns-clause-none c = past-all
