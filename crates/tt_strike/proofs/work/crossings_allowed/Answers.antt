use Rattle.tt_strike.proofs.work.crossings_allowed.Goals as goal

pub returns-in-Some-clause-exact : goal.returns-in-Some-clause-exact
returns-in-Some-clause-exact c = rw c.in-Some.is c.min.ensures
