use Rattle.tt_scan.proofs.sweep.Sweep.spans.Goals as goal

pub returns-clause-exact : goal.returns-clause-exact
returns-clause-exact c = rw (← c.self.view_is) c.black.ensures.exact
