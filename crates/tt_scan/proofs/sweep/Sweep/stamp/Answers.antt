use Rattle.tt_scan.proofs.sweep.Sweep.stamp.Goals as goal

pub returns : goal.returns
returns c = rw (← c.self.view_is) c.self.invariant
