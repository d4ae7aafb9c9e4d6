use Rattle.tt_scan.proofs.tape.Tape.crosses.Goals as goal

pub returns : goal.returns
returns c = rw (← c.self.view_is) c.crosses.ensures
