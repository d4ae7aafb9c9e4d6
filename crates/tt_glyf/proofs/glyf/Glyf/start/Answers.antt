use Rattle.tt_glyf.proofs.glyf.Glyf.start.Goals as goal

pub returns : goal.returns
returns c = rw (← c.self.view_is) (rw c.from.ensures at c.offset.ensures)
