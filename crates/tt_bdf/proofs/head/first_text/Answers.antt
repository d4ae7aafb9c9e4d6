use Rattle.tt_bdf.proofs.head.first_text.Goals as goal

pub returns : goal.returns
returns c = rw c.in_ok-name.ensures at c.format.ensures.ok
