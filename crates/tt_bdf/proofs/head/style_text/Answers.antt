use Rattle.tt_bdf.proofs.head.style_text.Goals as goal

pub returns : goal.returns
returns c = rw (← c.weight_name-weight.ensures, ← c.slant-slant.ensures) c.format.ensures.ok
