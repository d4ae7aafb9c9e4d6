use Rattle.tt_glyf.proofs.raw.Record.has.Goals as goal

pub returns : goal.returns
returns c = c.has_flag.ensures
