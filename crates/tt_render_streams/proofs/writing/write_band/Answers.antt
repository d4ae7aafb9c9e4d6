use Rattle.tt_render_streams.proofs.writing.write_band.Goals as goal

pub returns-clause-writes : goal.returns-clause-writes
returns-clause-writes g c = rw c.next_rows.ensures.rows at c.write_all_of.ensures
