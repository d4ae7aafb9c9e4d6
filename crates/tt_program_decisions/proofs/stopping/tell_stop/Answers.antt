use Rattle.tt_program_decisions.proofs.stopping.tell_stop.Goals as goal

pub returns-clause-text : goal.returns-clause-text
returns-clause-text g c = rw (c.requires, c.text_of.ensures) at c.print_text.ensures
