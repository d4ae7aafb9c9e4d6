use Rattle.std.proofs.Common.{◌++◌, codes}
use Rattle.tt_program_decisions.proofs.telling.tell_line.Goals as goal

pub returns-clause-told : goal.returns-clause-told
returns-clause-told g c line is = c.tell_text.ensures.told (line ++ codes "\n") (c.ended.ensures line is)
