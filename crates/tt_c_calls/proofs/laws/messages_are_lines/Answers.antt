use Rattle.tt_c_calls.proofs.Lines.{font_messages_are_lines, job_messages_are_lines}
use Rattle.tt_c_calls.proofs.laws.messages_are_lines.Goals as goal

pub returns-clause-fonts : goal.returns-clause-fonts
returns-clause-fonts c = font_messages_are_lines

pub returns-clause-jobs : goal.returns-clause-jobs
returns-clause-jobs c = job_messages_are_lines
