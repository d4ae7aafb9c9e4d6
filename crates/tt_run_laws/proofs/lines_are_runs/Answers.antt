use Rattle.tt_run_laws.proofs.Runs.{lines_are_runs, lines_are_texts, texts_are_runs}
use Rattle.tt_run_laws.proofs.lines_are_runs.Goals as goal

pub returns-clause-texts : goal.returns-clause-texts
returns-clause-texts c = texts_are_runs

pub returns-clause-lines : goal.returns-clause-lines
returns-clause-lines c = lines_are_runs

pub returns-clause-alike : goal.returns-clause-alike
returns-clause-alike c = lines_are_texts
