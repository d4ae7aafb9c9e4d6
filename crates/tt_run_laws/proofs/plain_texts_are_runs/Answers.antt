use Rattle.tt_run_laws.proofs.Plain.{plain_calls_are_runs, plain_reports_are_runs, plain_texts_are_runs}
use Rattle.tt_run_laws.proofs.plain_texts_are_runs.Goals as goal

pub returns-clause-texts : goal.returns-clause-texts
returns-clause-texts c = plain_texts_are_runs

pub returns-clause-reports : goal.returns-clause-reports
returns-clause-reports c = plain_reports_are_runs

pub returns-clause-calls : goal.returns-clause-calls
returns-clause-calls c = plain_calls_are_runs
