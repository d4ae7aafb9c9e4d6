use Rattle.tt_c_calls.proofs.TextTaken.{no_text_is_refused, text_is_taken}
use Rattle.tt_c_calls.proofs.asked.text_of.Goals as goal

pub returns-in-Ok-clause-exact : goal.returns-in-Ok-clause-exact
returns-in-Ok-clause-exact c = text_is_taken c.args.bytes.now c.in-Ok.text.now c.in-Ok.ensures.cases

pub returns-in-Err-clause-exact : goal.returns-in-Err-clause-exact
returns-in-Err-clause-exact c = no_text_is_refused c.args.bytes.now c.in-Err.ensures.cases.0
