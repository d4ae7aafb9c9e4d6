use Rattle.tt_c_calls.specs.Messages.{message_of}
use Rattle.tt_c_calls.proofs.messages.text_of.Goals as goal

pub returns-in-3 : goal.returns-in-3
unfolding message_of
returns-in-3 c = rw c.in-3.is c.line.ensures
