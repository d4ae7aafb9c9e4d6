use Rattle.tt_c_calls.proofs.ShortMessages.{messages_are_short, short_rooms_are_enough}
use Rattle.tt_c_calls.proofs.laws.messages_are_short.Goals as goal

pub returns-clause-text : goal.returns-clause-text
returns-clause-text c = messages_are_short

pub returns-clause-room : goal.returns-clause-room
returns-clause-room c = short_rooms_are_enough
