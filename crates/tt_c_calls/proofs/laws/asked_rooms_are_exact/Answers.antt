use Rattle.tt_c_calls.proofs.RoomLaws.{asked_room_is_enough, smaller_room_is_refused}
use Rattle.tt_c_calls.proofs.laws.asked_rooms_are_exact.Goals as goal

pub returns-clause-enough : goal.returns-clause-enough
returns-clause-enough c = asked_room_is_enough

pub returns-clause-smaller : goal.returns-clause-smaller
returns-clause-smaller c = smaller_room_is_refused
