use Rattle.std.proofs.Common.{◌≡◌}
use Rattle.tt_c_calls.proofs.RoomAsked.{IsRoomTo}
use Rattle.tt_c_calls.proofs.room_asking.room_by.Given as goal

abbrev pub ghost-line_need : goal.ghost-line_need
ghost-line_need g a = g.font

-- the lines so far have rows, and no more
abbrev pub invariant-loop-i : goal.invariant-loop-i
invariant-loop-i g l = record {
  strike : l.strike ≡ record l.fn.strike { kept = l.strike.kept };
  room : IsRoomTo l.job g.font l.texts l.ends l.from l.used l.i l.taken;
}
