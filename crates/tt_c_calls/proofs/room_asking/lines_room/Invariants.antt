use Rattle.tt_c_calls.proofs.room_asking.lines_room.Given as goal

-- the file of a strike's face
abbrev pub ghost-room_by : goal.ghost-room_by
ghost-room_by a = a.strike.now.face.directory.file
