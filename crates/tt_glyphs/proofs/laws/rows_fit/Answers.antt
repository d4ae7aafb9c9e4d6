use Rattle.tt_glyphs.proofs.ListLaws.{rows_are_counted}
use Rattle.tt_glyphs.proofs.RoomLaws.{room_is_exact}
use Rattle.tt_glyphs.proofs.laws.rows_fit.Goals as goal

pub returns-clause-rows : goal.returns-clause-rows
returns-clause-rows c = rows_are_counted

pub returns-clause-room : goal.returns-clause-room
returns-clause-room c = room_is_exact
