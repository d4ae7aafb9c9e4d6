use Rattle.std.proofs.Common.{arith}
use Rattle.tt_exec_step.proofs.function_table.make_room.Goals as goal

pub returns-in_ok-resize-clause-room : goal.returns-in_ok-resize-clause-room
returns-in_ok-resize-clause-room c = omega (arith, c.in_ok-resize.ensures.len)
