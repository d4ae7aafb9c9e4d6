use Rattle.std.proofs.Common.{refl}
use Rattle.tt_c_calls.proofs.line_drawing.stopped.Goals as goal

pub returns : goal.returns
returns c = refl
