use Rattle.std.proofs.Common.{rules}
use Rattle.tt_state.proofs.graphics_state.GraphicsState.new.Goals as goal

pub returns : goal.returns
returns c = search rules
