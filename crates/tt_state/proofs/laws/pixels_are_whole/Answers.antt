use Rattle.tt_state.proofs.Pixels.{whole_states}
use Rattle.tt_state.proofs.laws.pixels_are_whole.Goals as goal

pub returns : goal.returns
returns c = whole_states
