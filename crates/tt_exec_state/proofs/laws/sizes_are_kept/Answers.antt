use Rattle.tt_exec_state.proofs.Sizes.{sizes_kept}
use Rattle.tt_exec_state.proofs.laws.sizes_are_kept.Goals as goal

pub returns : goal.returns
returns c = sizes_kept
