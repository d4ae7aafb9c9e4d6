use Rattle.tt_exec_state.proofs.WithAll.{axes_kept}
use Rattle.tt_exec_state.proofs.laws.axes_are_kept.Goals as goal

pub returns : goal.returns
returns c = axes_kept
