use Rattle.tt_exec_state.proofs.Beside.{beside}
use Rattle.tt_exec_state.proofs.vectors.gpv.Goals as goal

pub returns : goal.returns
returns c = beside _ (λ t. (t, c.args.graphics.now)) c.push_vector.new.stack c.push_vector.result c.push_vector.ensures
