use Rattle.std.proofs.Common.{ℤ, List}
use Rattle.tt_exec_state.proofs.Beside.{beside}
use Rattle.tt_exec_state.proofs.stored_values.access_values.Goals as goal

pub returns-in-Wcvtp : goal.returns-in-Wcvtp
returns-in-Wcvtp c =
    let left : List ℤ × List ℤ = (c.wcvtp.new.stack, c.wcvtp.new.cvt) in
    rw c.in-Wcvtp.is (beside _ (λ t. (t.0, c.args.storage.now, t.1)) left c.wcvtp.result c.wcvtp.ensures)
