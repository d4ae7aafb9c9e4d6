use Rattle.std.proofs.Common.{rules}
use Rattle.tt_state.proofs.OnAxes.{near}
use Rattle.tt_state.proofs.vector.rounded.Goals as goal

pub returns-clause-exact : goal.returns-clause-exact
returns-clause-exact c = search rules

pub returns-clause-bound : goal.returns-clause-bound
returns-clause-bound c =
    let exact = returns-clause-exact c in
    rw exact (near c.args.n)
