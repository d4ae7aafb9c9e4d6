use Rattle.std.proofs.Common.{◌∙◌, sym, arith}
use Rattle.tt_tuples.proofs.Steps.{none_left}
use Rattle.tt_tuples.proofs.tuples.Tuples.next.Goals as goal

pub returns-clause-exact : goal.returns-clause-exact
returns-clause-exact c =
    let t = c.loop-self.self in
    sym c.loop-self.invariant.rest ∙ none_left t.source t.shared t.left t.at t.data_at (omega (arith, c.left.ensures, c.loop-self-test.false))
