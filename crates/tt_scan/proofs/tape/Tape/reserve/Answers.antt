use Rattle.std.proofs.Common.{arith}
use Rattle.tt_scan.proofs.tape.Tape.reserve.Goals as goal

pub returns : goal.returns
returns c = grind (arith, c.self.view_is, c.reserve.ensures.edges, c.reserve.ensures.crosses)

pub invariant_of-self-2 : goal.invariant_of-self-2
invariant_of-self-2 c = rw c.reserve.ensures.edges (
  c.self.invariant.0,
  c.self.invariant.1,
  c.reserve-2.ensures.ready c.self.inside.edges.edges c.self.inside.frame c.self.invariant.2,
)
