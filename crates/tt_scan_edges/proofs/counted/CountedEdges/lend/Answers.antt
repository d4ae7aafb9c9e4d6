use Rattle.std.proofs.Common.{All, rules}
use Rattle.tt_scan_edges.specs.Winding.{EdgeFits}
use Rattle.tt_scan_edges.proofs.counted.CountedEdges.lend.Goals as goal

pub returns-clause-exact : goal.returns-clause-exact
returns-clause-exact c = search rules

pub returns-clause-fit : goal.returns-clause-fit
returns-clause-fit c =
    let all : All EdgeFits c.args.self.now.edges = rw (← c.self.view_is) c.self.invariant in
    rw (returns-clause-exact c) all
