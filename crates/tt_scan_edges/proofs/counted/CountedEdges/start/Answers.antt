use Rattle.tt_scan_edges.proofs.counted.CountedEdges.start.Goals as goal

pub returns-clause-walk : goal.returns-clause-walk
returns-clause-walk c = rw c.edge-edge.ensures.exact at c.new.ensures.walk

pub returns-clause-exact : goal.returns-clause-exact
returns-clause-exact c = rw c.edge-edge.ensures.exact at c.new.ensures.exact
