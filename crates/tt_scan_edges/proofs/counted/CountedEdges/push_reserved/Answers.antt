use Rattle.std.proofs.lemmas.List.Elements.{All-push}
use Rattle.tt_scan_edges.specs.Winding.{EdgeFits}
use Rattle.tt_scan_edges.proofs.counted.CountedEdges.push_reserved.Goals as goal

pub invariant_of-self : goal.invariant_of-self
invariant_of-self c =
    rw c.push_reserved.ensures.items (All-push EdgeFits c.self.inside.edges.items c.args.edge c.self.invariant c.requires.edge)
