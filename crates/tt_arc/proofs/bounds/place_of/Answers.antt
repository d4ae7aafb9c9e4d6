use Rattle.tt_arc.proofs.bounds.place_of.Goals as goal

pub edge_end_of-requires : goal.edge_end_of-requires
edge_end_of-requires c = rw c.moved.ensures c.requires

pub returns-clause-exact : goal.returns-clause-exact
returns-clause-exact c = rw c.moved.ensures at c.edge_end_of.ensures.exact
