use Rattle.std.proofs.Common.{◌<◌, length}
use Rattle.tt_scan.proofs.tape.Tape.rows_of.Goals as goal

pub row_range-requires-clause-edge : goal.row_range-requires-clause-edge
row_range-requires-clause-edge c =
    let within : c.args.i < length c.self.inside.edges.edges = rw (← c.self.view_is) at c.requires in
    c.lend.ensures.fit c.args.i _ (rw c.lend.ensures.exact within)
