use Rattle.tt_scan.proofs.Unmet.{unmet_blank}
use Rattle.tt_scan_edges.specs.Crossing.{AreAllRows}
use Rattle.tt_scan_edges.specs.Winding.{column_x, row_y}
use Rattle.tt_scan.proofs.tape.Tape.rows.Goals as goal

pub returns-clause-exact : goal.returns-clause-exact
returns-clause-exact c = rw (c.widened.ensures, ← c.self.view_is) c.self.invariant.1

pub returns-clause-blank : goal.returns-clause-blank
returns-clause-blank c = λ row column low high out.
    let all : AreAllRows c.args.self.now.edges c.args.self.now.frame c.self.inside.rows = rw (← c.self.view_is) c.self.invariant.1 in
    unmet_blank c.args.self.now.edges (column_x c.args.self.now.frame.margin column) (row_y c.args.self.now.frame row)
    (all.outside row low high (rw c.widened.ensures at out))
