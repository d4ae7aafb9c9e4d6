use Rattle.std.proofs.Common.{SFits, w32, rules}
use Rattle.std.proofs.lemmas.Int.{to_z-of_z}
use Rattle.tt_scan_edges.specs.Winding.{is_between}
use Rattle.tt_scan_edges.proofs.Bools.{both_if, neither_if}
use Rattle.tt_scan_edges.proofs.last.goes_on.Goals as goal

pub returns-then-lies_between : goal.returns-then-lies_between
returns-then-lies_between c =
    let e = c.args.edge in
    let f = c.args.next in
    let ax : SFits w32 e.ax = search rules in
    let ay : SFits w32 e.ay = search rules in
    let bx : SFits w32 e.bx = search rules in
    let by : SFits w32 e.by = search rules in
    let cx : SFits w32 f.bx = search rules in
    let cy : SFits w32 f.by = search rules in
    both_if (is_between e.ax f.bx e.bx) (is_between e.ay f.by e.by) c.lies_between.result c.lies_between-then-lies_between.result
    (simp to_z-of_z at c.lies_between.ensures) c.if-lies_between.true (simp to_z-of_z at c.lies_between-then-lies_between.ensures)

pub returns-else-lies_between : goal.returns-else-lies_between
returns-else-lies_between c =
    let e = c.args.edge in
    let f = c.args.next in
    let ax : SFits w32 e.ax = search rules in
    let bx : SFits w32 e.bx = search rules in
    let cx : SFits w32 f.bx = search rules in
    neither_if (is_between e.ax f.bx e.bx) (is_between e.ay f.by e.by) c.lies_between.result
    (simp to_z-of_z at c.lies_between.ensures) c.if-lies_between.false
