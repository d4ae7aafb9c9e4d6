use Rattle.std.proofs.Common.{◌≡◌, ◌+◌, ap, SFits, w64}
use Rattle.std.proofs.lemmas.Int.{to_z-of_z}
use Rattle.tt_scan_edges.specs.Left.{IsLeftBy}
use Rattle.tt_scan_edges.specs.Winding.{row_y, rows_met}
use Rattle.tt_scan_edges.proofs.Crossed.{left_settled}
use Rattle.tt_scan.proofs.tape.Tape.collect.Goals as goal

pub visit-requires-clause-ready : goal.visit-requires-clause-ready
visit-requires-clause-ready c = rw c.of-at.ensures.frame c.self.invariant.2

pub invariant_of-self : goal.invariant_of-self
invariant_of-self c =
    rw c.visit.ensures.crosses (
      c.self.invariant.0,
      c.self.invariant.1,
      c.settle.ensures.ready c.self.inside.edges.edges c.self.inside.frame (rw c.of-at.ensures.frame at c.visit.ensures.ready),
    )

pub returns-clause-left : goal.returns-clause-left
returns-clause-left c =
    let row : SFits w64 c.args.r = c.ranges.r in
    let at_row : c.of-at.result.r ≡ c.args.r = simp to_z-of_z at c.of-at.ensures.row in
    let height : c.of-at.result.y ≡ row_y c.self.inside.frame c.args.r = rw (c.of-at.ensures.frame, at_row) at c.of-at.result.height in
    let left : IsLeftBy c.self.inside.edges.edges c.self.inside.frame.margin (row_y c.self.inside.frame c.args.r) c.args.left.now.most c.visit.new.left =
    rw (height, c.of-at.ensures.frame) at c.visit.ensures.left in
    rw (← c.self.view_is) (left_settled _ _ _ _ c.visit.new.left c.settle.new.left left c.settle.ensures.permutation c.settle.ensures.rest)

pub returns-clause-crosses : goal.returns-clause-crosses
returns-clause-crosses c =
    let row : SFits w64 c.args.r = c.ranges.r in
    let at_row : c.of-at.result.r ≡ c.args.r = simp to_z-of_z at c.of-at.ensures.row in
    let height : c.of-at.result.y ≡ row_y c.self.inside.frame c.args.r = rw (c.of-at.ensures.frame, at_row) at c.of-at.result.height in
    let crosses : c.visit.new.edges.crosses ≡ c.self.inside.edges.crosses + rows_met c.self.inside.edges.edges c.of-at.result.y =
    ap (λ e. e.crosses) c.visit.ensures.crosses in
    rw (← c.self.view_is) (rw height at crosses)
