use Rattle.std.proofs.Common.{◌≡◌, refl, pos, get_or, take, SFits, w64, to_z, ◌+ℤ◌, rules, arith}
use Rattle.std.proofs.lemmas.Int.{ints, to_z-of_z}
use Rattle.tt_scan_edges.specs.Winding.{turned}
use Rattle.tt_scan_edges.specs.Winding as is
use Rattle.tt_scan_edges.specs.declared.edge.Edge.{Edge}
use Rattle.tt_scan_gaps.proofs.Points.{winding_more}
use Rattle.tt_scan_gaps.proofs.point.winding.Goals as goal

abbrev none : Edge
none = record { ax = pos 0; ay = pos 0; bx = pos 0; by = pos 0 }

pub turned-winding-requires-clause-edge : goal.turned-winding-requires-clause-edge
turned-winding-requires-clause-edge c = c.requires.edges c.loop-edge.edge-index none c.loop-edge-test.true

pub loop-edge-preserved : goal.loop-edge-preserved
loop-edge-preserved c =
    let x : SFits w64 c.args.x = c.ranges.x in
    let y : SFits w64 c.args.y = c.ranges.y in
    let es = c.args.edges.now in
    let i = c.loop-edge.edge-index in
    let so_far = c.loop-edge.invariant in
    let turn : SFits w64 c.turned-winding.result = omega (arith, ints, c.turned-winding.ensures.small) in
    let adds : c.turned-winding.result ≡ turned (get_or es i none) c.args.x c.args.y =
    simp to_z-of_z at c.turned-winding.ensures.exact in
    let before : SFits w64 (to_z w64 c.loop-edge.winding-bits) = search rules in
    let sum : SFits w64 (to_z w64 c.loop-edge.winding-bits +ℤ c.turned-winding.result) = search rules in
    let so_often : to_z w64 c.loop-edge.winding-bits ≡ is.winding (take i es) c.args.x c.args.y =
    simp to_z-of_z at so_far.sum in
    record {
      sum = simp to_z-of_z (rw (winding_more es i none c.args.x c.args.y c.loop-edge-test.true, adds, ← so_often) refl);
      small = simp to_z-of_z (omega (arith, ints, c.loop-edge.winding-is, so_far.small, c.turned-winding.ensures.small));
    }
