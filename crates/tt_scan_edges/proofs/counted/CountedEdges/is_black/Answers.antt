use Rattle.std.proofs.Common.{◌≡◌, ◌∙◌, ◌+◌, ◌<◌, true, false, sym, refl, length, take, SFits, w64, to_z, ◌+ℤ◌, rules, arith}
use Rattle.std.proofs.Math.Seq.{take-length}
use Rattle.std.proofs.lemmas.Bool.Decides.{nat_tests}
use Rattle.std.proofs.lemmas.Int.{ints, to_z-of_z}
use Rattle.tt_scan_edges.specs.Crossing.{IsCross}
use Rattle.tt_scan_edges.specs.Counted.{edge_at}
use Rattle.tt_scan_edges.specs.Winding.{column_x, lies_on, lies_on_one, turned, winding}
use Rattle.tt_scan_edges.proofs.Edges.{held, winding_more, clear_more}
use Rattle.tt_scan_edges.proofs.counted.CountedEdges.is_black.Goals as goal

pub returns-then-touches-clause-black : goal.returns-then-touches-clause-black
returns-then-touches-clause-black c =
    let column : SFits w64 c.args.c = c.ranges.c in
    let kept = c.loop-i.invariant.kept in
    let exact : IsCross (edge_at c.args.self.now.edges c.loop-i.i) c.args.at.frame.margin c.args.at.y c.cross-cross.result = rw kept at c.cross-cross.ensures.exact in
    let touches = simp to_z-of_z at c.touches.ensures in
    let below : c.loop-i.i < length c.args.self.now.edges = rw c.loop-i.invariant.end at c.loop-i-test.true in
    let on : lies_on (edge_at c.args.self.now.edges c.loop-i.i) (column_x c.args.at.frame.margin c.args.c) c.args.at.y ≡ true = exact.touch c.args.c ∙ (sym touches ∙ c.if-touches.true) in
    rw (held c.args.self.now.edges c.loop-i.i _ _ below on) refl

pub loop-i-preserved : goal.loop-i-preserved
loop-i-preserved c =
    let column : SFits w64 c.args.c = c.ranges.c in
    let turn : SFits w64 c.turn_before-winding.result = search rules in
    let kept = c.loop-i.invariant.kept in
    let exact : IsCross (edge_at c.args.self.now.edges c.loop-i.i) c.args.at.frame.margin c.args.at.y c.cross-cross.result = rw kept at c.cross-cross.ensures.exact in
    let touches = simp to_z-of_z at c.touches.ensures in
    let below : c.loop-i.i < length c.args.self.now.edges = rw c.loop-i.invariant.end at c.loop-i-test.true in
    let off : lies_on (edge_at c.args.self.now.edges c.loop-i.i) (column_x c.args.at.frame.margin c.args.c) c.args.at.y ≡ false = exact.touch c.args.c ∙ (sym touches ∙ c.if-touches.false) in
    let adds : turned (edge_at c.args.self.now.edges c.loop-i.i) (column_x c.args.at.frame.margin c.args.c) c.args.at.y ≡ c.turn_before-winding.result = exact.right c.args.c ∙ sym (simp to_z-of_z at c.turn_before-winding.ensures.exact) in
    let sum : SFits w64 (to_z w64 c.loop-i.winding-bits +ℤ c.turn_before-winding.result) = omega (arith, ints, c.loop-i.winding-is, c.loop-i.invariant.small, c.turn_before-winding.ensures.small) in
    let clear_so_far = simp to_z-of_z at c.loop-i.invariant.clear in
    let winding_so_far = simp to_z-of_z at c.loop-i.invariant.winding in
    let clear : lies_on_one (take (c.loop-i.i + 1) c.args.self.now.edges) (column_x c.args.at.frame.margin c.args.c) c.args.at.y ≡ false = rw (clear_more c.args.self.now.edges c.loop-i.i (column_x c.args.at.frame.margin c.args.c) c.args.at.y below, clear_so_far, off) refl in
    let winding : to_z w64 c.loop-i.winding-bits +ℤ c.turn_before-winding.result ≡ winding (take (c.loop-i.i + 1) c.args.self.now.edges) (column_x c.args.at.frame.margin c.args.c) c.args.at.y = rw (winding_more c.args.self.now.edges c.loop-i.i (column_x c.args.at.frame.margin c.args.c) c.args.at.y below, adds, ← winding_so_far) refl in
    record {
      end = search rules;
      kept = search rules;
      clear = simp to_z-of_z clear;
      winding = simp to_z-of_z winding;
      small = simp to_z-of_z (omega (arith, ints, c.loop-i.winding-is, c.loop-i.invariant.small, c.turn_before-winding.ensures.small));
    }

pub returns-clause-black : goal.returns-clause-black
returns-clause-black c =
    let column : SFits w64 c.args.c = c.ranges.c in
    let done : c.loop-i.i ≡ length c.args.self.now.edges = omega (arith, c.loop-i.auto.i-end, c.loop-i-test.false, c.loop-i.invariant.end) in
    let all : take c.loop-i.i c.args.self.now.edges ≡ c.args.self.now.edges = rw done (take-length c.args.self.now.edges) in
    let clear : lies_on_one c.args.self.now.edges (column_x c.args.at.frame.margin c.args.c) c.args.at.y ≡ false = rw all at (simp to_z-of_z at c.loop-i.invariant.clear) in
    let winding : to_z w64 c.loop-i.winding-bits ≡ winding c.args.self.now.edges (column_x c.args.at.frame.margin c.args.c) c.args.at.y = rw all at (simp to_z-of_z at c.loop-i.invariant.winding) in
    rw (clear, ← winding) (grind (arith, ints, nat_tests))
