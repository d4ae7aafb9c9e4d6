use Rattle.std.proofs.Common.{◌∙◌, sym, ◌+◌, drop, get_or, pos}
use Rattle.std.specs.List.{flat_map}
use Rattle.tt_scan_edges.specs.declared.edge.Edge.{Edge}
use Rattle.tt_scan_gaps.specs.Gaps.{some_asks}
use Rattle.tt_scan_gaps.specs.Walk.{edge_marks}
use Rattle.tt_scan_gaps.proofs.SmallContours.{edges_from, no_edges_left, one_holds, other_left}
use Rattle.tt_scan_gaps.proofs.dots.some_edge_asks.Goals as goal

abbrev none : Edge
none = record { ax = pos 0; ay = pos 0; bx = pos 0; by = pos 0 }

pub loop-i-preserved : goal.loop-i-preserved
loop-i-preserved c =
    let es = c.args.edges.now in
    let i = c.loop-i.i in
    record {
      rest = other_left (some_asks (edge_marks (get_or es i none))) (some_asks (flat_map edge_marks (drop (i + 1) es)))
          (some_asks (flat_map edge_marks es)) (sym c.edge_asks.ensures ∙ c.if-edge_asks.false)
          (sym (edges_from es i none c.loop-i-test.true) ∙ c.loop-i.invariant.rest);
    }

pub returns-then-edge_asks : goal.returns-then-edge_asks
returns-then-edge_asks c =
    let es = c.args.edges.now in
    let i = c.loop-i.i in
    one_holds (some_asks (edge_marks (get_or es i none))) (some_asks (flat_map edge_marks (drop (i + 1) es)))
    (some_asks (flat_map edge_marks es)) (sym c.edge_asks.ensures ∙ c.if-edge_asks.true)
    (sym (edges_from es i none c.loop-i-test.true) ∙ c.loop-i.invariant.rest)

pub returns : goal.returns
returns c = sym (no_edges_left c.args.edges.now c.loop-i.i c.loop-i-test.false) ∙ c.loop-i.invariant.rest
