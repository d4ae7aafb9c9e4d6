use Rattle.std.proofs.Common.{List, map, get_or}
use Rattle.std.specs.Prelude.{All}
use Rattle.std.proofs.lemmas.List.{take_all}
use Rattle.std.proofs.lemmas.List.Elements.{All-map}
use Rattle.tt_scan_edges.specs.Winding.{EdgeFits}
use Rattle.tt_scan_edges.specs.declared.edge.Edge.{Edge}
use Rattle.tt_scan_gaps.specs.Seen.{turned_round}
use Rattle.tt_scan_gaps.proofs.seen.all_turned_round.Goals as goal

edge_turned : (e : Edge) → EdgeFits e → EdgeFits (turned_round e)
edge_turned e h = record { ax = h.ay; ay = h.ax; bx = h.by; by = h.bx }

fits_turned : (es : List Edge) → All EdgeFits es → All EdgeFits (map turned_round es)
fits_turned es h = All-map EdgeFits turned_round es (λ i d less. edge_turned (get_or es i d) (h i d less))

pub returns-clause-fit : goal.returns-clause-fit
returns-clause-fit c =
    let es = c.args.edges.now in
    rw (c.loop-edge.invariant.so_far, take_all c.loop-edge.edge-index es c.loop-edge-test.false) (fits_turned es c.requires)
