use Rattle.std.proofs.Common.{◌≡◌, refl, sym, ◌∙◌, ◌<◌, false, pos, get_or, length}
use Rattle.std.proofs.lemmas.List.{take_all}
use Rattle.std.proofs.lemmas.List.Folds.{list_any_more}
use Rattle.tt_scan_edges.specs.declared.edge.Edge.{Edge}
use Rattle.tt_scan_gaps.specs.Walk.{is_in_free_gap}
use Rattle.tt_scan_dropouts.specs.Seen.{is_black_to}
use Rattle.tt_scan_dropouts.proofs.marks.some_in_free_gap.Goals as goal

pub loop-edge-preserved : goal.loop-edge-preserved
loop-edge-preserved c =
    let es = c.args.edges.now in
    let i = c.loop-edge.edge-index in
    let d : Edge = record { ax = pos 0; ay = pos 0; bx = pos 0; by = pos 0 } in
    let below : i < length es = c.loop-edge-test.true in
    let free = is_in_free_gap false (is_black_to c.args.pass) in
    let not : free (get_or es i d) ≡ false = sym c.is_in_free_gap.ensures ∙ c.if-is_in_free_gap.false in
    list_any_more free es i d below ∙ rw (c.loop-edge.invariant, not) refl

pub returns : goal.returns
returns c = λ none.
    rw (take_all c.loop-edge.edge-index c.args.edges.now c.loop-edge-test.false) at c.loop-edge.invariant
