use Rattle.std.proofs.Common.{◌≡◌, refl, sym, ◌∙◌, ◌<◌, Bool, false, pos, get_or, length}
use Rattle.std.proofs.lemmas.List.{take_all}
use Rattle.std.proofs.lemmas.List.Folds.{list_any_at, list_any_more}
use Rattle.tt_scan_edges.specs.declared.edge.Edge.{Edge}
use Rattle.tt_scan_gaps.specs.Seen.{seen_by}
use Rattle.tt_scan_dropouts.specs.Rising.{is_tested}
use Rattle.tt_scan_dropouts.specs.Seen.{is_black_on}
use Rattle.tt_glyph_pixels.proofs.rising.some_tested_over.Goals as goal

pub returns-then-is_tested : goal.returns-then-is_tested
returns-then-is_tested c =
    let es = c.args.edges.now in
    let i = c.loop-edge.edge-index in
    let d : Edge = record { ax = pos 0; ay = pos 0; bx = pos 0; by = pos 0 } in
    let below : i < length es = c.loop-edge-test.true in
    let tested : Edge → Bool = λ e. is_tested c.args.stubs (is_black_on c.args.over c.args.inked.now) (seen_by c.args.over e) in
    sym (list_any_at tested es i d below (sym c.is_tested.ensures ∙ c.if-is_tested.true))

pub loop-edge-preserved : goal.loop-edge-preserved
loop-edge-preserved c =
    let es = c.args.edges.now in
    let i = c.loop-edge.edge-index in
    let d : Edge = record { ax = pos 0; ay = pos 0; bx = pos 0; by = pos 0 } in
    let below : i < length es = c.loop-edge-test.true in
    let tested : Edge → Bool = λ e. is_tested c.args.stubs (is_black_on c.args.over c.args.inked.now) (seen_by c.args.over e) in
    let not : tested (get_or es i d) ≡ false = sym c.is_tested.ensures ∙ c.if-is_tested.false in
    list_any_more tested es i d below ∙ rw (c.loop-edge.invariant, not) refl

pub returns : goal.returns
returns c =
    sym (rw (take_all c.loop-edge.edge-index c.args.edges.now c.loop-edge-test.false) at c.loop-edge.invariant)
