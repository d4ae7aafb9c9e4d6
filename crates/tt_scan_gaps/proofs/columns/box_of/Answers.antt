use Rattle.std.proofs.Common.{◌≡◌, ◌<◌, ◌∙◌, sym, SFits, w32, get_or, length, map, pos, arith, rules}
use Rattle.std.proofs.lemmas.Int.{ints, to_z-of_z}
use Rattle.tt_scan_edges.specs.declared.edge.Edge.{Edge}
use Rattle.tt_scan_gaps.specs.Boxes.{greatest_x, least_x}
use Rattle.tt_scan_gaps.specs.Seen.{turned_round}
use Rattle.tt_scan_gaps.proofs.Boxes.{box_from_first, box_turned_from_first}
use Rattle.tt_scan_gaps.proofs.columns.box_of.Goals as goal

pub returns-clause-columns : goal.returns-clause-columns
returns-clause-columns c =
    let es = c.args.edges.now in
    let none : Edge = record { ax = pos 0; ay = pos 0; bx = pos 0; by = pos 0 } in
    let some : 0 < length es = search rules in
    let x : SFits w32 (get_or es 0 none).ax = omega (arith, ints, (c.requires 0 none some).ax) in
    let low : SFits w32 c.extents.result.0.low = omega (arith, ints, c.extents.ensures.fit.0.low) in
    let high : SFits w32 c.extents.result.0.high = omega (arith, ints, c.extents.ensures.fit.0.high) in
    let found = c.extents.ensures in
    let left : c.extents.result.0.low ≡ least_x (get_or es 0 none).ax es = simp to_z-of_z at found.left in
    let right : c.extents.result.0.high ≡ greatest_x (get_or es 0 none).ax es = simp to_z-of_z at found.right in
    let exact = simp to_z-of_z at c.columns_between.ensures.exact in
    rw (left, right) at exact ∙ sym (box_from_first es none some)

pub returns-clause-rows : goal.returns-clause-rows
returns-clause-rows c =
    let es = c.args.edges.now in
    let none : Edge = record { ax = pos 0; ay = pos 0; bx = pos 0; by = pos 0 } in
    let some : 0 < length es = search rules in
    let y : SFits w32 (get_or es 0 none).ay = omega (arith, ints, (c.requires 0 none some).ay) in
    let low : SFits w32 c.extents.result.1.low = omega (arith, ints, c.extents.ensures.fit.1.low) in
    let high : SFits w32 c.extents.result.1.high = omega (arith, ints, c.extents.ensures.fit.1.high) in
    let found = c.extents.ensures in
    let turned = map turned_round es in
    let bottom : c.extents.result.1.low ≡ least_x (get_or es 0 none).ay turned = simp to_z-of_z at found.bottom in
    let top : c.extents.result.1.high ≡ greatest_x (get_or es 0 none).ay turned = simp to_z-of_z at found.top in
    let exact = simp to_z-of_z at c.columns_between-2.ensures.exact in
    rw (bottom, top) at exact ∙ sym (box_turned_from_first es none some)
