use Rattle.std.proofs.Common.{sym, ◌∙◌, ap, rules, SFits, w32, w64}
use Rattle.std.proofs.lemmas.Int.{to_z-of_z}
use Rattle.tt_scan_gaps.specs.Crossings.{centre}
use Rattle.tt_scan_gaps.proofs.Walks.{by_the_way_back}
use Rattle.tt_scan_gaps.proofs.stub.is_of_stub.Goals as goal

pub returns-else-is_stub : goal.returns-else-is_stub
returns-else-is_stub c =
    let line : SFits w32 c.args.c.line = search rules in
    let wide : SFits w64 c.from.result = search rules in
    let height : SFits w64 c.centre-y.result = search rules in
    let from = simp to_z-of_z at c.from.ensures in
    let y = simp to_z-of_z at c.centre-y.ensures in
    let there = simp to_z-of_z at c.way.ensures in
    let back = simp to_z-of_z at c.way-else-is_stub.ensures in
    c.is_stub-else-is_stub.ensures
    ∙ by_the_way_back c.args.steps.now c.args.k c.args.c c.centre-y.result c.way.result c.way-else-is_stub.result
    (y ∙ ap centre from) there back (sym c.is_stub.ensures ∙ c.if-is_stub.false)
