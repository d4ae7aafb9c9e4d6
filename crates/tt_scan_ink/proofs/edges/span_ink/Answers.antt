use Rattle.std.proofs.Common.{◌≡◌, ◌≤ℤ◌, ◌<ℤ◌, SFits, w64, rules, arith}
use Rattle.std.specs.Int.{int_max, int_min}
use Rattle.std.proofs.lemmas.Int.{ints, to_z-of_z}
use Rattle.tt_scan_ink.proofs.Regions.{span_is, span_none}
use Rattle.tt_scan_ink.proofs.edges.span_ink.Goals as goal

pub returns-then-left-right : goal.returns-then-left-right
returns-then-left-right c =
    let first : SFits w64 c.args.span.first = search rules in
    let last : SFits w64 c.args.span.last = search rules in
    let low : SFits w64 c.args.columns.first = search rules in
    let high : SFits w64 c.args.columns.last = search rules in
    let line : SFits w64 c.args.line = c.ranges.line in
    let from : SFits w64 c.max-left.result = search rules in
    let to : SFits w64 c.min-right.result = search rules in
    let left : c.max-left.result ≡ int_max c.args.span.first c.args.columns.first =
    simp to_z-of_z at c.max-left.ensures.value in
    let right : c.min-right.result ≡ int_min c.args.span.last c.args.columns.last =
    simp to_z-of_z at c.min-right.ensures.value in
    let test = simp to_z-of_z at c.if-left-right.true in
    let order : c.max-left.result ≤ℤ c.min-right.result = grind (arith, ints, test) in
    simp to_z-of_z (span_is c.args.columns c.args.span c.args.line c.max-left.result c.min-right.result
    (record { left = left; right = right }) order)

pub returns-else-left-right : goal.returns-else-left-right
returns-else-left-right c = λ k j.
    let first : SFits w64 c.args.span.first = search rules in
    let last : SFits w64 c.args.span.last = search rules in
    let low : SFits w64 c.args.columns.first = search rules in
    let high : SFits w64 c.args.columns.last = search rules in
    let from : SFits w64 c.max-left.result = search rules in
    let to : SFits w64 c.min-right.result = search rules in
    let left : c.max-left.result ≡ int_max c.args.span.first c.args.columns.first =
    simp to_z-of_z at c.max-left.ensures.value in
    let right : c.min-right.result ≡ int_min c.args.span.last c.args.columns.last =
    simp to_z-of_z at c.min-right.ensures.value in
    let test = simp to_z-of_z at c.if-left-right.false in
    let order : c.min-right.result <ℤ c.max-left.result = grind (arith, ints, test) in
    span_none c.args.columns c.args.span c.args.line c.max-left.result c.min-right.result k j
    (record { left = left; right = right }) order
