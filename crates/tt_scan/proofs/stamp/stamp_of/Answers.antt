use Rattle.std.proofs.Common.{pos, negsuc, SFits, w64, rules, arith}
use Rattle.std.proofs.lemmas.Int.{ints, to_z-of_z}
use Rattle.tt_scan_edges.proofs.Orders.{reached}
use Rattle.tt_scan.proofs.Stamped.{span_alone}
use Rattle.tt_scan.proofs.stamp.stamp_of.Goals as goal

pub invariant_of-start-clause-near : goal.invariant_of-start-clause-near
invariant_of-start-clause-near c =
    let first : SFits w64 c.args.span.first = search rules in
    let left = reached c.args.span.first (negsuc 1099511627775) (simp to_z-of_z at c.if-span.false) in
    let right = reached (pos 1099511627776) c.args.span.first (simp to_z-of_z at c.if-span-2.false) in
    simp to_z-of_z (omega (arith, ints, left, right))

pub returns : goal.returns
returns c =
    let first : SFits w64 c.args.span.first = search rules in
    let with = c.in_ok-stamp.ensures in
    λ at. span_alone c.args.span.first c.args.span c.in_ok-stamp.stamp at (simp to_z-of_z at (with.shows at))
