use Rattle.std.proofs.Common.{SFits, w16, w64, of_z, ap, rules, arith}
use Rattle.std.proofs.lemmas.Int.{ints, to_z-of_z}
use Rattle.tt_deltas_inference.proofs.Choices.{torn, below, beyond}
use Rattle.tt_deltas_inference.proofs.point.delta_between.Goals as goal

pub returns-else-lo-hi-2 : goal.returns-else-lo-hi-2
returns-else-lo-hi-2 c =
    let lo : SFits w16 c.args.between.lo.at = search rules in
    let hi : SFits w16 c.args.between.hi.at = search rules in
    torn c.args.p c.args.between.lo c.args.between.hi (omega (arith, ints, c.if-lo-hi.true))
    (λ same. c.if-lo-hi-2.false (ap (of_z w64) same))

pub returns-then-p-lo : goal.returns-then-p-lo
returns-then-p-lo c =
    let p : SFits w16 c.args.p.at = search rules in
    let lo : SFits w16 c.args.between.lo.at = search rules in
    let low : SFits w64 c.args.between.lo.delta = search rules in
    simp to_z-of_z (below c.args.p c.args.between.lo c.args.between.hi (λ same. c.if-lo-hi.false (ap (of_z w16) same))
    (simp to_z-of_z at c.if-p-lo.true))

pub returns-then-p-hi : goal.returns-then-p-hi
returns-then-p-hi c =
    let p : SFits w16 c.args.p.at = search rules in
    let lo : SFits w16 c.args.between.lo.at = search rules in
    let hi : SFits w16 c.args.between.hi.at = search rules in
    let high : SFits w64 c.args.between.hi.delta = search rules in
    simp to_z-of_z (beyond c.args.p c.args.between.lo c.args.between.hi
    (λ same. c.if-lo-hi.false (ap (of_z w16) same)) (simp to_z-of_z at c.if-p-lo.false)
    (simp to_z-of_z at c.if-p-hi.true))
