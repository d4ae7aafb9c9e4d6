use Rattle.std.proofs.Common.{◌<◌, ◌*◌, ℤ, unsigned_abs, SFits, w32, w64, of_z, ap, rules, arith, refl}
use Rattle.std.proofs.lemmas.Int.{to_z-of_z}
use Rattle.tt_core.proofs.Quotients.{times_one_or_more}
use Rattle.tt_axes.proofs.Lists.{small-product}
use Rattle.tt_axes.proofs.Signed.{apart, unequal-words}
use Rattle.tt_axes.proofs.avar.between.Goals as goal

pub product_quotient-requires-clause-product : goal.product_quotient-requires-clause-product
product_quotient-requires-clause-product c =
    let fc = c.ranges.coordinate in
    let f1 : SFits w32 c.args.low.from = search rules in
    let f2 : SFits w32 c.args.low.to = search rules in
    let f3 : SFits w32 c.args.high.to = search rules in
    let p : SFits w64 c.difference-part.result = search rules in
    let r : SFits w64 c.difference-rise.result = search rules in
    let part = simp to_z-of_z at c.difference-part.ensures.bound in
    let rise = simp to_z-of_z at c.difference-rise.ensures.bound in
    simp to_z-of_z
    (small-product _ _ (omega (arith, part, c.requires, c.args.low.from_near)) (omega (arith, rise, c.args.high.to_near, c.args.low.to_near)))

pub sum-requires : goal.sum-requires
sum-requires c =
    let fc = c.ranges.coordinate in
    let f1 : SFits w32 c.args.low.from = search rules in
    let f2 : SFits w32 c.args.low.to = search rules in
    let f3 : SFits w32 c.args.high.to = search rules in
    let f4 : SFits w32 c.args.high.from = search rules in
    let p : SFits w64 c.difference-part.result = search rules in
    let r : SFits w64 c.difference-rise.result = search rules in
    let w : SFits w64 c.difference-whole.result = search rules in
    let q : SFits w64 c.product_quotient.result = search rules in
    let part = simp to_z-of_z at c.difference-part.ensures.bound in
    let rise = simp to_z-of_z at c.difference-rise.ensures.bound in
    let product = small-product (unsigned_abs c.difference-part.result) (unsigned_abs c.difference-rise.result)
    (omega (arith, part, c.requires, c.args.low.from_near)) (omega (arith, rise, c.args.high.to_near, c.args.low.to_near)) in
    let most = unsigned_abs c.difference-part.result * unsigned_abs c.difference-rise.result in
    let within = simp to_z-of_z at (c.product_quotient.ensures.within most) in
    let whole = simp to_z-of_z at c.difference-whole.ensures.exact in
    let differ : 0 < unsigned_abs c.difference-whole.result =
    rw whole (apart c.args.high.from c.args.low.from (λ e. c.if-high-low.false (ap (λ (z : ℤ). of_z w32 z) e))) in
    let less = within (times_one_or_more (unsigned_abs c.difference-whole.result) most differ) in
    simp to_z-of_z (omega (arith, less, product))

pub returns : goal.returns
returns c =
    let fc = c.ranges.coordinate in
    let f1 : SFits w32 c.args.low.from = search rules in
    let f2 : SFits w32 c.args.low.to = search rules in
    let f3 : SFits w32 c.args.high.to = search rules in
    let f4 : SFits w32 c.args.high.from = search rules in
    let p : SFits w64 c.difference-part.result = search rules in
    let r : SFits w64 c.difference-rise.result = search rules in
    let w : SFits w64 c.difference-whole.result = search rules in
    let q : SFits w64 c.product_quotient.result = search rules in
    let s : SFits w64 c.sum.result = search rules in
    let other = unequal-words c.args.high.from c.args.low.from c.if-high-low.false in
    let exact = simp to_z-of_z at c.product_quotient.ensures.exact in
    let part = simp to_z-of_z at c.difference-part.ensures.exact in
    let rise = simp to_z-of_z at c.difference-rise.ensures.exact in
    let whole = simp to_z-of_z at c.difference-whole.ensures.exact in
    let all = rw (part, rise, whole) at exact in
    let added = simp to_z-of_z at c.sum.ensures in
    simp to_z-of_z (rw (other, added, all) refl)
