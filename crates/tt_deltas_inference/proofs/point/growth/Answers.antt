use Rattle.std.proofs.Common.{◌≡◌, pos, ◌-ℤ◌, SFits, w64, rules, arith}
use Rattle.std.proofs.lemmas.Int.{ints, to_z-of_z}
use Rattle.tt_core.specs.Scales.{away_quotient}
use Rattle.tt_deltas_inference.specs.Inference as is
use Rattle.tt_deltas_inference.proofs.Proportions.{rate_is}
use Rattle.tt_deltas_inference.proofs.point.growth.Goals as goal

pub overflow_sub-result : goal.overflow_sub-result
overflow_sub-result c =
    let way : SFits w64 c.moved_range.result.0 = search rules in
    let rate : SFits w64 c.quotient-rate.result = search rules in
    let few = simp to_z-of_z at c.quotient-rate.ensures.bound in
    omega (arith, ints, c.moved_range.ensures.few, few)

pub returns-clause-exact : goal.returns-clause-exact
returns-clause-exact c = λ order.
    let way : SFits w64 c.moved_range.result.0 = search rules in
    let range : SFits w64 c.range.result.0 = search rules in
    let rate : SFits w64 c.quotient-rate.result = search rules in
    let few = simp to_z-of_z at c.quotient-rate.ensures.bound in
    let exact = simp to_z-of_z at c.quotient-rate.ensures.exact in
    let made : c.quotient-rate.result ≡ away_quotient (is.moved c.args.hi -ℤ is.moved c.args.lo) (c.args.hi.at -ℤ c.args.lo.at) =
    rw (c.moved_range.ensures.exact, c.range.ensures.exact) at exact in
    let is_rate = rate_is c.args.lo c.args.hi order in
    let less : SFits w64 (c.quotient-rate.result -ℤ pos 65536) = omega (arith, ints, c.moved_range.ensures.few, few) in
    rw (is_rate, ← made) (simp to_z-of_z)
