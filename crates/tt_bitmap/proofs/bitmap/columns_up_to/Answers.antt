use Rattle.std.proofs.Common.{◌≡◌, ◌+ℤ◌, ◌-ℤ◌, pos, SFits, w64, rules, arith}
use Rattle.std.specs.Int.{int_min, int_max}
use Rattle.std.proofs.lemmas.Int.{ints, to_z-of_z}
use Rattle.tt_bitmap.proofs.Ranges.{cut_last, cut_fits}
use Rattle.tt_bitmap.proofs.bitmap.columns_up_to.Goals as goal

pub returns-clause-exact : goal.returns-clause-exact
returns-clause-exact c = λ k within.
    let at : SFits w64 c.args.column = c.ranges.column in
    let low : SFits w64 c.args.low = c.ranges.low in
    let before : SFits w64 (c.args.low -ℤ pos 1) = omega (arith, ints, c.requires) in
    let count : SFits w64 c.from.result = search rules in
    let small : SFits w64 ((c.args.low -ℤ pos 1) +ℤ c.from.result) = omega (arith, ints, c.requires, c.from.ensures) in
    let cut : SFits w64 c.clamp.result = search rules in
    let is : c.clamp.result ≡ int_max (c.args.low -ℤ pos 1) (int_min c.args.column ((c.args.low -ℤ pos 1) +ℤ pos c.args.count)) =
    rw c.from.ensures at (simp to_z-of_z at c.clamp.ensures.value) in
    let above = simp to_z-of_z at c.clamp.ensures.lower_bound in
    let below = rw c.from.ensures at (simp to_z-of_z at c.clamp.ensures.upper_bound) in
    let far : SFits w64 (c.clamp.result -ℤ (c.args.low -ℤ pos 1)) = cut_fits c.clamp.result (c.args.low -ℤ pos 1) c.args.count (search rules) above below in
    let one : (c.args.low -ℤ pos 1) +ℤ pos 1 ≡ c.args.low = omega (arith, ints) in
    simp to_z-of_z (rw one at (cut_last c.args.column c.clamp.result (c.args.low -ℤ pos 1) c.args.count k is within))
