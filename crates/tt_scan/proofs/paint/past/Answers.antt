use Rattle.std.proofs.Common.{◌≡◌, ◌+ℤ◌, ◌-ℤ◌, pos, SFits, w64, rules, arith}
use Rattle.std.specs.Int.{int_min, int_max}
use Rattle.std.proofs.lemmas.Int.{ints, to_z-of_z}
use Rattle.tt_scan_edges.proofs.Ranges.{before_fits, one_after, placed_past, within_fits}
use Rattle.tt_scan.proofs.paint.past.Goals as goal

pub returns : goal.returns
returns c = λ k within.
    let at : SFits w64 c.args.at = c.ranges.at in
    let low : SFits w64 c.args.shown.low = search rules in
    let before : SFits w64 (c.args.shown.low -ℤ pos 1) = before_fits c.args.shown.low c.requires in
    let width : SFits w64 c.from.result = search rules in
    let small : SFits w64 ((c.args.shown.low -ℤ pos 1) +ℤ c.from.result) = omega (arith, ints, c.requires, c.from.ensures) in
    let column : SFits w64 c.clamp.result = search rules in
    let is : c.clamp.result ≡ int_max (c.args.shown.low -ℤ pos 1) (int_min c.args.at ((c.args.shown.low -ℤ pos 1) +ℤ pos c.args.shown.width)) =
    rw c.from.ensures at (simp to_z-of_z at c.clamp.ensures.value) in
    let above = simp to_z-of_z at c.clamp.ensures.lower_bound in
    let below = rw c.from.ensures at (simp to_z-of_z at c.clamp.ensures.upper_bound) in
    let far : SFits w64 (c.clamp.result -ℤ (c.args.shown.low -ℤ pos 1)) = within_fits c.clamp.result (c.args.shown.low -ℤ pos 1) c.args.shown.width (search rules) above below in
    let one : (c.args.shown.low -ℤ pos 1) +ℤ pos 1 ≡ c.args.shown.low = one_after c.args.shown.low in
    simp to_z-of_z (rw one at (placed_past c.args.at c.clamp.result (c.args.shown.low -ℤ pos 1) c.args.shown.width k is within))
