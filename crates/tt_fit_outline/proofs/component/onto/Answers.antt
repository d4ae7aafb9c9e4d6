use Rattle.std.proofs.Common.{◌≡◌, ◌-ℤ◌, SFits, w64, w32, ap, refl, rules, arith}
use Rattle.std.proofs.lemmas.Int.{ints, to_z-of_z}
use Rattle.tt_fit_outline.specs.Component.{transformed}
use Rattle.tt_fit_outline.proofs.component.onto.Goals as goal

pub returns : goal.returns
returns c =
    let x : SFits w64 c.transformed-from.result.x = search rules in
    let y : SFits w64 c.transformed-from.result.y = search rules in
    let to_x : SFits w64 c.from.result = search rules in
    let to_y : SFits w64 c.from-2.result = search rules in
    let target_x : SFits w32 c.args.target.0 = search rules in
    let target_y : SFits w32 c.args.target.1 = search rules in
    let same_x = simp to_z-of_z at c.from.ensures in
    let same_y = simp to_z-of_z at c.from-2.ensures in
    let by_x : SFits w64 (c.from.result -ℤ c.transformed-from.result.x) = omega
    (arith, ints, c.transformed-from.result.x_fits) in
    let by_y : SFits w64 (c.from-2.result -ℤ c.transformed-from.result.y) = omega
    (arith, ints, c.transformed-from.result.y_fits) in
    let is_x : c.transformed-from.result.x ≡ (transformed c.args.halves c.args.part c.args.point).0 = ap
    (λ p. p.0) c.transformed-from.ensures in
    let is_y : c.transformed-from.result.y ≡ (transformed c.args.halves c.args.part c.args.point).1 = ap
    (λ p. p.1) c.transformed-from.ensures in
    simp to_z-of_z (rw (is_x, is_y, same_x, same_y) refl)
