use Rattle.std.proofs.Common.{◌≡◌, ◌+ℤ◌, SFits, w64, ap, refl, rules, arith}
use Rattle.std.proofs.lemmas.Int.{ints, to_z-of_z}
use Rattle.tt_fit_outline.specs.Component.{transformed}
use Rattle.tt_fit_outline.proofs.component.landed.Goals as goal

pub returns : goal.returns
returns c =
    let x : SFits w64 c.transformed-to.result.x = search rules in
    let y : SFits w64 c.transformed-to.result.y = search rules in
    let by_x : SFits w64 c.args.by.x = search rules in
    let by_y : SFits w64 c.args.by.y = search rules in
    let sum_x : SFits w64 (c.transformed-to.result.x +ℤ c.args.by.x) = omega
    (arith, ints, c.transformed-to.result.x_fits, c.args.by.x_fits) in
    let sum_y : SFits w64 (c.transformed-to.result.y +ℤ c.args.by.y) = omega
    (arith, ints, c.transformed-to.result.y_fits, c.args.by.y_fits) in
    let is_x : c.transformed-to.result.x ≡ (transformed c.args.halves c.args.part c.args.point).0 = ap
    (λ p. p.0) c.transformed-to.ensures in
    let is_y : c.transformed-to.result.y ≡ (transformed c.args.halves c.args.part c.args.point).1 = ap
    (λ p. p.1) c.transformed-to.ensures in
    simp to_z-of_z (rw (is_x, is_y) refl)
