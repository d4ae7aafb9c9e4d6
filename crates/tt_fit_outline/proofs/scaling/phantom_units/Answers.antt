use Rattle.std.proofs.Common.{◌-ℤ◌, ◌+ℤ◌, SFits, w16, w32, rules, arith, refl}
use Rattle.std.proofs.lemmas.Int.{to_z-of_z, ints}
use Rattle.tt_fit_outline.proofs.scaling.phantom_units.Goals as goal

pub invariant_of-result-clause-left_is_near : goal.invariant_of-result-clause-left_is_near
invariant_of-result-clause-left_is_near c =
    let a : SFits w32 c.from.result = search rules in
    let b : SFits w32 c.from-2.result = search rules in
    let left : SFits w32 (c.from.result -ℤ c.from-2.result) = omega (arith, ints, c.from.ensures, c.from-2.ensures) in
    simp to_z-of_z (omega (arith, ints, c.from.ensures, c.from-2.ensures))

pub invariant_of-result-clause-right_is_near : goal.invariant_of-result-clause-right_is_near
invariant_of-result-clause-right_is_near c =
    let a : SFits w32 c.from.result = search rules in
    let b : SFits w32 c.from-2.result = search rules in
    let d : SFits w32 c.from-3.result = search rules in
    let left : SFits w32 (c.from.result -ℤ c.from-2.result) = omega (arith, ints, c.from.ensures, c.from-2.ensures) in
    let right : SFits w32 (c.from.result -ℤ c.from-2.result +ℤ c.from-3.result) = omega
    (arith, ints, c.from.ensures, c.from-2.ensures, c.from-3.ensures) in
    simp to_z-of_z (omega (arith, ints, c.from.ensures, c.from-2.ensures, c.from-3.ensures))

pub returns : goal.returns
returns c =
    let a : SFits w32 c.from.result = search rules in
    let b : SFits w32 c.from-2.result = search rules in
    let d : SFits w32 c.from-3.result = search rules in
    let left : SFits w32 (c.from.result -ℤ c.from-2.result) = omega (arith, ints, c.from.ensures, c.from-2.ensures) in
    let right : SFits w32 (c.from.result -ℤ c.from-2.result +ℤ c.from-3.result) = omega
    (arith, ints, c.from.ensures, c.from-2.ensures, c.from-3.ensures) in
    let x_min : SFits w16 c.args.x_min = search rules in
    let bearing : SFits w16 c.lsb.result = search rules in
    let ascent : SFits w16 c.ascent.result = search rules in
    let descent : SFits w16 c.descent.result = search rules in
    let x_is = simp to_z-of_z at c.from.ensures in
    let bearing_is = simp to_z-of_z at c.from-2.ensures in
    let up : SFits w32 c.from-4.result = search rules in
    let down : SFits w32 c.from-5.result = search rules in
    let up_is = simp to_z-of_z at c.from-4.ensures in
    let down_is = simp to_z-of_z at c.from-5.ensures in
    let top = c.ascent.ensures in
    simp to_z-of_z
    (rw (x_is, bearing_is, c.lsb.ensures, c.from-3.ensures, c.advance.ensures, up_is, top, down_is, c.descent.ensures) refl)
