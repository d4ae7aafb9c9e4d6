use Rattle.std.proofs.Common.{◌^◌, pos, ◌+ℤ◌, ◌-ℤ◌, ◌*ℤ◌, SFits, w64, refl, rules, arith}
use Rattle.std.proofs.lemmas.Int.{ints, to_z-of_z}
use Rattle.tt_fit_variation.proofs.end.EndDeltas.advance.Goals as goal

pub overflow_sub-fine : goal.overflow_sub-fine
overflow_sub-fine c =
    let d : SFits w64 c.args.self.right = search rules in
    let e : SFits w64 c.args.self.left = search rules in
    let a : SFits w64 c.from.result = search rules in
    let r : SFits w64 c.sixty_fourths.result = search rules in
    let l : SFits w64 c.sixty_fourths-2.result = search rules in
    let right_within = simp to_z-of_z at c.sixty_fourths.ensures.within in
    let left_within = simp to_z-of_z at c.sixty_fourths-2.ensures.within in
    let right_few = right_within (2 ^ 36) (omega (arith, c.args.self.right_is_near)) in
    let left_few = left_within (2 ^ 36) (omega (arith, c.args.self.left_is_near)) in
    let first : SFits w64 (pos 64 *ℤ c.from.result) = omega (arith, ints, c.from.ensures, c.ranges.advance.fits) in
    let second : SFits w64 (pos 64 *ℤ c.from.result +ℤ c.sixty_fourths.result) =
    omega (arith, ints, c.from.ensures, c.ranges.advance.fits, right_few) in
    simp to_z-of_z (omega (arith, ints, c.from.ensures, c.ranges.advance.fits, right_few, left_few))

pub overflow_add-fine-2 : goal.overflow_add-fine-2
overflow_add-fine-2 c =
    let d : SFits w64 c.args.self.right = search rules in
    let e : SFits w64 c.args.self.left = search rules in
    let a : SFits w64 c.from.result = search rules in
    let r : SFits w64 c.sixty_fourths.result = search rules in
    let l : SFits w64 c.sixty_fourths-2.result = search rules in
    let right_within = simp to_z-of_z at c.sixty_fourths.ensures.within in
    let left_within = simp to_z-of_z at c.sixty_fourths-2.ensures.within in
    let right_few = right_within (2 ^ 36) (omega (arith, c.args.self.right_is_near)) in
    let left_few = left_within (2 ^ 36) (omega (arith, c.args.self.left_is_near)) in
    let first : SFits w64 (pos 64 *ℤ c.from.result) = omega (arith, ints, c.from.ensures, c.ranges.advance.fits) in
    let second : SFits w64 (pos 64 *ℤ c.from.result +ℤ c.sixty_fourths.result) =
    omega (arith, ints, c.from.ensures, c.ranges.advance.fits, right_few) in
    let third : SFits w64 (pos 64 *ℤ c.from.result +ℤ c.sixty_fourths.result -ℤ c.sixty_fourths-2.result) =
    omega (arith, ints, c.from.ensures, c.ranges.advance.fits, right_few, left_few) in
    simp to_z-of_z (omega (arith, ints, c.from.ensures, c.ranges.advance.fits, right_few, left_few))

pub returns : goal.returns
returns c =
    let d : SFits w64 c.args.self.right = search rules in
    let e : SFits w64 c.args.self.left = search rules in
    let a : SFits w64 c.from.result = search rules in
    let r : SFits w64 c.sixty_fourths.result = search rules in
    let l : SFits w64 c.sixty_fourths-2.result = search rules in
    let right_within = simp to_z-of_z at c.sixty_fourths.ensures.within in
    let left_within = simp to_z-of_z at c.sixty_fourths-2.ensures.within in
    let right_few = right_within (2 ^ 36) (omega (arith, c.args.self.right_is_near)) in
    let left_few = left_within (2 ^ 36) (omega (arith, c.args.self.left_is_near)) in
    let first : SFits w64 (pos 64 *ℤ c.from.result) = omega (arith, ints, c.from.ensures, c.ranges.advance.fits) in
    let second : SFits w64 (pos 64 *ℤ c.from.result +ℤ c.sixty_fourths.result) =
    omega (arith, ints, c.from.ensures, c.ranges.advance.fits, right_few) in
    let third : SFits w64 (pos 64 *ℤ c.from.result +ℤ c.sixty_fourths.result -ℤ c.sixty_fourths-2.result) =
    omega (arith, ints, c.from.ensures, c.ranges.advance.fits, right_few, left_few) in
    let fourth : SFits w64 (pos 64 *ℤ c.from.result +ℤ c.sixty_fourths.result -ℤ c.sixty_fourths-2.result +ℤ pos 32) =
    omega (arith, ints, c.from.ensures, c.ranges.advance.fits, right_few, left_few) in
    let q : SFits w64 c.div_euclid.result = search rules in
    let z : SFits w64 c.clamp.result = search rules in
    let right_is = simp to_z-of_z at c.sixty_fourths.ensures.exact in
    let left_is = simp to_z-of_z at c.sixty_fourths-2.ensures.exact in
    let quotient = simp to_z-of_z at c.div_euclid.ensures in
    let value = simp to_z-of_z at c.clamp.ensures.value in
    simp to_z-of_z (rw (value, quotient, c.from.ensures, right_is, left_is) refl)
