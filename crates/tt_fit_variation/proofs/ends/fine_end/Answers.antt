use Rattle.std.proofs.Common.{◌≡◌, ◌^◌, pos, ◌+ℤ◌, ◌*ℤ◌, SFits, w32, w64, refl, rules, arith}
use Rattle.std.proofs.lemmas.Int.{ints, to_z-of_z}
use Rattle.tt_axes.specs.Rounding.{sixty_fourths}
use Rattle.tt_fit_variation.proofs.Near.{end_near}
use Rattle.tt_fit_variation.proofs.ends.fine_end.Goals as goal

pub fine_scaled-requires-clause-near : goal.fine_scaled-requires-clause-near
fine_scaled-requires-clause-near c =
    let v : SFits w32 c.args.v = search rules in
    let d : SFits w64 c.args.delta = search rules in
    let a : SFits w64 c.from.result = search rules in
    let r : SFits w64 c.sixty_fourths.result = search rules in
    let within = simp to_z-of_z at c.sixty_fourths.ensures.within in
    let few = within (2 ^ 36) (omega (arith, c.requires.delta)) in
    let v_is : c.from.result ≡ c.args.v = simp to_z-of_z at c.from.ensures in
    let part : c.sixty_fourths.result ≡ sixty_fourths c.args.delta = simp to_z-of_z at c.sixty_fourths.ensures.exact in
    let first : SFits w64 (pos 64 *ℤ c.from.result) = omega (arith, ints, v_is, v) in
    let second : SFits w64 (pos 64 *ℤ c.from.result +ℤ c.sixty_fourths.result) = omega (arith, ints, v_is, v, few) in
    simp to_z-of_z (rw (v_is, part) (end_near c.args.v c.args.delta c.requires.near))

pub returns : goal.returns
returns c =
    let v : SFits w32 c.args.v = search rules in
    let d : SFits w64 c.args.delta = search rules in
    let a : SFits w64 c.from.result = search rules in
    let r : SFits w64 c.sixty_fourths.result = search rules in
    let within = simp to_z-of_z at c.sixty_fourths.ensures.within in
    let few = within (2 ^ 36) (omega (arith, c.requires.delta)) in
    let v_is : c.from.result ≡ c.args.v = simp to_z-of_z at c.from.ensures in
    let part : c.sixty_fourths.result ≡ sixty_fourths c.args.delta = simp to_z-of_z at c.sixty_fourths.ensures.exact in
    let first : SFits w64 (pos 64 *ℤ c.from.result) = omega (arith, ints, v_is, v) in
    let second : SFits w64 (pos 64 *ℤ c.from.result +ℤ c.sixty_fourths.result) = omega (arith, ints, v_is, v, few) in
    let f : SFits w64 c.fine_scaled.result = search rules in
    let exact = simp to_z-of_z at c.fine_scaled.ensures.exact in
    simp to_z-of_z (rw (exact, v_is, part) refl)
