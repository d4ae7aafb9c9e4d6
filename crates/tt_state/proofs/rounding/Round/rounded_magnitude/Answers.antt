use Rattle.std.proofs.Common.{SFits, w64, pos, ◌+ℤ◌, rules, arith}
use Rattle.std.proofs.lemmas.Int.{ints, to_z-of_z}
use Rattle.tt_state.proofs.rounding.Round.rounded_magnitude.Goals as goal

pub returns-in-Grid-clause-exact : goal.returns-in-Grid-clause-exact
returns-in-Grid-clause-exact c =
    let m : SFits w64 c.args.m.size = omega (arith, ints, c.args.m.small) in
    let lifted : SFits w64 (c.args.m.size +ℤ pos 32) = omega (arith, ints, c.args.m.small) in
    let fits : SFits w64 c.cut.result = search rules in
    let cut = simp to_z-of_z at c.cut.ensures.exact in
    simp to_z-of_z (rw c.in-Grid.is cut)
