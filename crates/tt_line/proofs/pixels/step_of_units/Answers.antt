use Rattle.std.proofs.Common.{◌≡◌, ◌+ℤ◌, ◌*ℤ◌, pos, SFits, w32, w64, arith, rules}
use Rattle.std.proofs.lemmas.Int.{ints, to_z-of_z}
use Rattle.tt_line.proofs.pixels.step_of_units.Goals.{After-rounded}
use Rattle.tt_line.proofs.pixels.step_of_units.Goals as goal

units_then : (c : After-rounded) → c.scaled.result ≡ (pos c.args.units +ℤ c.args.kerning) *ℤ pos c.args.ppem
units_then c =
    let kerning : SFits w32 c.args.kerning = c.ranges.kerning in
    let wide : SFits w32 c.from.result = search rules in
    let fits : SFits w32 (c.from.result +ℤ c.args.kerning) = omega (arith, ints, c.from.ensures, c.ranges.units, c.requires.kerning) in
    rw (c.from.ensures) at (simp to_z-of_z at c.scaled.ensures.exact)

pub returns-clause-exact : goal.returns-clause-exact
returns-clause-exact c =
    let units : SFits w32 c.scaled.result = search rules in
    let wide : SFits w64 c.from-2.result = search rules in
    let from = simp to_z-of_z at c.from-2.ensures in
    rw (from, units_then (goal.at.returns-clause-exact c).After-rounded, c.units_per_em.ensures.exact) at (simp to_z-of_z at c.rounded.ensures.exact)

pub returns-clause-bound : goal.returns-clause-bound
returns-clause-bound c =
    let units : SFits w32 c.scaled.result = search rules in
    let wide : SFits w64 c.from-2.result = search rules in
    let from = simp to_z-of_z at c.from-2.ensures in
    let most = rw from at (simp to_z-of_z at (c.rounded.ensures.within 33554431)) in
    let within = most (omega (arith, c.scaled.ensures.bound, c.units_per_em.ensures.low)) in
    omega (arith, within)
