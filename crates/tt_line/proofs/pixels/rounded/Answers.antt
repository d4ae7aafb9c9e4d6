use Rattle.std.proofs.Common.{SFits, w64, arith, rules}
use Rattle.std.proofs.lemmas.Int.{to_z-of_z}
use Rattle.tt_line.proofs.pixels.rounded.Goals as goal

pub returns-clause-within : goal.returns-clause-within
returns-clause-within c most few =
    let units : SFits w64 c.args.units = c.ranges.units in
    let em : SFits w64 c.from.result = search rules in
    let told = simp to_z-of_z at (c.rq.ensures.within most) in
    let within = rw c.from.ensures at told few in
    let fits : SFits w64 c.rq.result = search rules in
    let high = simp to_z-of_z at c.at_least.ensures.high in
    omega (arith, high, within)
