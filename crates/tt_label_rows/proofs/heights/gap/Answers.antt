use Rattle.std.proofs.Common.{◌≤◌, SFits, w64, unsigned_abs, arith, rules}
use Rattle.std.proofs.lemmas.Int.{ints, to_z-of_z}
use Rattle.tt_label_rows.proofs.heights.gap.Goals as goal

pub returns-clause-bound : goal.returns-clause-bound
returns-clause-bound c =
    let units : SFits w64 c.units_at.result = omega (arith, ints, c.units_at.ensures.bound) in
    let em : SFits w64 c.from-em.result = search rules in
    let fits : SFits w64 c.rq.result = search rules in
    let within = simp to_z-of_z at (c.rq.ensures.within 614400) in
    let high = simp to_z-of_z at c.at_least.ensures.high in
    let small : unsigned_abs c.rq.result ≤ 614400 = within (omega (arith, ints, c.units_at.ensures.bound, c.units_per_em.ensures.low, c.from-em.ensures)) in
    omega (arith, high, small)
