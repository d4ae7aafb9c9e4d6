use Rattle.std.proofs.Common.{SFits, w64, arith, rules}
use Rattle.std.proofs.lemmas.Int.{to_z-of_z}
use Rattle.tt_line.proofs.label_extent.gap.Goals as goal

pub returns-clause-bound : goal.returns-clause-bound
returns-clause-bound c =
    let fits : SFits w64 c.units_at.result = search rules in
    let within = simp to_z-of_z at (c.rounded.ensures.within 614400) in
    within (omega (arith, c.units_at.ensures.bound, c.units_per_em.ensures.low))
