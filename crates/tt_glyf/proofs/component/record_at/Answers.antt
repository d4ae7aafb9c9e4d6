use Rattle.std.proofs.Common.{SFits, w32, rules}
use Rattle.std.proofs.lemmas.Int.{to_z-of_z}
use Rattle.tt_glyf.proofs.component.record_at.Goals as goal

pub returns-clause-arguments : goal.returns-clause-arguments
returns-clause-arguments c =
    let first : SFits w32 c.in_ok-arg1.arg1 = search rules in
    let second : SFits w32 c.in_ok-arg2.arg2 = search rules in
    simp to_z-of_z (c.in_ok-arg1.ensures.bound, c.in_ok-arg2.ensures.bound)
