use Rattle.std.proofs.Common.{SFits, w32, refl, rules}
use Rattle.std.proofs.lemmas.Int.{to_z-of_z}
use Rattle.tt_points.proofs.moving.refer.Goals as goal

pub returns-then-rp0 : goal.returns-then-rp0
returns-then-rp0 c =
    let p : SFits w32 c.args.p = c.ranges.p in
    let rp0 : SFits w32 c.args.state.now.rp0 = search rules in
    simp to_z-of_z (rw c.if-rp0.true refl)

pub returns-else-rp0 : goal.returns-else-rp0
returns-else-rp0 c =
    let p : SFits w32 c.args.p = c.ranges.p in
    let rp0 : SFits w32 c.args.state.now.rp0 = search rules in
    simp to_z-of_z (rw c.if-rp0.false refl)
