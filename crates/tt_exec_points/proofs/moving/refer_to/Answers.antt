use Rattle.std.proofs.Common.{SFits, w32}
use Rattle.std.proofs.lemmas.Int.{to_z-of_z}
use Rattle.tt_exec_points.proofs.moving.refer_to.Goals as goal

pub returns : goal.returns
returns c =
    let p : SFits w32 c.args.p = c.ranges.p in
    simp to_z-of_z
