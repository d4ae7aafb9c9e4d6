use Rattle.std.proofs.Common.{SFits, w32, w64, rules}
use Rattle.std.proofs.lemmas.Int.{to_z-of_z}
use Rattle.tt_points_loops.proofs.moving.shpix.Goals as goal

pub returns : goal.returns
returns c =
    let amount : SFits w32 c.args.amount = c.ranges.amount in
    let wide : SFits w64 c.from.result = search rules in
    let by = simp to_z-of_z at c.from.ensures in
    record { exact = rw by at (simp to_z-of_z at c.in_turn.ensures.exact) }
