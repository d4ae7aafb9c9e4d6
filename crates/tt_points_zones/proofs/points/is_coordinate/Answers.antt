use Rattle.std.proofs.Common.{◌≡◌, negsuc, true, false, SFits, w64, arith}
use Rattle.std.specs.Prelude.{int_le}
use Rattle.std.proofs.lemmas.Int.{ints, to_z-of_z}
use Rattle.tt_points_zones.proofs.points.is_coordinate.Goals as goal

pub returns-then-limit-v : goal.returns-then-limit-v
returns-then-limit-v c =
    let v : SFits w64 c.args.v = c.ranges.v in
    let low : int_le (negsuc 2097150) c.args.v ≡ true =
    simp to_z-of_z at (rw c.from-limit.ensures at c.if-limit-v.true) in
    grind (arith, ints, to_z-of_z)

pub returns-else-limit-v : goal.returns-else-limit-v
returns-else-limit-v c =
    let v : SFits w64 c.args.v = c.ranges.v in
    let low : int_le (negsuc 2097150) c.args.v ≡ false =
    simp to_z-of_z at (rw c.from-limit.ensures at c.if-limit-v.false) in
    grind (arith, ints, to_z-of_z)
