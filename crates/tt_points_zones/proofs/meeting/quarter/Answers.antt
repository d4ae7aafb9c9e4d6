use Rattle.std.proofs.Common.{pos, ◌+ℤ◌, SFits, w32, arith}
use Rattle.std.specs.Prelude.{int_div}
use Rattle.std.proofs.lemmas.Int.{ints, to_z-of_z, quot_fits}
use Rattle.tt_points_zones.proofs.meeting.quarter.Goals as goal

pub returns : goal.returns
returns c =
    let a : SFits w32 c.args.a = c.ranges.a in
    let b : SFits w32 c.args.b = c.ranges.b in
    let third : SFits w32 c.args.c = c.ranges.c in
    let fourth : SFits w32 c.args.d = c.ranges.d in
    let two : SFits w32 (c.args.a +ℤ c.args.b) = omega (arith, ints) in
    let three : SFits w32 (c.args.a +ℤ c.args.b +ℤ c.args.c) = omega (arith, ints) in
    let four : SFits w32 (c.args.a +ℤ c.args.b +ℤ c.args.c +ℤ c.args.d) = omega (arith, ints) in
    let quarter : SFits w32 (int_div (c.args.a +ℤ c.args.b +ℤ c.args.c +ℤ c.args.d) (pos 4)) =
    quot_fits w32 (c.args.a +ℤ c.args.b +ℤ c.args.c +ℤ c.args.d) (pos 4) four (omega (arith, ints)) in
    simp to_z-of_z
