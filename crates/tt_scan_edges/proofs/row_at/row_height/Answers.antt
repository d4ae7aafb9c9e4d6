use Rattle.std.proofs.Common.{◌+ℤ◌, ◌-ℤ◌, ◌*ℤ◌, pos, SFits, w64, w32, refl, rules, arith}
use Rattle.std.proofs.lemmas.Int.{ints, to_z-of_z}
use Rattle.tt_scan_edges.proofs.row_at.row_height.Goals as goal

pub returns-clause-exact : goal.returns-clause-exact
returns-clause-exact c =
    let row : SFits w64 c.args.row = c.ranges.row in
    let rise : SFits w32 c.args.frame.rise = search rules in
    let one : SFits w64 c.from.result = search rules in
    let two : SFits w64 c.from-2.result = search rules in
    let is_rise = simp to_z-of_z at c.from.ensures in
    let sum : SFits w64 (c.from.result +ℤ c.from-2.result) = omega (arith, ints) in
    let height : SFits w64 ((c.from.result +ℤ c.from-2.result) -ℤ c.args.row) = omega (arith, ints) in
    let fine : SFits w64 (pos 8192 *ℤ ((c.from.result +ℤ c.from-2.result) -ℤ c.args.row)) = omega (arith, ints) in
    let all : SFits w64 (pos 8192 *ℤ ((c.from.result +ℤ c.from-2.result) -ℤ c.args.row) -ℤ pos 4096) = omega (arith, ints) in
    simp to_z-of_z (rw (is_rise, c.from-2.ensures) refl)
