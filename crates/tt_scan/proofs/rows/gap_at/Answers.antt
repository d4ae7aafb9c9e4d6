use Rattle.std.proofs.Common.{◌+ℤ◌, ◌-ℤ◌, ◌*ℤ◌, pos, SFits, w32, rules, refl, arith}
use Rattle.std.proofs.lemmas.Int.{ints, to_z-of_z}
use Rattle.tt_scan.proofs.Gaps.{gap_above, no_gap, line_fits}
use Rattle.tt_scan.proofs.rows.gap_at.Goals as goal

pub returns-then-low-y : goal.returns-then-low-y
returns-then-low-y c =
    let y : SFits w32 c.args.y = c.ranges.y in
    let from : SFits w32 (c.args.y +ℤ pos 4096) = omega (arith, ints, c.requires) in
    let j : SFits w32 c.whole_lines.result = search rules in
    let under = simp to_z-of_z at c.whole_lines.ensures.low in
    let over = simp to_z-of_z at c.whole_lines.ensures.high in
    let fits = line_fits c.args.y c.whole_lines.result c.requires under over in
    let times : SFits w32 (pos 8192 *ℤ c.whole_lines.result) = fits.times in
    let low : SFits w32 ((pos 8192 *ℤ c.whole_lines.result) -ℤ pos 4096) = fits.low in
    let high : SFits w32 (((pos 8192 *ℤ c.whole_lines.result) -ℤ pos 4096) +ℤ pos 8192) = fits.high in
    simp to_z-of_z (gap_above c.args.y c.whole_lines.result ((pos 8192 *ℤ c.whole_lines.result) -ℤ pos 4096) refl over
    (simp to_z-of_z at c.if-low-y.true))

pub returns-else-low-y : goal.returns-else-low-y
returns-else-low-y c = no_gap c.args.y _
