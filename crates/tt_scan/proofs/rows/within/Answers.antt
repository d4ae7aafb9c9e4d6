use Rattle.std.proofs.Common.{◌+ℤ◌, pos, SFits, w32, rules, arith}
use Rattle.std.proofs.lemmas.Int.{ints, to_z-of_z}
use Rattle.tt_scan_edges.proofs.Ranges.{clipped}
use Rattle.tt_scan.proofs.rows.within.Goals as goal

pub returns-clause-met : goal.returns-clause-met
returns-clause-met c = λ k low high.
    let first : SFits w32 c.args.first = c.ranges.first in
    let last : SFits w32 c.args.last = c.ranges.last in
    let height : SFits w32 c.args.height = c.ranges.height in
    let more : SFits w32 (c.args.last +ℤ pos 1) = omega (arith, ints) in
    let from : SFits w32 c.clamp-from.result = search rules in
    let past : SFits w32 c.clamp.result = search rules in
    let is_from = simp to_z-of_z at c.clamp-from.ensures.value in
    let is_past = simp to_z-of_z at c.clamp.ensures.value in
    simp to_z-of_z (clipped c.args.first c.args.last c.args.height c.clamp-from.result c.clamp.result k is_from is_past low high)
