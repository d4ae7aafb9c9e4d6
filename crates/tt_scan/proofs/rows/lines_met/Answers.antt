use Rattle.std.proofs.Common.{◌∙◌, sym, ◌+ℤ◌, ◌-ℤ◌, ◌*ℤ◌, pos, SFits, w32, rules, arith}
use Rattle.std.proofs.lemmas.Int.{ints, clamps, to_z-of_z}
use Rattle.tt_scan_edges.proofs.Ranges.{between_from}
use Rattle.tt_scan.proofs.rows.lines_met.Goals as goal

pub returns-clause-exact : goal.returns-clause-exact
returns-clause-exact c = λ k.
    let ay : SFits w32 c.args.edge.ay = search rules in
    let by : SFits w32 c.args.edge.by = search rules in
    let min : SFits w32 c.min.result = search rules in
    let max : SFits w32 c.max.result = search rules in
    let is_min = simp to_z-of_z at c.min.ensures.value in
    let is_max = simp to_z-of_z at c.max.ensures.value in
    let low : SFits w32 (c.min.result +ℤ pos 4096) = omega (arith, ints, clamps) in
    let high : SFits w32 (c.max.result +ℤ pos 4096) = omega (arith, ints, clamps) in
    simp to_z-of_z at (c.lines_between.ensures.exact k)
    ∙ sym (between_from c.args.edge.ay c.args.edge.by (pos 8192 *ℤ k -ℤ pos 4096) (c.min.result +ℤ pos 4096) (c.max.result +ℤ pos 4096) (pos 8192 *ℤ k)
    (omega (arith, ints)) (omega (arith, ints)))
