use Rattle.std.proofs.Common.{◌+ℤ◌, ◌-ℤ◌, pos, SFits, w64, rules, arith}
use Rattle.std.proofs.lemmas.Int.{ints, to_z-of_z}
use lib.IntN.{*ℤ_comm}
use Rattle.tt_core.specs.Products.{mul_diff}
use Rattle.tt_scan_edges.proofs.quotient.divided.Goals as goal

pub returns-then-cut-lt0-clause-exact : goal.returns-then-cut-lt0-clause-exact
returns-then-cut-lt0-clause-exact c =
    let d : SFits w64 c.args.d = c.ranges.d in
    let n : SFits w64 c.args.n = c.ranges.n in
    let was : SFits w64 c.truncated-cut.result.whole = search rules in
    let left : SFits w64 c.truncated-cut.result.rest = search rules in
    let whole : SFits w64 (c.truncated-cut.result.whole -ℤ pos 1) = omega (arith, ints, c.truncated-cut.ensures.small) in
    let rest : SFits w64 (c.truncated-cut.result.rest +ℤ c.args.d) = omega (arith, ints, c.truncated-cut.ensures.near, c.requires.divisor) in
    let exact = simp to_z-of_z at c.truncated-cut.ensures.exact in
    simp to_z-of_z (omega (arith, ints, exact, mul_diff c.args.d c.truncated-cut.result.whole (pos 1), *ℤ_comm c.args.d (pos 1)))
