use Rattle.std.proofs.Common.{◌≡◌, SFits, w32, w64, pos, ◌+ℤ◌, rules, arith}
use Rattle.std.proofs.lemmas.Int.{clamps, ints, to_z-of_z}
use Rattle.tt_scan_dropouts.proofs.window.end_of.Goals as goal

pub returns-clause-exact : goal.returns-clause-exact
returns-clause-exact c =
    let first : SFits w32 c.args.first = c.ranges.first in
    let from : c.from.result ≡ c.args.first = simp to_z-of_z at c.from.ensures in
    let count : c.from-2.result ≡ pos c.args.count = c.from-2.ensures in
    let sum : SFits w64 (c.from.result +ℤ c.from-2.result) = omega (arith, ints, first, from, count, c.ranges.count) in
    let one : SFits w64 c.from.result = omega (arith, ints, first, from) in
    let other : SFits w64 c.from-2.result = omega (arith, ints, count, c.ranges.count) in
    let last : SFits w64 c.args.columns.last = omega (arith, ints, c.requires) in
    let next : SFits w64 (c.args.columns.last +ℤ pos 1) = omega (arith, ints, c.requires) in
    let result : SFits w64 c.min.result = search rules in
    simp to_z-of_z (rw (from, count) at (simp to_z-of_z at c.min.ensures.value))

pub returns-clause-small : goal.returns-clause-small
returns-clause-small c =
    let exact = returns-clause-exact c in
    rw exact (omega (arith, ints, clamps, c.ranges.first, c.ranges.count, c.requires))
