use Rattle.std.proofs.Common.{◌≡◌, SFits, w64, pos, ◌-ℤ◌, ◌*ℤ◌, arith}
use Rattle.std.specs.Int.{int_div_euclid}
use Rattle.std.proofs.lemmas.Int.{ints, to_z-of_z}
use Rattle.tt_scan_gaps.proofs.Tables.{split}
use Rattle.tt_scan_gaps.proofs.both_ways.left_of.Goals as goal

pub returns-clause-exact : goal.returns-clause-exact
returns-clause-exact c =
    let n = c.args.n in
    let q = c.whole_tables.result in
    let parts = split n in
    let own : SFits w64 n = c.ranges.n in
    let is : q ≡ int_div_euclid n (pos 128) = simp (to_z-of_z, own) at c.whole_tables.ensures.exact in
    let fits : SFits w64 q = omega (arith, ints, c.whole_tables.ensures.small) in
    let whole : SFits w64 (pos 128 *ℤ q) = omega (arith, ints, c.whole_tables.ensures.small) in
    let left : SFits w64 (n -ℤ pos 128 *ℤ q) = omega (arith, ints, is, parts.is, parts.low, parts.high) in
    simp (to_z-of_z, own, fits, whole, left) (omega (arith, ints, is, parts.is))

pub returns-clause-within : goal.returns-clause-within
returns-clause-within c =
    let n = c.args.n in
    let q = c.whole_tables.result in
    let parts = split n in
    let own : SFits w64 n = c.ranges.n in
    let is : q ≡ int_div_euclid n (pos 128) = simp (to_z-of_z, own) at c.whole_tables.ensures.exact in
    let fits : SFits w64 q = omega (arith, ints, c.whole_tables.ensures.small) in
    let whole : SFits w64 (pos 128 *ℤ q) = omega (arith, ints, c.whole_tables.ensures.small) in
    let left : SFits w64 (n -ℤ pos 128 *ℤ q) = omega (arith, ints, is, parts.is, parts.low, parts.high) in
    simp (to_z-of_z, own, fits, whole, left) (omega (arith, ints, is, parts.is, parts.low, parts.high))

pub returns-clause-low : goal.returns-clause-low
returns-clause-low c =
    let n = c.args.n in
    let q = c.whole_tables.result in
    let parts = split n in
    let own : SFits w64 n = c.ranges.n in
    let is : q ≡ int_div_euclid n (pos 128) = simp (to_z-of_z, own) at c.whole_tables.ensures.exact in
    let fits : SFits w64 q = omega (arith, ints, c.whole_tables.ensures.small) in
    let whole : SFits w64 (pos 128 *ℤ q) = omega (arith, ints, c.whole_tables.ensures.small) in
    let left : SFits w64 (n -ℤ pos 128 *ℤ q) = omega (arith, ints, is, parts.is, parts.low, parts.high) in
    simp (to_z-of_z, own, fits, whole, left) (omega (arith, ints, is, parts.is, parts.low))
