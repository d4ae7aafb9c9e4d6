use Rattle.std.proofs.Common.{arith}
use Rattle.std.proofs.lemmas.Int.{clamps, ints}
use Rattle.tt_scan_gaps.proofs.columns.with.Goals as goal

pub returns-clause-low : goal.returns-clause-low
returns-clause-low c =
    let low = c.requires.extent.low in
    omega (arith, ints, clamps, low, c.requires.a, c.requires.b, c.min.ensures.value, c.min-2.ensures.value)

pub returns-clause-high : goal.returns-clause-high
returns-clause-high c =
    let high = c.requires.extent.high in
    omega (arith, ints, clamps, high, c.requires.a, c.requires.b, c.max.ensures.value, c.max-2.ensures.value)

pub returns-clause-fits : goal.returns-clause-fits
returns-clause-fits c =
    let a = c.requires.a in
    let b = c.requires.b in
    record {
      low = omega (arith, ints, clamps, c.requires.extent.low, a, b, c.min.ensures.value, c.min-2.ensures.value);
      high = omega (arith, ints, clamps, c.requires.extent.high, a, b, c.max.ensures.value, c.max-2.ensures.value);
    }
