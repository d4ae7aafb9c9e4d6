use Rattle.std.proofs.Common.{ℤ, ap₂, arith}
use Rattle.std.proofs.lemmas.Int.{clamps, ints}
use Rattle.tt_scan_gaps.specs.declared.extent.Extent.{Extent}
use Rattle.tt_arc.proofs.bounds.extent_with.Goals as goal

pub returns-clause-exact : goal.returns-clause-exact
returns-clause-exact c =
    let Q : ℤ → ℤ → Extent = λ low high. record { low = low; high = high } in
    ap₂ Q (omega (arith, ints, clamps, c.requires.extent.low, c.requires.place, c.min.ensures.value))
    (omega (arith, ints, clamps, c.requires.extent.high, c.requires.place, c.max.ensures.value))

pub returns-clause-fits : goal.returns-clause-fits
returns-clause-fits c = record {
  low = omega (arith, ints, clamps, c.requires.extent.low, c.requires.place, c.min.ensures.value);
  high = omega (arith, ints, clamps, c.requires.extent.high, c.requires.place, c.max.ensures.value);
}
