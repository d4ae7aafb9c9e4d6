use Rattle.std.proofs.Common.{◌≡◌, refl, SFits, w32, w64, rules, arith}
use Rattle.std.specs.Prelude.{◌+ℤ◌, ◌-ℤ◌, ◌*ℤ◌}
use Rattle.std.specs.Int.{int_div_euclid}
use Rattle.std.proofs.lemmas.Int.{ints, to_z-of_z}
use Rattle.tt_scan_gaps.specs.Crossings.{edge_x}
use Rattle.tt_scan_gaps.proofs.crossings.edge_x.Goals as goal

pub returns-clause-exact : goal.returns-clause-exact
returns-clause-exact c =
    let ax : SFits w32 c.upward-up.result.ax = omega (arith, ints, c.upward-up.ensures.fits.ax) in
    let y : SFits w64 c.args.y = c.ranges.y in
    let whole : SFits w64 c.run_to.result = omega (arith, ints, c.run_to.ensures.small) in
    let from : SFits w64 c.from.result = search rules in
    let is_from : c.from.result ≡ c.upward-up.result.ax = simp to_z-of_z at c.from.ensures in
    let sum : SFits w64 (c.from.result +ℤ c.run_to.result) = rw is_from (omega (arith, ints, c.run_to.ensures.small, c.upward-up.ensures.fits.ax)) in
    let value : c.run_to.result ≡ int_div_euclid ((c.upward-up.result.bx -ℤ c.upward-up.result.ax) *ℤ (c.args.y -ℤ c.upward-up.result.ay))
    (c.upward-up.result.by -ℤ c.upward-up.result.ay) = simp to_z-of_z at c.run_to.ensures.exact in
    let exact : c.from.result +ℤ c.run_to.result ≡ edge_x c.args.edge c.args.y = rw (is_from, value, c.upward-up.ensures.exact) refl in
    simp to_z-of_z exact
