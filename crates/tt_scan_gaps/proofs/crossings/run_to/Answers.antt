use Rattle.std.proofs.Common.{◌≡◌, SFits, w32, w64, rules, arith}
use Rattle.std.specs.Prelude.{◌-ℤ◌, ◌*ℤ◌}
use Rattle.std.proofs.lemmas.Int.{ints, to_z-of_z}
use Rattle.tt_scan_gaps.proofs.Lines.{product_fits, slope_within}
use Rattle.tt_scan_gaps.proofs.crossings.run_to.Goals as goal

pub overflow_mul-run : goal.overflow_mul-run
overflow_mul-run c =
    let ay : SFits w32 c.args.up.ay = omega (arith, ints, c.requires.edge.ay) in
    let y : SFits w64 c.args.y = c.ranges.y in
    let run : SFits w64 c.run.result = search rules in
    let from : SFits w64 c.from.result = search rules in
    let is_from : c.from.result ≡ c.args.up.ay = simp to_z-of_z at c.from.ensures in
    let height : SFits w64 (c.args.y -ℤ c.from.result) = rw is_from (omega (arith, ints, c.requires.low, c.requires.high, c.requires.edge.ay, c.requires.edge.by)) in
    simp to_z-of_z (rw (is_from, c.run.ensures.exact) (product_fits (c.args.up.bx -ℤ c.args.up.ax) (c.args.y -ℤ c.args.up.ay)
    (omega (arith, ints, c.requires.edge.ax, c.requires.edge.bx))
    (omega (arith, ints, c.requires.low, c.requires.high, c.requires.edge.ay, c.requires.edge.by))))

pub returns-clause-exact : goal.returns-clause-exact
returns-clause-exact c =
    let ay : SFits w32 c.args.up.ay = omega (arith, ints, c.requires.edge.ay) in
    let y : SFits w64 c.args.y = c.ranges.y in
    let run : SFits w64 c.run.result = search rules in
    let rise : SFits w64 c.rise.result = search rules in
    let from : SFits w64 c.from.result = search rules in
    let is_from : c.from.result ≡ c.args.up.ay = simp to_z-of_z at c.from.ensures in
    let height : SFits w64 (c.args.y -ℤ c.from.result) = rw is_from (omega (arith, ints, c.requires.low, c.requires.high, c.requires.edge.ay, c.requires.edge.by)) in
    let product : SFits w64 (c.run.result *ℤ (c.args.y -ℤ c.from.result)) =
    rw (is_from, c.run.ensures.exact) (product_fits (c.args.up.bx -ℤ c.args.up.ax) (c.args.y -ℤ c.args.up.ay)
    (omega (arith, ints, c.requires.edge.ax, c.requires.edge.bx))
    (omega (arith, ints, c.requires.low, c.requires.high, c.requires.edge.ay, c.requires.edge.by))) in
    let whole : SFits w64 c.div_euclid.result = omega (arith, ints, c.div_euclid.type_inv) in
    let value = simp to_z-of_z at c.div_euclid.ensures in
    simp to_z-of_z (rw (is_from, c.run.ensures.exact, c.rise.ensures.exact) at value)

pub returns-clause-small : goal.returns-clause-small
returns-clause-small c =
    let exact = returns-clause-exact c in
    rw exact (slope_within (c.args.up.bx -ℤ c.args.up.ax) (c.args.y -ℤ c.args.up.ay) (c.args.up.by -ℤ c.args.up.ay)
    (omega (arith, ints, c.requires.edge.ax, c.requires.edge.bx)) (omega (arith, ints, c.requires.low)) (omega (arith, ints, c.requires.high)))
