use Rattle.std.proofs.Common.{◌≡◌, ◌+ℤ◌, ◌-ℤ◌, ◌*ℤ◌, pos, SFits, w32, w64, rules, arith}
use Rattle.std.proofs.lemmas.Int.{ints, to_z-of_z}
use Rattle.tt_scan_edges.proofs.crossing.from_centre.Goals as goal

pub returns-clause-exact : goal.returns-clause-exact
returns-clause-exact c =
    let x : SFits w32 c.args.x = c.ranges.x in
    let from : SFits w64 c.from.result = search rules in
    let is : c.from.result ≡ c.args.x = simp to_z-of_z at c.from.ensures in
    let margin = c.args.at.fits.margin in
    let two : SFits w64 c.from-2.result = search rules in
    let fine : SFits w64 (pos 8192 *ℤ c.from-2.result) = omega (arith, ints, margin, c.from-2.ensures) in
    let less : SFits w64 (pos 8192 *ℤ c.from-2.result -ℤ pos 4096) = omega (arith, ints, margin, c.from-2.ensures) in
    let sum : SFits w64 (c.from.result +ℤ (pos 8192 *ℤ c.from-2.result -ℤ pos 4096)) =
    omega (arith, ints, margin, is, c.from-2.ensures, c.requires) in
    simp to_z-of_z (rw (is, c.from-2.ensures) (omega (arith, ints)))
