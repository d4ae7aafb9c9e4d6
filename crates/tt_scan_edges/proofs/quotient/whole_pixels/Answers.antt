use Rattle.std.proofs.Common.{SFits, w64}
use Rattle.std.proofs.lemmas.Int.{to_z-of_z}
use lib.Signed.{shr_z}
use Rattle.tt_scan_edges.proofs.Floors.{shifted_low, shifted_high, shifted_fits}
use Rattle.tt_scan_edges.proofs.quotient.whole_pixels.Goals as goal

pub returns-clause-low : goal.returns-clause-low
returns-clause-low c =
    let n : SFits w64 c.args.n = c.ranges.n in
    let fits : SFits w64 (shr_z c.args.n 8192) = shifted_fits c.args.n n in
    simp to_z-of_z (shifted_low c.args.n)

pub returns-clause-high : goal.returns-clause-high
returns-clause-high c =
    let n : SFits w64 c.args.n = c.ranges.n in
    let fits : SFits w64 (shr_z c.args.n 8192) = shifted_fits c.args.n n in
    simp to_z-of_z (shifted_high c.args.n)
