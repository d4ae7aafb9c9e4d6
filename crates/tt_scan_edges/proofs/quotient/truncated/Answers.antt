use Rattle.std.proofs.Common.{SFits, w64, arith}
use Rattle.std.specs.Prelude.{int_div, int_rem}
use Rattle.std.proofs.lemmas.Int.{ints, to_z-of_z, quot-rem, quot_fits, rem_below, fits_signed_from_abs}
use lib.IntN.{*ℤ_comm}
use Rattle.tt_scan_edges.proofs.Floors.{quotient_small}
use Rattle.tt_scan_edges.proofs.quotient.truncated.Goals as goal

pub returns-clause-exact : goal.returns-clause-exact
returns-clause-exact c =
    let n : SFits w64 c.args.n = c.ranges.n in
    let d : SFits w64 c.args.d = c.ranges.d in
    let whole : SFits w64 (int_div c.args.n c.args.d) = quot_fits w64 c.args.n c.args.d n (omega (arith, ints, c.requires.divisor)) in
    let near = rem_below c.args.n c.args.d (omega (arith, ints, c.requires.divisor)) in
    let rest : SFits w64 (int_rem c.args.n c.args.d) = fits_signed_from_abs w64 (int_rem c.args.n c.args.d) (omega (arith, ints, near, c.requires.divisor)) in
    simp to_z-of_z (omega (arith, ints, quot-rem c.args.n c.args.d, *ℤ_comm c.args.d (int_div c.args.n c.args.d)))

pub returns-clause-near : goal.returns-clause-near
returns-clause-near c =
    let n : SFits w64 c.args.n = c.ranges.n in
    let d : SFits w64 c.args.d = c.ranges.d in
    let near = rem_below c.args.n c.args.d (omega (arith, ints, c.requires.divisor)) in
    let rest : SFits w64 (int_rem c.args.n c.args.d) = fits_signed_from_abs w64 (int_rem c.args.n c.args.d) (omega (arith, ints, near, c.requires.divisor)) in
    simp to_z-of_z near

pub returns-clause-small : goal.returns-clause-small
returns-clause-small c =
    let n : SFits w64 c.args.n = c.ranges.n in
    let d : SFits w64 c.args.d = c.ranges.d in
    let whole : SFits w64 (int_div c.args.n c.args.d) = quot_fits w64 c.args.n c.args.d n (omega (arith, ints, c.requires.divisor)) in
    simp to_z-of_z (quotient_small c.args.n c.args.d n c.requires.divisor)
