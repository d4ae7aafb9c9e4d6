use Rattle.std.proofs.Common.{pos, SFits, w64, arith}
use Rattle.std.specs.Prelude.{int_div}
use Rattle.std.proofs.lemmas.Int.{ints, to_z-of_z, quot_fits}
use Rattle.tt_points.proofs.lines.half.Goals as goal

pub returns-clause-exact : goal.returns-clause-exact
returns-clause-exact c =
    let d : SFits w64 c.args.d.0 = omega (arith, ints, c.requires) in
    let half : SFits w64 (int_div c.args.d.0 (pos 2)) = quot_fits w64 c.args.d.0 (pos 2) d (omega (arith, ints)) in
    simp to_z-of_z
