use Rattle.std.proofs.Common.{◌≡◌, SFits, w32, w64, of_z, to_z, refl, arith}
use Rattle.std.proofs.lemmas.Int.{ints, to_z-of_z}
use Rattle.tt_line.proofs.pixels.nearest.Goals as goal

pub returns-clause-bound : goal.returns-clause-bound
returns-clause-bound c =
    let n : SFits w32 c.args.n = c.ranges.n in
    let d : SFits w32 c.args.d = c.ranges.d in
    let from_n = simp to_z-of_z at c.from.ensures in
    let from_d = simp to_z-of_z at c.from-2.ensures in
    let within = c.rq.ensures.within 614400 (rw (from_n, from_d) (omega (arith, ints, c.requires.numerator, c.requires.denominator))) in
    let fits : SFits w32 c.rq.result = omega (arith, ints, within) in
    let wide : SFits w64 c.rq.result = omega (arith, ints, within) in
    let same : to_z w32 (of_z w32 (to_z w64 (of_z w64 c.rq.result))) ≡ c.rq.result = simp to_z-of_z refl in
    rw same within
