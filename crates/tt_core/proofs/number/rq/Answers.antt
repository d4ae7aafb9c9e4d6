use Rattle.std.proofs.Common.{◌<ℤ◌, ◌-ℤ◌, pos, SFits, w64, unsigned_abs, rules, arith}
use Rattle.std.proofs.lemmas.Int.{ints, to_z-of_z}
use Rattle.tt_core.proofs.Quotients.{times_one_or_more}
use Rattle.tt_core.proofs.number.rq.Goals as goal

pub returns-then-d-lt0-clause-bound : goal.returns-then-d-lt0-clause-bound
returns-then-d-lt0-clause-bound c =
    let n : SFits w64 c.args.n = c.ranges.n in
    let d : SFits w64 c.args.d = c.ranges.d in
    let less_n : SFits w64 (pos 0 -ℤ c.args.n) = omega (arith, ints, c.requires.numerator) in
    let less_d : SFits w64 (pos 0 -ℤ c.args.d) = omega (arith, ints, c.requires.denominator) in
    let result : SFits w64 c.nearest.result = search rules in
    let within = simp to_z-of_z at c.nearest.ensures.within in
    let below = simp to_z-of_z at c.if-d-lt0.true in
    let more = times_one_or_more (unsigned_abs (pos 0 -ℤ c.args.d)) (unsigned_abs c.args.n) (omega (arith, ints, below)) in
    simp to_z-of_z (within (unsigned_abs c.args.n) (omega (arith, ints, more)))

pub returns-else-d-lt0-clause-bound : goal.returns-else-d-lt0-clause-bound
returns-else-d-lt0-clause-bound c =
    let n : SFits w64 c.args.n = c.ranges.n in
    let d : SFits w64 c.args.d = c.ranges.d in
    let result : SFits w64 c.nearest-else-d-lt0.result = search rules in
    let within = simp to_z-of_z at c.nearest-else-d-lt0.ensures.within in
    let positive : pos 0 <ℤ c.args.d = search rules in
    let more = times_one_or_more (unsigned_abs c.args.d) (unsigned_abs c.args.n) (omega (arith, ints, positive)) in
    simp to_z-of_z (within (unsigned_abs c.args.n) (omega (arith, ints, more)))
