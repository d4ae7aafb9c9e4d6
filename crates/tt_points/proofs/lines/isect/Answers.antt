use Rattle.std.proofs.Common.{SFits, w32, rules}
use Rattle.std.proofs.lemmas.Int.{to_z-of_z}
use Rattle.tt_points.specs.Lines.{isect}
use Rattle.tt_points.proofs.lines.isect.Goals as goal

pub returns-in_err-met-clause-exact : goal.returns-in_err-met-clause-exact
unfolding isect
returns-in_err-met-clause-exact c =
    let p : SFits w32 c.args.p = c.ranges.p in
    let b = c.in_ok-b.ensures in
    let a = c.in_ok-a.ensures in
    let q = simp to_z-of_z at c.in_ok-q.ensures.exact in
    let met = c.in_err-met.ensures.exact in
    rw (isect, b, a, q, met) (search rules)

pub returns-clause-exact : goal.returns-clause-exact
unfolding isect
returns-clause-exact c =
    let p : SFits w32 c.args.p = c.ranges.p in
    let b = c.in_ok-b.ensures in
    let a = c.in_ok-a.ensures in
    let q = simp to_z-of_z at c.in_ok-q.ensures.exact in
    let met = c.in_ok-met.ensures.exact in
    rw (isect, b, a, q, met) (search rules)
