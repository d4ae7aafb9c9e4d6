use Rattle.std.proofs.Common.{SFits, w32, refl, rules}
use Rattle.std.proofs.lemmas.Int.{to_z-of_z}
use Rattle.tt_points_iup.specs.Positions.{position_of}
use Rattle.tt_points_iup.proofs.Between.{exchanged, in_order}
use Rattle.tt_points_iup.proofs.place.Neighbours.of.Goals as goal

pub returns-then-b-a-clause-exact : goal.returns-then-b-a-clause-exact
returns-then-b-a-clause-exact c = λ p.
    let a : SFits w32 c.position-a.result.from = search rules in
    let b : SFits w32 c.position-b.result.from = search rules in
    exchanged c.args.along c.args.before.point c.args.after.point p (position_of c.position-a.result)
    (position_of c.position-b.result) (position_of c.ordered.result.lo) (position_of c.ordered.result.hi)
    c.position-a.ensures.exact c.position-b.ensures.exact (rw c.ordered.ensures.low refl)
    (rw c.ordered.ensures.high refl) (simp to_z-of_z at c.if-b-a.true)

pub returns-else-b-a-clause-exact : goal.returns-else-b-a-clause-exact
returns-else-b-a-clause-exact c = λ p.
    let a : SFits w32 c.position-a.result.from = search rules in
    let b : SFits w32 c.position-b.result.from = search rules in
    in_order c.args.along c.args.before.point c.args.after.point p (position_of c.position-a.result)
    (position_of c.position-b.result) (position_of c.ordered-else-b-a.result.lo)
    (position_of c.ordered-else-b-a.result.hi) c.position-a.ensures.exact c.position-b.ensures.exact
    (rw c.ordered-else-b-a.ensures.low refl) (rw c.ordered-else-b-a.ensures.high refl) (simp to_z-of_z at c.if-b-a.false)
