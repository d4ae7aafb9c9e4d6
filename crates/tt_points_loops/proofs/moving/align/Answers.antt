use Rattle.std.proofs.Common.{SFits, w32, refl, rules}
use Rattle.std.proofs.lemmas.Int.{to_z-of_z}
use Rattle.tt_points_loops.proofs.moving.align.Goals as goal

pub returns-in_err-moved-clause-exact : goal.returns-in_err-moved-clause-exact
returns-in_err-moved-clause-exact c =
    let n : SFits w32 c.args.n = c.ranges.n in
    let rp0 : SFits w32 c.args.state.now.rp0 = search rules in
    let p = simp to_z-of_z at c.in_ok-p.ensures.exact in
    let r = simp to_z-of_z at c.in_ok-reference.ensures.exact in
    rw (p, r, c.in_err-moved.ensures.exact) (search rules)

pub returns-clause-exact : goal.returns-clause-exact
returns-clause-exact c =
    let n : SFits w32 c.args.n = c.ranges.n in
    let rp0 : SFits w32 c.args.state.now.rp0 = search rules in
    let p = simp to_z-of_z at c.in_ok-p.ensures.exact in
    let r = simp to_z-of_z at c.in_ok-reference.ensures.exact in
    let set = simp to_z-of_z at c.set.ensures.exact in
    rw (p, r, c.in_ok-moved.ensures.exact, set) refl
