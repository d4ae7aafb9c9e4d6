use Rattle.std.proofs.Common.{SFits, w32, refl, rules}
use Rattle.std.proofs.lemmas.Int.{to_z-of_z}
use Rattle.tt_points_loops.proofs.moving.interpolate.Goals as goal

pub returns-in_err-other_end-clause-exact : goal.returns-in_err-other_end-clause-exact
returns-in_err-other_end-clause-exact c =
    let n : SFits w32 c.args.n = c.ranges.n in
    let rp1 : SFits w32 c.args.state.now.rp1 = search rules in
    let p = simp to_z-of_z at c.in_ok-p.ensures.exact in
    let from = simp to_z-of_z at c.in_ok-from.ensures.exact in
    rw (p, from, c.in_err-other_end.ensures.exact) (search rules)

pub returns-in_err-q-clause-exact : goal.returns-in_err-q-clause-exact
returns-in_err-q-clause-exact c =
    let n : SFits w32 c.args.n = c.ranges.n in
    let rp1 : SFits w32 c.args.state.now.rp1 = search rules in
    let p = simp to_z-of_z at c.in_ok-p.ensures.exact in
    let from = simp to_z-of_z at c.in_ok-from.ensures.exact in
    let by = c.originals_among.ensures in
    let q = rw (by.scale, by.halves) at c.in_err-q.ensures.exact in
    rw (p, from, c.in_ok-other_end.ensures.exact, q) (search rules)

pub returns-clause-exact : goal.returns-clause-exact
returns-clause-exact c =
    let n : SFits w32 c.args.n = c.ranges.n in
    let rp1 : SFits w32 c.args.state.now.rp1 = search rules in
    let p = simp to_z-of_z at c.in_ok-p.ensures.exact in
    let from = simp to_z-of_z at c.in_ok-from.ensures.exact in
    let by = c.originals_among.ensures in
    let q = rw (by.scale, by.halves) at c.in_ok-q.ensures.exact in
    let set = simp to_z-of_z at c.set.ensures.exact in
    rw (p, from, c.in_ok-other_end.ensures.exact, q, set) refl
