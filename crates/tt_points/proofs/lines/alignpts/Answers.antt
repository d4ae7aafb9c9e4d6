use Rattle.std.proofs.Common.{SFits, w32, w64, refl, rules}
use Rattle.std.proofs.lemmas.Int.{to_z-of_z}
use Rattle.tt_points_zones.specs.Views.{zones_view}
use Rattle.tt_points.specs.Lines.{alignpts}
use Rattle.tt_points.proofs.TwoSteps.{alignpts_once, still_there}
use Rattle.tt_points.proofs.lines.alignpts.Goals as goal

pub returns-in_err-may_move-clause-exact : goal.returns-in_err-may_move-clause-exact
unfolding alignpts
returns-in_err-may_move-clause-exact c =
    let p1 : SFits w32 c.args.p1 = c.ranges.p1 in
    let p2 : SFits w32 c.args.p2 = c.ranges.p2 in
    let a = simp to_z-of_z at c.in_ok-a.ensures.exact in
    let b = simp to_z-of_z at c.in_ok-b.ensures.exact in
    rw (alignpts, a, b, c.in_err-may_move.ensures) (search rules)

pub returns-in_err-a-2-clause-exact : goal.returns-in_err-a-2-clause-exact
returns-in_err-a-2-clause-exact c =
    let p1 : SFits w32 c.args.p1 = c.ranges.p1 in
    let p2 : SFits w32 c.args.p2 = c.ranges.p2 in
    let far : SFits w64 c.half-h.result.0 = search rules in
    let a = simp to_z-of_z at c.in_ok-a.ensures.exact in
    let b = simp to_z-of_z at c.in_ok-b.ensures.exact in
    let h = rw c.current_distance.ensures.exact at c.half-h.ensures.exact in
    let moved = rw (h, c.of-motion.ensures) at (simp to_z-of_z at c.in_err-a-2.ensures.exact) in
    let once =
    alignpts_once c.args.p1 c.args.p2 (zones_view c.args.zones.now) c.args.state.now _ _ _ a b
    c.in_ok-may_move.ensures
    in
    rw (once, moved) (search rules)

pub returns-in_err-b-2-clause-exact : goal.returns-in_err-b-2-clause-exact
returns-in_err-b-2-clause-exact c =
    let p1 : SFits w32 c.args.p1 = c.ranges.p1 in
    let p2 : SFits w32 c.args.p2 = c.ranges.p2 in
    let far : SFits w64 c.half-h.result.0 = search rules in
    let back : SFits w64 c.opposite.result.0 = search rules in
    let a = simp to_z-of_z at c.in_ok-a.ensures.exact in
    let b = simp to_z-of_z at c.in_ok-b.ensures.exact in
    let h = rw c.current_distance.ensures.exact at c.half-h.ensures.exact in
    let moved = rw (h, c.of-motion.ensures) at (simp to_z-of_z at c.in_ok-a-2.ensures.exact) in
    let seen = simp to_z-of_z at c.seen.ensures.exact in
    let opposite = rw h at c.opposite.ensures.exact in
    let other = rw (seen, opposite, c.of-motion.ensures) at (simp to_z-of_z at c.in_err-b-2.ensures.exact) in
    let once =
    alignpts_once c.args.p1 c.args.p2 (zones_view c.args.zones.now) c.args.state.now _ _ _ a b
    c.in_ok-may_move.ensures
    in
    rw (once, moved, other) (search rules)

pub set-requires-2-clause-there : goal.set-requires-2-clause-there
set-requires-2-clause-there c =
    rw c.set.ensures.exact
    (still_there c.args.state.now.zp0 c.args.state.now.zp1 _ _ c.in_ok-a-2.a _ c.in_ok-b.ensures.there)

pub returns-clause-exact : goal.returns-clause-exact
returns-clause-exact c =
    let p1 : SFits w32 c.args.p1 = c.ranges.p1 in
    let p2 : SFits w32 c.args.p2 = c.ranges.p2 in
    let far : SFits w64 c.half-h.result.0 = search rules in
    let back : SFits w64 c.opposite.result.0 = search rules in
    let a = simp to_z-of_z at c.in_ok-a.ensures.exact in
    let b = simp to_z-of_z at c.in_ok-b.ensures.exact in
    let h = rw c.current_distance.ensures.exact at c.half-h.ensures.exact in
    let moved = rw (h, c.of-motion.ensures) at (simp to_z-of_z at c.in_ok-a-2.ensures.exact) in
    let seen = simp to_z-of_z at c.seen.ensures.exact in
    let opposite = rw h at c.opposite.ensures.exact in
    let other = rw (seen, opposite, c.of-motion.ensures) at (simp to_z-of_z at c.in_ok-b-2.ensures.exact) in
    let once =
    alignpts_once c.args.p1 c.args.p2 (zones_view c.args.zones.now) c.args.state.now _ _ _ a b
    c.in_ok-may_move.ensures
    in
    let first = simp to_z-of_z at c.set.ensures.exact in
    let zones = rw first at (simp to_z-of_z at c.set-2.ensures.exact) in
    rw (once, moved, other, zones) refl
