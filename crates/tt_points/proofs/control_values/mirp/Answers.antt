use Rattle.std.proofs.Common.{SFits, w32, w64, rules, arith}
use Rattle.std.proofs.lemmas.Int.{ints, to_z-of_z}
use Rattle.tt_points_zones.specs.Views.{zones_view}
use Rattle.tt_points.specs.ControlValues.{mirp}
use Rattle.tt_points.proofs.TwoSteps.{mirp_once}
use Rattle.tt_points.proofs.control_values.mirp.Goals as goal

pub returns-in_err-may_move-clause-exact : goal.returns-in_err-may_move-clause-exact
unfolding mirp
returns-in_err-may_move-clause-exact c =
    let p : SFits w32 c.args.p = c.ranges.p in
    let rp0 : SFits w32 c.args.state.now.rp0 = search rules in
    let q = simp to_z-of_z at c.in_ok-q.ensures.exact in
    let r = simp to_z-of_z at c.in_ok-r.ensures.exact in
    rw (mirp, q, r, c.in_err-may_move.ensures) (search rules)

pub returns-in_err-q-2-clause-exact : goal.returns-in_err-q-2-clause-exact
returns-in_err-q-2-clause-exact c =
    let p : SFits w32 c.args.p = c.ranges.p in
    let value : SFits w32 c.args.c = c.ranges.c in
    let rp0 : SFits w32 c.args.state.now.rp0 = search rules in
    let q = simp to_z-of_z at c.in_ok-q.ensures.exact in
    let r = simp to_z-of_z at c.in_ok-r.ensures.exact in
    let d = rw (simp to_z-of_z at c.given.ensures) at c.single_width-c.ensures in
    let placed = rw (d, c.of-motion.ensures) at c.in_err-q-2.ensures.exact in
    let once =
    mirp_once c.args.keeping c.args.p c.args.c (zones_view c.args.zones.now) c.args.state.now _ _ _ q r
    c.in_ok-may_move.ensures
    in
    rw (once, placed) (search rules)

pub returns-in_err-kept-clause-exact : goal.returns-in_err-kept-clause-exact
returns-in_err-kept-clause-exact c =
    let p : SFits w32 c.args.p = c.ranges.p in
    let value : SFits w32 c.args.c = c.ranges.c in
    let rp0 : SFits w32 c.args.state.now.rp0 = search rules in
    let q = simp to_z-of_z at c.in_ok-q.ensures.exact in
    let r = simp to_z-of_z at c.in_ok-r.ensures.exact in
    let d = rw (simp to_z-of_z at c.given.ensures) at c.single_width-c.ensures in
    let placed = rw (d, c.of-motion.ensures) at c.in_ok-q-2.ensures.exact in
    let seen = simp to_z-of_z at c.seen-r.ensures.exact in
    let original = rw (seen, c.of-motion.ensures) at c.original_distance.ensures.exact in
    let fits : SFits w64 c.original_distance.result.0 = omega (arith, ints, c.original_distance.ensures.few) in
    let size = rw (original, d) at (simp to_z-of_z at c.mirp_distance-d.ensures.exact) in
    let kept = rw (size, seen, c.of-motion.ensures) at c.in_err-kept.ensures.exact in
    let once =
    mirp_once c.args.keeping c.args.p c.args.c (zones_view c.args.zones.now) c.args.state.now _ _ _ q r
    c.in_ok-may_move.ensures
    in
    rw (once, placed, kept) (search rules)

pub returns-clause-exact : goal.returns-clause-exact
returns-clause-exact c =
    let p : SFits w32 c.args.p = c.ranges.p in
    let value : SFits w32 c.args.c = c.ranges.c in
    let rp0 : SFits w32 c.args.state.now.rp0 = search rules in
    let q = simp to_z-of_z at c.in_ok-q.ensures.exact in
    let r = simp to_z-of_z at c.in_ok-r.ensures.exact in
    let d = rw (simp to_z-of_z at c.given.ensures) at c.single_width-c.ensures in
    let placed = rw (d, c.of-motion.ensures) at c.in_ok-q-2.ensures.exact in
    let seen = simp to_z-of_z at c.seen-r.ensures.exact in
    let original = rw (seen, c.of-motion.ensures) at c.original_distance.ensures.exact in
    let fits : SFits w64 c.original_distance.result.0 = omega (arith, ints, c.original_distance.ensures.few) in
    let size = rw (original, d) at (simp to_z-of_z at c.mirp_distance-d.ensures.exact) in
    let kept = rw (size, seen, c.of-motion.ensures) at c.in_ok-kept.ensures.exact in
    let once =
    mirp_once c.args.keeping c.args.p c.args.c (zones_view c.args.zones.now) c.args.state.now _ _ _ q r
    c.in_ok-may_move.ensures
    in
    rw (once, placed, kept) (search rules)
