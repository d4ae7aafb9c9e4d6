use Rattle.std.proofs.Common.{SFits, w32, w64, rules}
use Rattle.std.proofs.lemmas.Int.{to_z-of_z}
use Rattle.tt_points_zones.specs.Views.{zones_view}
use Rattle.tt_points.specs.Moving.{msirp}
use Rattle.tt_points.proofs.TwoSteps.{msirp_once}
use Rattle.tt_points.proofs.moving.msirp.Goals as goal

pub returns-in_err-may_move-clause-exact : goal.returns-in_err-may_move-clause-exact
unfolding msirp
returns-in_err-may_move-clause-exact c =
    let p : SFits w32 c.args.p = c.ranges.p in
    let rp0 : SFits w32 c.args.state.now.rp0 = search rules in
    let q = simp to_z-of_z at c.in_ok-q.ensures.exact in
    let r = simp to_z-of_z at c.in_ok-r.ensures.exact in
    rw (msirp, q, r, c.in_err-may_move.ensures) (search rules)

pub returns-in_err-q-2-clause-exact : goal.returns-in_err-q-2-clause-exact
returns-in_err-q-2-clause-exact c =
    let p : SFits w32 c.args.p = c.ranges.p in
    let size : SFits w32 c.args.d = c.ranges.d in
    let rp0 : SFits w32 c.args.state.now.rp0 = search rules in
    let q = simp to_z-of_z at c.in_ok-q.ensures.exact in
    let r = simp to_z-of_z at c.in_ok-r.ensures.exact in
    let d = simp to_z-of_z at c.given-d.ensures in
    let placed = rw (d, c.of-motion.ensures) at c.in_err-q-2.ensures.exact in
    let once =
    msirp_once c.args.set_rp0 c.args.p c.args.d (zones_view c.args.zones.now) c.args.state.now _ _ _ q r
    c.in_ok-may_move.ensures
    in
    rw (once, placed) (search rules)

pub returns-in_err-kept-clause-exact : goal.returns-in_err-kept-clause-exact
returns-in_err-kept-clause-exact c =
    let p : SFits w32 c.args.p = c.ranges.p in
    let size : SFits w32 c.args.d = c.ranges.d in
    let rp0 : SFits w32 c.args.state.now.rp0 = search rules in
    let q = simp to_z-of_z at c.in_ok-q.ensures.exact in
    let r = simp to_z-of_z at c.in_ok-r.ensures.exact in
    let d = simp to_z-of_z at c.given-d.ensures in
    let placed = rw (d, c.of-motion.ensures) at c.in_ok-q-2.ensures.exact in
    let seen = simp to_z-of_z at c.seen-r.ensures.exact in
    let fits : SFits w64 c.given-d.result.distance = search rules in
    let kept = rw (d, seen, c.of-motion.ensures) at (simp to_z-of_z at c.in_err-kept.ensures.exact) in
    let once =
    msirp_once c.args.set_rp0 c.args.p c.args.d (zones_view c.args.zones.now) c.args.state.now _ _ _ q r
    c.in_ok-may_move.ensures
    in
    rw (once, placed, kept) (search rules)

pub returns-clause-exact : goal.returns-clause-exact
returns-clause-exact c =
    let p : SFits w32 c.args.p = c.ranges.p in
    let size : SFits w32 c.args.d = c.ranges.d in
    let rp0 : SFits w32 c.args.state.now.rp0 = search rules in
    let q = simp to_z-of_z at c.in_ok-q.ensures.exact in
    let r = simp to_z-of_z at c.in_ok-r.ensures.exact in
    let d = simp to_z-of_z at c.given-d.ensures in
    let placed = rw (d, c.of-motion.ensures) at c.in_ok-q-2.ensures.exact in
    let seen = simp to_z-of_z at c.seen-r.ensures.exact in
    let fits : SFits w64 c.given-d.result.distance = search rules in
    let kept = rw (d, seen, c.of-motion.ensures) at (simp to_z-of_z at c.in_ok-kept.ensures.exact) in
    let once =
    msirp_once c.args.set_rp0 c.args.p c.args.d (zones_view c.args.zones.now) c.args.state.now _ _ _ q r
    c.in_ok-may_move.ensures
    in
    rw (once, placed, kept) (search rules)
