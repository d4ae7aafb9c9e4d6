use Rattle.std.proofs.Common.{◌≡◌, ◌+◌, ◌++◌, length, map, ap, arith, length-append}
use Rattle.std.proofs.lemmas.List.{length-map}
use Rattle.tt_arc.specs.Chords.{edges_of, moved}
use Rattle.tt_arc.proofs.Walks.{all_onward, edges_onward, none_onward, one_point_first}
use Rattle.tt_arc.proofs.counting.contour_chords.Goals as goal

pub loop-i-init : goal.loop-i-init
loop-i-init c =
    let ps = c.args.points.now in
    let f = moved c.args.by.dx c.args.by.dy in
    let long = length-map ps f in
    let all = all_onward c.args.rule (map f ps) (omega (arith, long, c.if-points-lt2.false)) in
    record {
      counted = omega (arith, ap (λ es. length es) all);
      few = omega arith;
      within = omega arith;
    }

pub loop-i-preserved : goal.loop-i-preserved
loop-i-preserved c =
    let r = c.args.rule in
    let ps = c.args.points.now in
    let f = moved c.args.by.dx c.args.by.dy in
    let i = c.loop-i.i in
    let inv = c.loop-i.invariant in
    let long = length-map ps f in
    let below = c.loop-i-test.true in
    let corner = c.corner_at.result in
    let at = c.corner_at.ensures in
    let here = edges_of r corner.before corner.point corner.after in
    let first : edges_onward r (map f ps) i ≡ here ++ edges_onward r (map f ps) (i + 1) =
    one_point_first r (map f ps) i corner.before corner.point corner.after (omega (arith, long, below))
    (rw long at.before) at.point (rw long at.after) in
    let many = length-append here (edges_onward r (map f ps) (i + 1)) in
    let counted = rw first at inv.counted in
    record {
      counted = omega (arith, c.corner_chords-count.ensures.exact, counted, many);
      few = omega (arith, c.corner_chords-count.ensures.few, inv.few);
      within = omega (arith, below);
    }

pub returns-clause-exact : goal.returns-clause-exact
returns-clause-exact c =
    let ps = map (moved c.args.by.dx c.args.by.dy) c.args.points.now in
    let long = length-map c.args.points.now (moved c.args.by.dx c.args.by.dy) in
    let was = rw (none_onward c.args.rule ps c.loop-i.i (omega (arith, long, c.loop-i-test.false))) at c.loop-i.invariant.counted in
    omega (arith, was)

pub returns-clause-few : goal.returns-clause-few
returns-clause-few c = omega (arith, c.loop-i.invariant.few, c.loop-i.invariant.within)
