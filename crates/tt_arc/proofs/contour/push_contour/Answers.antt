use Rattle.std.proofs.Common.{◌≡◌, ◌+◌, ◌-◌, ◌++◌, ℤ, pos, Bool, false, length, map, ap, arith, add-one, length-append, ◌∙◌}
use Rattle.std.proofs.lemmas.List.{length-map}
use Rattle.tt_arc.specs.Chords.{edges_of, joined_by, moved, number_after, point_at}
use Rattle.tt_arc.proofs.Few.{few_of}
use Rattle.tt_arc.proofs.Added.{behind_none}
use Rattle.tt_arc.proofs.Walks.{after_inner, all_onward, edges_onward, none_onward, one_point_first, point_is}
use Rattle.tt_arc.proofs.contour.push_contour.Goals as goal

nowhere : ℤ × ℤ × Bool
nowhere = (pos 0, pos 0, false)

pub push_edges-requires : goal.push_edges-requires
push_edges-requires c = omega (arith, c.loop-i.invariant.few, c.loop-i-test.true, c.requires.few)

pub loop-i-init : goal.loop-i-init
unfolding nowhere
loop-i-init c =
    let r = c.args.rule in
    let ps = c.args.points.now in
    let f = moved c.args.by.dx c.args.by.dy in
    let long = length-map ps f in
    let all = all_onward r (map f ps) (omega (arith, long, c.if-points-lt2.false)) in
    record {
      walked = ap (λ es. c.args.list.now.edges ++ es)
          (behind_none r (edges_onward r (map f ps) 0) ∙ ap (joined_by r) all);
      counted = omega (arith, ap (λ es. length es) all);
      few = omega arith;
      before = rw c.moved-before.ensures (point_is f ps (length ps - 1) nowhere (omega (arith, c.if-points-lt2.false)));
      point = λ below. rw c.moved-point.ensures (point_is f ps 0 nowhere below);
      before_fits = rw c.moved-before.ensures (c.requires.near (length ps - 1) nowhere (omega (arith, c.if-points-lt2.false)));
      point_fits = rw c.moved-point.ensures (c.requires.near 0 nowhere (omega (arith, c.if-points-lt2.false)));
    }

pub loop-i-preserved : goal.loop-i-preserved
unfolding nowhere
loop-i-preserved c =
    let r = c.args.rule in
    let ps = c.args.points.now in
    let f = moved c.args.by.dx c.args.by.dy in
    let i = c.loop-i.i in
    let inv = c.loop-i.invariant in
    let long = length-map ps f in
    let below = c.loop-i-test.true in
    let next = c.number_after.ensures.exact in
    let within = c.number_after.ensures.within in
    let here = edges_of r c.loop-i.before c.loop-i.point c.moved-after.result in
    let after : c.moved-after.result ≡ point_at (map f ps) (number_after (length ps) i) =
    rw (c.moved-after.ensures, ← next) (point_is f ps c.number_after.result nowhere within) in
    let first : edges_onward r (map f ps) i ≡ edges_of r c.loop-i.before c.loop-i.point c.moved-after.result ++ edges_onward r (map f ps) (i + 1) =
    one_point_first r (map f ps) i c.loop-i.before c.loop-i.point c.moved-after.result (omega (arith, long, below))
    (rw long inv.before) (inv.point below) (rw long after) in
    let many = length-append (edges_of r c.loop-i.before c.loop-i.point c.moved-after.result) (edges_onward r (map f ps) (i + 1)) in
    let more = few_of r c.loop-i.before c.loop-i.point c.moved-after.result in
    let made = c.in_ok-push_edges.ensures.chords in
    let was = rw first at inv.walked in
    let counted = rw first at inv.counted in
    record {
      walked = c.in_ok-push_edges.ensures.added (edges_onward r (map f ps) (i + 1)) ∙ was;
      counted = omega (arith, made, counted, many);
      few = omega (arith, made, inv.few, more);
      before = rw add-one (inv.point below);
      point = λ more. rw (← after_inner (length ps) i more) after;
      before_fits = inv.point_fits;
      point_fits = rw c.moved-after.ensures (c.requires.near c.number_after.result nowhere within);
    }

pub returns-clause-exact : goal.returns-clause-exact
returns-clause-exact c =
    let ps = map (moved c.args.by.dx c.args.by.dy) c.args.points.now in
    let long = length-map c.args.points.now (moved c.args.by.dx c.args.by.dy) in
    let was = rw (none_onward c.args.rule ps c.loop-i.i (omega (arith, long, c.loop-i-test.false))) at c.loop-i.invariant.walked in
    c.in_ok-push_last.ensures ∙ was

pub returns-clause-counted : goal.returns-clause-counted
returns-clause-counted c =
    let ps = map (moved c.args.by.dx c.args.by.dy) c.args.points.now in
    let long = length-map c.args.points.now (moved c.args.by.dx c.args.by.dy) in
    let was = rw (none_onward c.args.rule ps c.loop-i.i (omega (arith, long, c.loop-i-test.false))) at c.loop-i.invariant.counted in
    omega (arith, was)
