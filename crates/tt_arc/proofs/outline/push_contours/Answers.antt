use Rattle.std.proofs.Common.{◌-◌, ◌≤◌, drop, length, map, Fits, w32, refl, sym, ap, ◌∙◌, rules, arith, add-one}
use Rattle.std.specs.List.{slice_index}
use Rattle.std.proofs.lemmas.List.{length-take}
use Rattle.tt_arc.specs.Chords.{IsNear, contour_chords, moved}
use Rattle.tt_arc.specs.Ends.{ends_from}
use Rattle.tt_arc.proofs.Contours.{all_left, all_of_slice, one_contour_more, slice_of_map, start_within}
use Rattle.tt_arc.proofs.EndsOfContours.{all_contours_left, all_ended, one_end_more}
use Rattle.tt_arc.proofs.Few.{all_counted, counted_within, one_counted_more}
use Rattle.tt_arc.proofs.outline.push_contours.Goals as goal

pub slice_bounds-push_one-count : goal.slice_bounds-push_one-count
slice_bounds-push_one-count c =
    rw c.loop-end.invariant.from (start_within (length c.args.points.now) c.args.ends.now c.requires.ends
    c.loop-end.end-index c.loop-end-test.true)

pub slice_bounds-push_one-start : goal.slice_bounds-push_one-start
slice_bounds-push_one-start c = slice_bounds-push_one-count c

pub push_one-requires-clause-near : goal.push_one-requires-clause-near
push_one-requires-clause-near c =
    all_of_slice (IsNear c.args.by.dx c.args.by.dy) c.args.points.now c.loop-end.from
    (slice_index c.args.ends.now c.loop-end.end-index) c.requires.near

pub push_one-requires-clause-points : goal.push_one-requires-clause-points
push_one-requires-clause-points c =
    let from = c.loop-end.from in
    let to = slice_index c.args.ends.now c.loop-end.end-index in
    let small : Fits w32 to = search rules in
    let short = length-take (to - from) (drop from c.args.points.now) in
    omega (arith, small, short)

pub push_one-requires-clause-few : goal.push_one-requires-clause-few
push_one-requires-clause-few c = omega (arith, c.loop-end.invariant.few, c.loop-end.invariant.small)

pub loop-end-init : goal.loop-end-init
loop-end-init c =
    let ps = map (moved c.args.by.dx c.args.by.dy) c.args.points.now in
    let ends = c.args.ends.now in
    record {
      walked = rw c.requires.edges (all_left c.args.rule ps ends);
      ends = λ with. rw (c.requires.edges, c.requires.none)
          (ap (λ ess. ends_from 0 ess) (all_contours_left c.args.rule ps ends));
      counted = rw c.requires.zero (all_counted c.args.rule ps ends);
      few = rw c.requires.zero (omega arith);
      small = omega arith;
      from = refl;
    }

pub loop-end-preserved : goal.loop-end-preserved
loop-end-preserved c =
    let i = c.loop-end.end-index in
    let inv = c.loop-end.invariant in
    let f = moved c.args.by.dx c.args.by.dy in
    let points = c.args.points.now in
    let ends = c.args.ends.now in
    let to = slice_index ends i in
    let below = c.loop-end-test.true in
    let pushed = c.in_ok-push_one.ensures.exact in
    let counted = c.in_ok-push_one.ensures.chords in
    let order : c.loop-end.from ≤ to = rw inv.from (start_within (length points) ends c.requires.ends i below) in
    let small : Fits w32 to = search rules in
    record {
      walked = one_contour_more c.args.rule f points ends c.loop-end.made.list.edges c.push_one.new.made.list.edges c.loop-end.from i
          to below inv.from refl pushed ∙ inv.walked;
      ends = λ with. one_end_more c.args.rule f points ends c.loop-end.made.ends.items c.push_one.new.made.ends.items
          c.loop-end.made.list.edges c.push_one.new.made.list.edges c.loop-end.from i to below inv.from refl pushed
          (rw with at c.in_ok-push_one.ensures.ends) ∙ inv.ends with;
      counted = rw counted (one_counted_more c.args.rule f points ends c.loop-end.made.chords _ c.loop-end.from i to below inv.from refl refl)
          ∙ inv.counted;
      few = rw counted (counted_within c.args.rule (map f points) _ c.loop-end.from to c.loop-end.made.chords order inv.few
          (ap (λ ps. length (contour_chords c.args.rule ps)) (sym (slice_of_map f points c.loop-end.from to))));
      small = omega (arith, small);
      from = rw add-one refl;
    }

pub returns-clause-ends : goal.returns-clause-ends
returns-clause-ends c = λ with.
    all_ended c.args.rule (map (moved c.args.by.dx c.args.by.dy) c.args.points.now) c.args.ends.now c.loop-end.made.ends.items _
    (length c.loop-end.made.list.edges) c.loop-end.end-index c.loop-end-test.false (c.loop-end.invariant.ends with)
