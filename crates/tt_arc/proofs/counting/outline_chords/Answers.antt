use Rattle.std.proofs.Common.{◌-◌, ◌≤◌, drop, length, map, Fits, w32, refl, sym, ap, ◌∙◌, rules, arith, add-one}
use Rattle.std.specs.List.{slice_index}
use Rattle.std.proofs.lemmas.List.{length-take}
use Rattle.tt_arc.specs.Chords.{IsNear, contour_chords, moved}
use Rattle.tt_arc.proofs.Contours.{all_of_slice, slice_of_map, start_within}
use Rattle.tt_arc.proofs.Few.{all_counted, counted_within, one_counted_more}
use Rattle.tt_arc.proofs.counting.outline_chords.Goals as goal

pub slice_bounds-contour_chords-count : goal.slice_bounds-contour_chords-count
slice_bounds-contour_chords-count c =
    rw c.loop-end.invariant.from (start_within (length c.args.points.now) c.args.ends.now c.requires.ends
    c.loop-end.end-index c.loop-end-test.true)

pub slice_bounds-contour_chords-start : goal.slice_bounds-contour_chords-start
slice_bounds-contour_chords-start c = slice_bounds-contour_chords-count c

pub contour_chords-count-requires-clause-near : goal.contour_chords-count-requires-clause-near
contour_chords-count-requires-clause-near c =
    all_of_slice (IsNear c.args.by.dx c.args.by.dy) c.args.points.now c.loop-end.from
    (slice_index c.args.ends.now c.loop-end.end-index) c.requires.near

pub contour_chords-count-requires-clause-few : goal.contour_chords-count-requires-clause-few
contour_chords-count-requires-clause-few c =
    let from = c.loop-end.from in
    let to = slice_index c.args.ends.now c.loop-end.end-index in
    let small : Fits w32 to = search rules in
    let short = length-take (to - from) (drop from c.args.points.now) in
    omega (arith, small, short)

pub overflow_add-count : goal.overflow_add-count
overflow_add-count c =
    let from = c.loop-end.from in
    let to = slice_index c.args.ends.now c.loop-end.end-index in
    let inv = c.loop-end.invariant in
    let small : Fits w32 to = search rules in
    let short = length-take (to - from) (drop from c.args.points.now) in
    omega (arith, small, short, inv.few, inv.small, c.contour_chords-count.ensures.few)

pub loop-end-init : goal.loop-end-init
loop-end-init c =
    let ps = map (moved c.args.by.dx c.args.by.dy) c.args.points.now in
    record {
      counted = all_counted c.args.rule ps c.args.ends.now;
      few = omega arith;
      small = omega arith;
      from = refl;
    }

pub loop-end-preserved : goal.loop-end-preserved
loop-end-preserved c =
    let i = c.loop-end.end-index in
    let inv = c.loop-end.invariant in
    let f = moved c.args.by.dx c.args.by.dy in
    let points = c.args.points.now in
    let ends = c.args.ends.now in
    let to = slice_index ends i in
    let below = c.loop-end-test.true in
    let counted = c.contour_chords-count.ensures.exact in
    let order : c.loop-end.from ≤ to = rw inv.from (start_within (length points) ends c.requires.ends i below) in
    let small : Fits w32 to = search rules in
    record {
      counted = rw counted (one_counted_more c.args.rule f points ends c.loop-end.count _ c.loop-end.from i to below inv.from refl refl)
          ∙ inv.counted;
      few = rw counted (counted_within c.args.rule (map f points) _ c.loop-end.from to c.loop-end.count order inv.few
          (ap (λ ps. length (contour_chords c.args.rule ps)) (sym (slice_of_map f points c.loop-end.from to))));
      small = omega (arith, small);
      from = rw add-one refl;
    }
