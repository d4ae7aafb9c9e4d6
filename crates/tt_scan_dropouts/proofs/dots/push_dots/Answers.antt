use Rattle.std.proofs.Common.{◌≡◌, ◌≤◌, not, get_or, rules, length, drop, arith, true, ◌-◌}
use Rattle.std.proofs.lemmas.List.Elements.{All-drop, All-take}
use Rattle.tt_scan.specs.Contours.{contours_at, contours_from}
use Rattle.tt_scan_edges.specs.Winding.{EdgeFits}
use Rattle.tt_scan_gaps.specs.Dots.{has_dot}
use Rattle.tt_scan_dropouts.specs.Passes.{has_pixel}
use Rattle.tt_scan_dropouts.specs.Windows.{has, is_black_in}
use Rattle.tt_scan_dropouts.proofs.Ends.{next_end}
use Rattle.tt_scan_dropouts.proofs.NextDots.{all_dots, dots_more, next_dot, no_dots_left}
use Rattle.tt_scan_dropouts.proofs.dots.push_dots.Goals as goal

pub offset_bounds-edges-from : goal.offset_bounds-edges-from
offset_bounds-edges-from c =
    let i = c.loop-i.i in
    let ends = c.contours.result.ends.now in
    let next = next_end c.loop-i.from (length c.contours.result.edges.now) ends i 0 c.loop-i-test.true c.loop-i.invariant.left in
    omega (arith, next.order, next.within)

pub slice_bounds-contour-end : goal.slice_bounds-contour-end
slice_bounds-contour-end c =
    let i = c.loop-i.i in
    let ends = c.contours.result.ends.now in
    let next = next_end c.loop-i.from (length c.contours.result.edges.now) ends i 0 c.loop-i-test.true c.loop-i.invariant.left in
    search rules

pub push_dot-requires : goal.push_dot-requires
push_dot-requires c =
    let edges = c.contours.result.edges.now in
    let from = c.loop-i.from in
    All-take EdgeFits (get_or c.contours.result.ends.now c.loop-i.i 0 - from) (drop from edges)
    (All-drop EdgeFits from edges c.contours.result.fit)

pub loop-i-preserved : goal.loop-i-preserved
loop-i-preserved c =
    let i = c.loop-i.i in
    let edges = c.contours.result.edges.now in
    let ends = c.contours.result.ends.now in
    let stubs = c.args.glyph.rules.rules.stubs in
    let next = next_end c.loop-i.from (length edges) ends i 0 c.loop-i-test.true c.loop-i.invariant.left in
    record {
      left = next.left;
      all = λ col row. dots_more (has_pixel c.loop-i.found.items col row) (has_pixel c.push_dot.new.found.items col row)
          (has c.args.window col row) (not (is_black_in c.args.ink.now col row)) _ _ _ _
          (next_dot stubs col row c.loop-i.from edges ends i 0 c.loop-i-test.true) (c.in_ok-push_dot.ensures col row)
          (c.loop-i.invariant.all col row);
    }

pub returns : goal.returns
returns c = λ col row.
    let glyph = c.args.glyph in
    let edges = c.contours.result.edges.now in
    let ends = c.contours.result.ends.now in
    let stubs = glyph.rules.rules.stubs in
    let over : length ends ≤ c.loop-i.i = c.loop-i-test.false in
    let drawn : glyph.rules.rules.dots ≡ true = c.if-not-glyph.false in
    let all = all_dots (has_pixel c.loop-i.found.items col row) (has_pixel c.args.found.now.items col row)
    (has c.args.window col row) (not (is_black_in c.args.ink.now col row)) glyph.rules.rules.dots
    (has_dot stubs (contours_from c.loop-i.from edges (drop c.loop-i.i ends)) col row)
    (has_dot stubs (contours_at edges ends) col row)
    (no_dots_left stubs col row c.loop-i.from edges ends c.loop-i.i over) drawn (c.loop-i.invariant.all col row) in
    rw (c.contours.ensures.edges, c.contours.ensures.ends) at all
