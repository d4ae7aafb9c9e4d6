use Rattle.std.proofs.Common.{rules, append_assoc, length, arith}
use Rattle.tt_scan_dropouts.specs.Windows.{is_black_by}
use Rattle.tt_scan_dropouts.proofs.Ends.{next_end}
use Rattle.tt_scan_dropouts.proofs.FreeMarks.{free_next}
use Rattle.tt_scan_dropouts.proofs.marks.free_marks.Goals as goal

pub offset_bounds-edges-from : goal.offset_bounds-edges-from
offset_bounds-edges-from c =
    let i = c.loop-i.i in
    let ends = c.args.contours.ends.now in
    let next = next_end c.loop-i.from (length c.args.contours.edges.now) ends i 0 c.loop-i-test.true c.loop-i.invariant.left in
    omega (arith, next.order, next.within)

pub slice_bounds-push_contour_marks-end : goal.slice_bounds-push_contour_marks-end
slice_bounds-push_contour_marks-end c =
    let i = c.loop-i.i in
    let ends = c.args.contours.ends.now in
    let next = next_end c.loop-i.from (length c.args.contours.edges.now) ends i 0 c.loop-i-test.true c.loop-i.invariant.left in
    search rules

pub loop-i-preserved : goal.loop-i-preserved
loop-i-preserved c =
    let i = c.loop-i.i in
    let edges = c.args.contours.edges.now in
    let ends = c.args.contours.ends.now in
    let black = is_black_by c.args.pass.over c.args.pass.ink.now in
    let next = next_end c.loop-i.from (length edges) ends i 0 c.loop-i-test.true c.loop-i.invariant.left in
    let more = free_next black c.args.pass.rules.stubs c.loop-i.from edges ends i 0 c.loop-i-test.true in
    record {
      left = next.left;
      all = rw (c.in_ok-push_contour_marks.ensures, append_assoc, ← more) c.loop-i.invariant.all;
    }
