use Rattle.std.proofs.Common.{◌∙◌, sym, rules, length, arith}
use Rattle.tt_scan_dropouts.proofs.Ends.{next_end}
use Rattle.tt_scan_dropouts.proofs.NextDots.{none_more}
use Rattle.tt_scan_dropouts.proofs.may_have.some_dot_box.Goals as goal

pub offset_bounds-edges-from : goal.offset_bounds-edges-from
offset_bounds-edges-from c =
    let i = c.loop-i.i in
    let ends = c.args.contours.ends.now in
    let next = next_end c.loop-i.from (length c.args.contours.edges.now) ends i 0 c.loop-i-test.true c.loop-i.invariant.left in
    omega (arith, next.order, next.within)

pub slice_bounds-has_dot_box-end : goal.slice_bounds-has_dot_box-end
slice_bounds-has_dot_box-end c =
    let i = c.loop-i.i in
    let ends = c.args.contours.ends.now in
    let next = next_end c.loop-i.from (length c.args.contours.edges.now) ends i 0 c.loop-i-test.true c.loop-i.invariant.left in
    search rules

pub loop-i-preserved : goal.loop-i-preserved
loop-i-preserved c =
    let i = c.loop-i.i in
    let edges = c.args.contours.edges.now in
    let ends = c.args.contours.ends.now in
    let next = next_end c.loop-i.from (length edges) ends i 0 c.loop-i-test.true c.loop-i.invariant.left in
    record {
      left = next.left;
      none = λ rest. c.loop-i.invariant.none (none_more c.loop-i.from edges ends i 0 c.loop-i-test.true
          (sym c.has_dot_box.ensures ∙ c.if-has_dot_box.false) rest);
    }
