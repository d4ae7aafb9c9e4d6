use Rattle.std.proofs.Common.{◌≡◌, sym, append-nil, [], false}
use Rattle.tt_scan_gaps.specs.Gaps.{free_marks}
use Rattle.tt_scan_gaps.specs.Walk.{contour_marks}
use Rattle.tt_scan_dropouts.specs.Seen.{is_black_to}
use Rattle.tt_scan_dropouts.proofs.NoFreeGap.{no_contour_marks}
use Rattle.tt_scan_dropouts.proofs.marks.push_contour_marks.Goals as goal

pub returns-then-not-some_in_free_gap : goal.returns-then-not-some_in_free_gap
returns-then-not-some_in_free_gap c =
    let black = is_black_to c.args.pass in
    let none : free_marks black (contour_marks false c.args.edges.now) ≡ [] =
    no_contour_marks black false c.args.edges.now (c.some_in_free_gap.ensures c.if-not-some_in_free_gap.true) in
    rw (c.if-pass.false, none) (sym (append-nil c.args.marks.now.items))
