use Rattle.std.proofs.Common.{map, sym}
use Rattle.tt_scan_gaps.specs.Seen.{turned_round}
use Rattle.tt_scan_dropouts.specs.Windows.{is_black_by}
use Rattle.tt_scan_dropouts.proofs.NoFreeGap.{nothing_added}
use Rattle.tt_scan_dropouts.proofs.Outlines.{ends_turned, fits_turned}
use Rattle.tt_scan_dropouts.proofs.filling.added_turned.Goals as goal

pub returns-then-not-some : goal.returns-then-not-some
returns-then-not-some c = λ p j.
    let es = map turned_round c.args.contours.edges.now in
    let ends = ends_turned c.args.contours.edges.now c.args.contours.ends.now c.args.contours.are_ends in
    let none = c.requires c.if-not-some.true in
    rw c.new.ensures.items (sym (nothing_added c.args.pass.rules c.args.columns (is_black_by c.args.pass.over c.args.pass.ink.now) es c.args.contours.ends.now
    ends none p j))

pub invariant_of-contours-clause-are_ends : goal.invariant_of-contours-clause-are_ends
invariant_of-contours-clause-are_ends c =
    rw (c.deref.ensures.value, c.in_ok-turned.ensures.exact) (ends_turned c.args.contours.edges.now c.args.contours.ends.now c.args.contours.are_ends)

pub invariant_of-contours-clause-fit : goal.invariant_of-contours-clause-fit
invariant_of-contours-clause-fit c =
    rw (c.deref.ensures.value, c.in_ok-turned.ensures.exact) (fits_turned c.args.contours.edges.now c.args.contours.fit)

pub returns : goal.returns
returns c = simp (c.deref.ensures.value, c.in_ok-turned.ensures.exact) at c.pass_over.ensures
