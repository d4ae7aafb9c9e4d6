use Rattle.std.proofs.Common.{◌∙◌, sym, SFits, w64, rules}
use Rattle.std.proofs.lemmas.Int.{to_z-of_z}
use Rattle.tt_scan_gaps.proofs.SmallContours.{dot_of_box, no_dot_of_such_a_box, no_dot_where_some_asks}
use Rattle.tt_scan_gaps.proofs.dots.dot_pixel.Goals as goal

pub returns-in_default-clause-none : goal.returns-in_default-clause-none
returns-in_default-clause-none c = λ i j. no_dot_of_such_a_box c.args.stubs c.args.edges.now i j c.in_default.ensures.none

pub returns-then-branch-clause-none : goal.returns-then-branch-clause-none
returns-then-branch-clause-none c = λ i j.
    no_dot_where_some_asks c.args.stubs c.args.edges.now i j (sym c.in_ok-asks.ensures ∙ c.if-branch.true)

pub returns-clause-some : goal.returns-clause-some
returns-clause-some c = λ i j.
    let column : SFits w64 c.middle.result = search rules in
    let row : SFits w64 c.middle-2.result = search rules in
    let none = sym c.in_ok-asks.ensures ∙ c.if-branch.false in
    let dot = dot_of_box c.args.stubs c.args.edges.now c.in-Some.extents c.in-Some.ensures.some c.in-Some.ensures.small none i j in
    simp to_z-of_z (rw (c.middle.ensures, c.middle-2.ensures) dot)
