use Rattle.std.proofs.Common.{◌≡◌, ◌&&◌, ◌∙◌, sym, SFits, w64, not, rules}
use Rattle.std.proofs.lemmas.Int.{to_z-of_z}
use Rattle.tt_scan_gaps.specs.Dots.{is_dot}
use Rattle.tt_scan_dropouts.specs.Passes.{has_pixel}
use Rattle.tt_scan_dropouts.specs.Windows.{has, is_black_in}
use Rattle.tt_scan_dropouts.proofs.NextDots.{black_dot, no_dot, twice_black, twice_white, white_dot}
use Rattle.tt_scan_dropouts.proofs.dots.push_dot.Goals as goal

pub returns-in_ok-push_if_within : goal.returns-in_ok-push_if_within
returns-in_ok-push_if_within c = λ col row.
    let dot = c.in-Some.dot in
    let column : SFits w64 dot.column = search rules in
    let line : SFits w64 dot.row = search rules in
    let black = is_black_in c.args.ink.now in
    let at = rw c.in-Some.is at c.in_ok-dot.ensures.some in
    let both : c.are_white.result ≡ (not (black dot.column dot.row) && not (black dot.column dot.row)) =
    simp to_z-of_z at c.are_white.ensures in
    let pushed = simp to_z-of_z at (c.in_ok-push_if_within.ensures col row) in
    white_dot black dot.column dot.row col row (has_pixel c.args.found.now.items col row)
    (has_pixel c.push_if_within.new.found.items col row) (has c.args.window col row) (is_dot c.args.stubs c.args.edges.now col row)
    (twice_white (black dot.column dot.row) (sym both ∙ c.if-are_white.true)) (at col row) pushed

pub returns-else-are_white : goal.returns-else-are_white
returns-else-are_white c = λ col row.
    let dot = c.in-Some.dot in
    let column : SFits w64 dot.column = search rules in
    let line : SFits w64 dot.row = search rules in
    let black = is_black_in c.args.ink.now in
    let at = rw c.in-Some.is at c.in_ok-dot.ensures.some in
    let both : c.are_white.result ≡ (not (black dot.column dot.row) && not (black dot.column dot.row)) =
    simp to_z-of_z at c.are_white.ensures in
    black_dot black dot.column dot.row col row (has_pixel c.args.found.now.items col row) (has c.args.window col row)
    (is_dot c.args.stubs c.args.edges.now col row)
    (twice_black (black dot.column dot.row) (sym both ∙ c.if-are_white.false)) (at col row)

pub returns-in_default : goal.returns-in_default
returns-in_default c = λ col row.
    let none = rw c.in_default.is at c.in_ok-dot.ensures.none in
    no_dot (has_pixel c.args.found.now.items col row) (has c.args.window col row) (is_black_in c.args.ink.now col row)
    (is_dot c.args.stubs c.args.edges.now col row) (none col row)
