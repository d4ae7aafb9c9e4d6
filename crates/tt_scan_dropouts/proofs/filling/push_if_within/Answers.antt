use Rattle.std.proofs.Common.{◌≡◌, ◌∙◌, sym, SFits, w64, rules}
use Rattle.std.proofs.lemmas.Int.{to_z-of_z}
use Rattle.tt_scan_dropouts.specs.Windows.{has}
use Rattle.tt_scan_dropouts.proofs.Pixels.{outside, within}
use Rattle.tt_scan_dropouts.proofs.filling.push_if_within.Goals as goal

pub returns-in_ok-push : goal.returns-in_ok-push
returns-in_ok-push c = λ col row.
    let column : SFits w64 c.args.pixel.column = search rules in
    let line : SFits w64 c.args.pixel.row = search rules in
    let is : c.has.result ≡ has c.args.window c.args.pixel.column c.args.pixel.row = simp to_z-of_z at c.has.ensures in
    rw c.in_ok-push.ensures.items
    (within c.args.window c.args.found.now.items c.args.pixel col row (sym is ∙ c.if-has.true))

pub returns-else-has : goal.returns-else-has
returns-else-has c = λ col row.
    let column : SFits w64 c.args.pixel.column = search rules in
    let line : SFits w64 c.args.pixel.row = search rules in
    let is : c.has.result ≡ has c.args.window c.args.pixel.column c.args.pixel.row = simp to_z-of_z at c.has.ensures in
    outside c.args.window c.args.found.now.items c.args.pixel col row (sym is ∙ c.if-has.false)
