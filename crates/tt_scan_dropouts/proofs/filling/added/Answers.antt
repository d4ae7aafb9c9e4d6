use Rattle.std.proofs.Common.{sym}
use Rattle.tt_scan_dropouts.specs.Windows.{is_black_by}
use Rattle.tt_scan_dropouts.proofs.NoFreeGap.{nothing_added}
use Rattle.tt_scan_dropouts.proofs.filling.added.Goals as goal

pub returns-then-not-some : goal.returns-then-not-some
returns-then-not-some c = λ p j.
    let none = c.requires c.if-not-some.true in
    rw c.new.ensures.items (sym (nothing_added c.args.pass.rules c.args.columns (is_black_by c.args.pass.over c.args.pass.ink.now) c.args.contours.edges.now
    c.args.contours.ends.now c.args.contours.are_ends none p j))
