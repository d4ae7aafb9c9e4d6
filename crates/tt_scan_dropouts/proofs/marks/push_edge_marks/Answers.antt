use Rattle.std.proofs.Common.{refl}
use Rattle.tt_scan_dropouts.specs.Windows.{is_black_by}
use Rattle.tt_scan_dropouts.proofs.FreeMarks.{free_untouched}
use Rattle.tt_scan_dropouts.proofs.marks.push_edge_marks.Goals as goal

pub returns-in_default : goal.returns-in_default
returns-in_default c =
    let black = is_black_by c.args.pass.over c.args.pass.ink.now in
    rw (c.in_ok-push_crossings.ensures, free_untouched black c.args.edge c.in_default.ensures.none) refl
