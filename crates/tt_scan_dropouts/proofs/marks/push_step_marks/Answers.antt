use Rattle.std.proofs.Common.{List, refl, sym, ◌∙◌}
use Rattle.tt_scan_dropouts.specs.Windows.{is_black_by}
use Rattle.tt_scan_gaps.specs.declared.mark.Mark.{Mark}
use Rattle.tt_scan_dropouts.proofs.FreeMarks.{free_cross}
use Rattle.tt_scan_dropouts.proofs.marks.push_step_marks.Goals as goal

pub returns-in_ok-push : goal.returns-in_ok-push
returns-in_ok-push c =
    let black = is_black_by c.args.pass.over c.args.pass.ink.now in
    let free = sym c.is_free.ensures ∙ c.if-is_free.true in
    let one = free_cross black c.args.steps.now c.args.k c.in-Cross.at _ c.requires c.in-Cross.is free in
    rw (c.in_ok-push.ensures.items, c.is_of_stub.ensures, one) (refl {A = List Mark})
