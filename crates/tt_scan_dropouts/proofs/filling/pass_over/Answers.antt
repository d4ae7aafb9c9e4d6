use Rattle.std.proofs.lemmas.Result.{IfOk-weaker}
use Rattle.tt_scan.specs.Contours.{contours_at}
use Rattle.tt_scan_dropouts.specs.Passes.{has_pixel}
use Rattle.tt_scan_dropouts.specs.Windows.{is_black_by}
use Rattle.tt_scan_dropouts.proofs.Together.{free_marks_add}
use Rattle.tt_scan_dropouts.proofs.filling.pass_over.Goals as goal

pub returns : goal.returns
returns c =
    IfOk-weaker c.added_by.result _ _ (λ v by. free_marks_add c.args.pass.rules c.args.columns
    (contours_at c.args.contours.edges.now c.args.contours.ends.now)
    (is_black_by c.args.pass.over c.args.pass.ink.now) (λ p j. has_pixel v.items p j) c.in_ok-marks.marks.items
    c.sort_marks.new.marks.items c.in_ok-marks.ensures c.sort_marks.ensures.same by) (simp c.deref.ensures.value at c.added_by.ensures)
