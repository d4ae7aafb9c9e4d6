use Rattle.std.proofs.Common.{refl, append_assoc}
use Rattle.tt_scan_dropouts.specs.Windows.{is_black_by}
use Rattle.tt_scan_dropouts.proofs.FreeMarks.{more_free_steps}
use Rattle.tt_scan_dropouts.proofs.marks.push_walk_marks.Goals as goal

pub loop-k-preserved : goal.loop-k-preserved
loop-k-preserved c =
    let more = more_free_steps (is_black_by c.args.pass.over c.args.pass.ink.now) c.args.steps.now c.loop-k.k in
    rw (c.in_ok-push_step_marks.ensures, c.loop-k.invariant, more, append_assoc) refl
