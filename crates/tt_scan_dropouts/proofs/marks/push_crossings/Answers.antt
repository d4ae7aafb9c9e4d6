use Rattle.std.proofs.Common.{refl, append_assoc}
use Rattle.tt_scan_dropouts.specs.Windows.{is_black_by}
use Rattle.tt_scan_dropouts.proofs.FreeMarks.{more_free_crossings}
use Rattle.tt_scan_dropouts.proofs.marks.push_crossings.Goals as goal

pub loop-k-preserved : goal.loop-k-preserved
loop-k-preserved c =
    let more = more_free_crossings (is_black_by c.args.pass.over c.args.pass.ink.now) c.args.edge c.loop-k.k in
    rw (c.in_ok-push_asking.ensures, c.loop-k.invariant, append_assoc, c.crossing.ensures, ← more) refl
