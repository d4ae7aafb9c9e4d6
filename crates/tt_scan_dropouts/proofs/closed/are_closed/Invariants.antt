use Rattle.std.proofs.Common.{drop, length}
use Rattle.std.specs.Prelude.{All}
use Rattle.tt_scan.specs.Contours.{AreEndsFrom, IsClosed, contours_at, contours_from}
use Rattle.tt_scan_dropouts.proofs.closed.are_closed.Given as goal

-- all contours are closed if the remaining ones are
abbrev pub invariant-loop-i : goal.invariant-loop-i
invariant-loop-i l = record {
  left : AreEndsFrom l.from (length l.contours.edges.now) (drop l.i l.contours.ends.now);
  all : All IsClosed (contours_from l.from l.contours.edges.now (drop l.i l.contours.ends.now)) → All IsClosed (contours_at l.contours.edges.now l.contours.ends.now);
}
