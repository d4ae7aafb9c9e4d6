use Rattle.std.proofs.Common.{◌≡◌, ◌+◌, ◌*◌, ◌<◌, ◌≤◌, ◌++◌, length, map}
use Rattle.tt_arc.specs.Chords.{PointFits, moved, point_at, number_before, contour_chords, contour_edges}
use Rattle.tt_arc.specs.Added.{joined_behind}
use Rattle.tt_arc.proofs.Walks.{edges_onward}
use Rattle.tt_arc.proofs.contour.push_contour.Given as goal

abbrev pub invariant-loop-i : goal.invariant-loop-i
invariant-loop-i l = record {
  walked : l.list.edges ++ joined_behind l.fn.rule l.so_far.last (edges_onward l.fn.rule (map (moved l.by.dx l.by.dy) l.points) l.i)
      ≡ l.fn.list.edges ++ contour_edges l.fn.rule (map (moved l.by.dx l.by.dy) l.points);
  counted : l.so_far.chords + length (edges_onward l.fn.rule (map (moved l.by.dx l.by.dy) l.points) l.i)
      ≡ length (contour_chords l.fn.rule (map (moved l.by.dx l.by.dy) l.points));
  few : l.so_far.chords ≤ 32 * l.i;
  before : l.before ≡ point_at (map (moved l.by.dx l.by.dy) l.points) (number_before (length l.points) l.i);
  point : l.i < length l.points → l.point ≡ point_at (map (moved l.by.dx l.by.dy) l.points) l.i;
  before_fits : PointFits l.before;
  point_fits : PointFits l.point;
}
