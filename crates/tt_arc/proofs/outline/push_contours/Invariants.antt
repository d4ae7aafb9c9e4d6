use Rattle.std.proofs.Common.{◌≡◌, ◌+◌, ◌*◌, ◌^◌, ◌<◌, ◌≤◌, ◌++◌, true, length, map}
use Rattle.tt_arc.specs.Chords.{moved, contour_start, chords_of, outline_contours, outline_edges}
use Rattle.tt_arc.specs.Ends.{ends_from}
use Rattle.tt_arc.proofs.Contours.{edges_from}
use Rattle.tt_arc.proofs.EndsOfContours.{contours_left}
use Rattle.tt_arc.proofs.Few.{chords_from}
use Rattle.tt_arc.proofs.outline.push_contours.Given as goal

abbrev pub invariant-loop-end : goal.invariant-loop-end
invariant-loop-end l = record {
  walked : l.made.list.edges ++ edges_from l.rule (map (moved l.by.dx l.by.dy) l.points) l.ends l.end-index
      ≡ outline_edges l.rule (map (moved l.by.dx l.by.dy) l.points) l.ends;
  ends : l.with_ends ≡ true
      → l.made.ends.items ++ ends_from (length l.made.list.edges) (contours_left l.rule (map (moved l.by.dx l.by.dy) l.points) l.ends l.end-index)
      ≡ ends_from 0 (outline_contours l.rule (map (moved l.by.dx l.by.dy) l.points) l.ends);
  counted : l.made.chords + chords_from l.rule (map (moved l.by.dx l.by.dy) l.points) l.ends l.end-index
      ≡ chords_of l.rule (map (moved l.by.dx l.by.dy) l.points) l.ends;
  few : l.made.chords ≤ 32 * l.from;
  small : l.from < 2 ^ 32;
  from : l.from ≡ contour_start l.ends l.end-index;
}
