use Rattle.std.proofs.Common.{◌≡◌, ◌+◌, ◌*◌, ◌≤◌, length, map}
use Rattle.tt_arc.specs.Chords.{contour_chords, moved}
use Rattle.tt_arc.proofs.Walks.{edges_onward}
use Rattle.tt_arc.proofs.counting.contour_chords.Given as goal

-- the chords so far and those of the remaining points are all chords
abbrev pub invariant-loop-i : goal.invariant-loop-i
invariant-loop-i l = record {
  counted : l.count + length (edges_onward l.rule (map (moved l.by.dx l.by.dy) l.points) l.i)
      ≡ length (contour_chords l.rule (map (moved l.by.dx l.by.dy) l.points));
  few : l.count ≤ 32 * l.i;
  within : l.i ≤ length l.points;
}
