use Rattle.std.proofs.Common.{◌≡◌, ◌+◌, ◌*◌, ◌^◌, ◌<◌, ◌≤◌, map}
use Rattle.tt_arc.specs.Chords.{contour_start, chords_of, moved}
use Rattle.tt_arc.proofs.Few.{chords_from}
use Rattle.tt_arc.proofs.counting.outline_chords.Given as goal

-- the chords so far and those of the remaining contours are all chords
abbrev pub invariant-loop-end : goal.invariant-loop-end
invariant-loop-end l = record {
  counted : l.count + chords_from l.rule (map (moved l.by.dx l.by.dy) l.points) l.ends l.end-index
      ≡ chords_of l.rule (map (moved l.by.dx l.by.dy) l.points) l.ends;
  few : l.count ≤ 32 * l.from;
  small : l.from < 2 ^ 32;
  from : l.from ≡ contour_start l.ends l.end-index;
}
