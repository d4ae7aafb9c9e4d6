use Rattle.std.proofs.Common.{◌≡◌, ◌+◌, ◌*◌, ◌≤◌, ◌-ℤ◌, pos, length}
use Rattle.tt_bitmap.specs.Inks.{IsInk}
use Rattle.tt_scan_ink.specs.Least.{is_inked_by, shown}
use Rattle.tt_scan_ink.proofs.edges.rows_ink.Given as goal

-- the box of the lines so far, each cut once
abbrev pub invariant-loop-r : goal.invariant-loop-r
invariant-loop-r l = record {
  height : l.height ≡ l.fn.tape.frame.height;
  ink : IsInk (shown l.columns (l.past -ℤ pos l.r) l.r (is_inked_by l.fn.tape.edges)) l.ink;
  tape : l.tape ≡ record l.fn.tape { crosses = l.tape.crosses };
  few : l.tape.crosses ≤ l.fn.tape.crosses + l.r * length l.fn.tape.edges;
  room : l.sweep.room ≡ l.fn.sweep.room;
}
