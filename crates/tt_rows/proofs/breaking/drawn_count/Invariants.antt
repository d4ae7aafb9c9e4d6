use Rattle.std.proofs.Common.{◌≡◌, ◌≤◌, length, take}
use Rattle.tt_rows.specs.Widths.{drawn}
use Rattle.tt_rows.proofs.breaking.drawn_count.Given as goal

-- the units after so many are blanks
abbrev pub invariant-loop-count : goal.invariant-loop-count
invariant-loop-count l = record {
  left : drawn (take l.count l.units) ≡ drawn l.units;
  few : l.count ≤ length l.units;
}

abbrev pub decreases-loop-count : goal.decreases-loop-count
decreases-loop-count l = l.count
