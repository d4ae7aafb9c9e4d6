use Rattle.std.proofs.Common.{◌≡◌, ◌+◌, ◌≤◌, max, drop}
use Rattle.tt_bdf.specs.Asked.{end_of}
use Rattle.tt_bdf.specs.Ranges.{last_code}
use Rattle.tt_bdf.proofs.asked.end_of.Given as goal

-- the end so far, and that of the remaining ranges, is the end of all
abbrev pub invariant-loop-r : goal.invariant-loop-r
invariant-loop-r l = record {
  end : max l.end (end_of (drop l.r-index l.ranges)) ≡ end_of l.ranges;
  bound : l.end ≤ last_code + 1;
}
