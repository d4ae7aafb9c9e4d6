use Rattle.std.proofs.Common.{◌≡◌, drop}
use Rattle.tt_rows.specs.Classes.{in_ranges}
use Rattle.tt_rows.proofs.classes.in_ranges.Given as goal

-- the character is in one of all ranges where it is in one of the remaining
abbrev pub invariant-loop-range : goal.invariant-loop-range
invariant-loop-range l = in_ranges (drop l.range-index l.ranges) l.c ≡ in_ranges l.ranges l.c
