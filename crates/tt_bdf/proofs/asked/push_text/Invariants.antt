use Rattle.std.proofs.Common.{◌≡◌, ◌++◌, map}
use Rattle.std.specs.Prelude.{All}
use Rattle.tt_bdf.specs.Asked.{range_of_one}
use Rattle.tt_bdf.specs.Ranges.{IsCodeRange}
use Rattle.tt_bdf.proofs.asked.push_text.Given as goal

-- the ranges of the characters so far
abbrev pub invariant-loop-c : goal.invariant-loop-c
invariant-loop-c l =
    (l.ranges.items ≡ l.initial.ranges.items ++ map range_of_one l.yielded)
    × (All IsCodeRange l.initial.ranges.items → All IsCodeRange l.ranges.items)
