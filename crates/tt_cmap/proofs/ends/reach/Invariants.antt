use Rattle.std.proofs.Common.{ℕ, ◌+◌, ◌-◌, ◌≤◌}
use Rattle.std.specs.Prelude.{nat_le, Bool}
use Rattle.tt_cmap.specs.Halves.{asked}
use Rattle.tt_cmap.proofs.Halves.{IsLeft}
use Rattle.tt_cmap.proofs.ends.reach.Given as goal

abbrev pub invariant-loop-low : goal.invariant-loop-low
invariant-loop-low g l =
    let passes : ℕ → Bool = λ i. nat_le l.c (g.E.RangeEnds.end_of l.ends i) in
    IsLeft passes l.count l.low l.high l.reads (l.fn.reads + asked passes 0 l.count) (l.c ≤ g.E.RangeEnds.most_end l.ends)

abbrev pub decreases-loop-low : goal.decreases-loop-low
decreases-loop-low g l = l.high - l.low
