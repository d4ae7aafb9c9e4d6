use Rattle.std.proofs.Common.{ℕ, ◌+◌, ◌-◌, Bool}
use Rattle.tt_kern.specs.Halves.{asked}
use Rattle.tt_kern.specs.Search.{is_at_least}
use Rattle.tt_kern.proofs.Halves.{IsLeft}
use Rattle.tt_kern.proofs.search.reach.Given as goal

abbrev pub invariant-loop-low : goal.invariant-loop-low
invariant-loop-low l =
    let passes : ℕ → Bool = is_at_least l.keys.size l.table l.keys.at l.keys.step l.key in
    IsLeft passes l.keys.count l.low l.high l.reads (l.fn.reads + asked l.keys.count passes)

abbrev pub decreases-loop-low : goal.decreases-loop-low
decreases-loop-low l = l.high - l.low
