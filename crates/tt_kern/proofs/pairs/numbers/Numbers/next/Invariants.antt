use Rattle.std.proofs.Common.{take}
use Rattle.tt_kern.specs.Pairs.{IsNext}
use Rattle.tt_kern.proofs.pairs.numbers.Numbers.next.Given as goal

-- the next of the numbers so far
abbrev pub invariant-loop-i : goal.invariant-loop-i
invariant-loop-i l = IsNext (take l.i l.self) l.low l.high l.next
