use Rattle.std.proofs.Common.{◌≡◌, ◌<◌, ◌^◌, drop, Some}
use Rattle.tt_axes.specs.AxisWords.{with_digits}
use Rattle.tt_axes.proofs.axis_words.by_digits.Given as goal

-- the number so far, with the remaining digits, is the number of all
abbrev pub invariant-loop-i : goal.invariant-loop-i
invariant-loop-i l = record {
  number : with_digits (Some l.n) (drop l.i l.digits) ≡ with_digits (Some 0) l.digits;
  small : l.n < 10 ^ l.i;
}
