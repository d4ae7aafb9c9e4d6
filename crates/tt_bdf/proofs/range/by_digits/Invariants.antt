use Rattle.std.proofs.Common.{◌≡◌, ◌≤◌, drop, Some}
use Rattle.tt_bdf.specs.Ranges.{last_code, with_digits}
use Rattle.tt_bdf.proofs.range.by_digits.Given as goal

-- the code point so far, with the remaining digits, is the code point of all
abbrev pub invariant-loop-i : goal.invariant-loop-i
invariant-loop-i l = record {
  code : with_digits (Some l.n) (drop l.i l.digits) ≡ with_digits (Some 0) l.digits;
  small : l.n ≤ last_code;
}
