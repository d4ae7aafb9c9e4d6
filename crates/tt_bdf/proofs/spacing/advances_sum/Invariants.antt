use Rattle.std.proofs.Common.{◌≡◌, ◌+◌, ◌*◌, ◌^◌, ◌≤◌, drop}
use Rattle.tt_bdf.specs.Advances.{advances_sum}
use Rattle.tt_bdf.proofs.spacing.advances_sum.Given as goal

-- the sum so far, and that of the remaining advances, is the sum of all
abbrev pub invariant-loop-c : goal.invariant-loop-c
invariant-loop-c l = record {
  sum : l.sum + advances_sum (drop l.c-index l.characters) ≡ advances_sum l.characters;
  small : l.sum ≤ 2 ^ 32 * l.c-index;
}
