use Rattle.std.proofs.Common.{◌≡◌, ◌+◌, ◌≤◌, length}
use Rattle.tt_kern.specs.Pairs.{words_at}
use Rattle.tt_kern.proofs.pairs.listed_by.Given as goal

-- the numbers so far
abbrev pub invariant-loop-i : goal.invariant-loop-i
invariant-loop-i l = record {
  listed : l.numbers ≡ words_at l.table (l.feature + 4) l.i;
  count : length l.numbers ≡ l.i;
  few : l.i-end ≤ 256;
  read : l.reads ≡ l.fn.reads + 1 + l.i;
}
