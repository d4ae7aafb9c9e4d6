use Rattle.std.proofs.Common.{◌≡◌, ◌+◌, ◌-◌, ◌*◌, ◌++◌, ◌≤◌, take, length, Some}
use Rattle.tt_kern.specs.Listed.{pairs_of_lookups, pairs_by}
use Rattle.tt_kern.specs.Pairs.{is_listed, rising, listed_by}
use Rattle.tt_kern.specs.Reads.{lookups_reads, pairs_reads}
use Rattle.tt_kern.proofs.pairs.pairs_by.Given as goal

-- the list so far, and then the lookups that are left
abbrev pub invariant-loop-i : goal.invariant-loop-i
invariant-loop-i l =
    let others = rising (32 - l.i) (is_listed (listed_by l.table l.feature)) l.low (l.count - l.low) in
    record {
      left : take 64 (l.pairs ++ pairs_of_lookups l.table l.i others) ≡ pairs_by l.table (Some l.feature);
      few : length l.pairs ≤ 64;
      read : l.reads + lookups_reads l.table others ≡ l.fn.reads + pairs_reads l.table (Some l.feature);
      reads_few : l.reads ≤ l.fn.reads + 259 + 260 * l.i;
    }
