use Rattle.std.proofs.Common.{◌≡◌, ◌+◌, ◌*◌, ◌++◌, ◌≤◌, take}
use Rattle.tt_kern.specs.Listed.{pairs_in}
use Rattle.tt_kern.specs.Reads.{places_reads}
use Rattle.tt_kern.proofs.pairs.note_lookup.Given as goal

-- the list so far
abbrev pub invariant-loop-k : goal.invariant-loop-k
invariant-loop-k l = record {
  noted : l.pairs ≡ take 64 (l.fn.pairs ++ pairs_in l.table l.fn.i l.lookup l.k);
  few : l.k-end ≤ 64;
  read : l.reads ≡ l.fn.reads + 2 + places_reads l.table l.lookup l.k;
  reads_few : l.reads ≤ l.fn.reads + 2 + 4 * l.k;
}
