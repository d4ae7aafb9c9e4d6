use Rattle.std.proofs.Common.{◌≡◌, ◌+◌, ◌-◌, ◌*◌, ◌^◌, ◌<◌, ◌≤◌}
use Rattle.std.specs.Prelude.{unsigned_abs}
use Rattle.tt_kern.specs.KernTable.{subtables_from, sum_after, kern_sum}
use Rattle.tt_kern.specs.Reads.{subtables_reads, kern_reads}
use Rattle.tt_kern.proofs.kern_table.kern_sum.Given as goal

-- the sum so far, and then the subtables that are left
abbrev pub invariant-loop-i : goal.invariant-loop-i
invariant-loop-i l = record {
  left : sum_after l.version l.table l.glyphs.left l.glyphs.right l.total (subtables_from l.version l.table (l.i-end - l.i) l.at)
      ≡ kern_sum l.table l.glyphs.left l.glyphs.right;
  few : l.i-end ≤ 32;
  bound : unsigned_abs l.total ≤ 32768 * l.i;
  near : l.at < 2 ^ 33;
  read : l.reads + subtables_reads l.version l.table l.glyphs.left l.glyphs.right (subtables_from l.version l.table (l.i-end - l.i) l.at)
      ≡ l.fn.reads + kern_reads l.table l.glyphs.left l.glyphs.right;
  reads_few : l.reads ≤ l.fn.reads + 3 + 22 * l.i;
}
