use Rattle.std.proofs.Common.{◌≡◌, ◌+◌, ◌*◌, ◌≤◌, drop}
use Rattle.std.specs.Prelude.{◌+ℤ◌, unsigned_abs}
use Rattle.tt_kern.specs.Listed.{sum_from}
use Rattle.tt_kern.specs.Reads.{reads_from}
use Rattle.tt_kern.proofs.sum.pair_sum.Given as goal

-- the sum so far, and then that of the subtables that are left
abbrev pub invariant-loop-i : goal.invariant-loop-i
invariant-loop-i l = record {
  left : l.so_far.total +ℤ sum_from l.variation l.gpos l.glyphs.left l.glyphs.right l.so_far.ended (drop l.i l.pairs)
      ≡ sum_from l.variation l.gpos l.glyphs.left l.glyphs.right 0 l.pairs;
  total : unsigned_abs l.so_far.total ≤ 32768 * l.so_far.ended;
  ended : l.so_far.ended ≤ 32;
  few : l.i-end ≤ 64;
  read : l.reads + reads_from l.variation l.gpos l.glyphs.left l.glyphs.right l.so_far.ended (drop l.i l.pairs)
      ≡ l.fn.reads + reads_from l.variation l.gpos l.glyphs.left l.glyphs.right 0 l.pairs;
  reads_few : l.reads ≤ l.fn.reads + 76 * l.i;
}
