use Rattle.std.proofs.Common.{◌≡◌, ◌-◌, ◌*◌, ◌<◌, ◌^◌, vec_capacity, All}
use Rattle.tt_tuples.specs.Tuples.{rest}
use Rattle.tt_deltas.specs.Along.{IsWithin}
use Rattle.tt_deltas.specs.Glyphs.{points_by_all}
use Rattle.tt_deltas.proofs.glyph.vary_by_all.Given as goal

-- the tuples that are left give, from here on, what all of them give
abbrev pub invariant-loop-tuples : goal.invariant-loop-tuples
invariant-loop-tuples l = record {
  same : points_by_all l.ends (record { xs = l.xs; ys = l.ys }) (rest l.tuples)
      ≡ points_by_all l.ends (record { xs = l.fn.xs; ys = l.fn.ys }) (rest l.fn.tuples);
  source : l.tuples.source ≡ l.fn.tuples.source;
  few : l.tuples.left < 4096;
  x : All (IsWithin ((4096 - l.tuples.left) * 2 ^ 34)) l.xs;
  y : All (IsWithin ((4096 - l.tuples.left) * 2 ^ 34)) l.ys;
  capacity : vec_capacity l.room ≡ vec_capacity l.fn.room;
}

abbrev pub decreases-loop-tuples : goal.decreases-loop-tuples
decreases-loop-tuples l = l.tuples.left
