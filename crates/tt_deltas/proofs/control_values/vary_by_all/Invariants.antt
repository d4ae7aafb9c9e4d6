use Rattle.std.proofs.Common.{◌≡◌, ◌-◌, ◌*◌, ◌<◌, ◌^◌, vec_capacity, All}
use Rattle.tt_tuples.specs.Tuples.{rest}
use Rattle.tt_deltas.specs.Along.{IsWithin}
use Rattle.tt_deltas.specs.ControlValues.{values_by_all}
use Rattle.tt_deltas.proofs.control_values.vary_by_all.Given as goal

-- the tuples that are left give, from here on, what all of them give
abbrev pub invariant-loop-tuples : goal.invariant-loop-tuples
invariant-loop-tuples l = record {
  same : values_by_all l.values (rest l.tuples) ≡ values_by_all l.fn.values (rest l.fn.tuples);
  source : l.tuples.source ≡ l.fn.tuples.source;
  few : l.tuples.left < 4096;
  within : All (IsWithin ((4096 - l.tuples.left) * 2 ^ 34)) l.values;
  capacity : vec_capacity l.room ≡ vec_capacity l.fn.room;
}

abbrev pub decreases-loop-tuples : goal.decreases-loop-tuples
decreases-loop-tuples l = l.tuples.left
