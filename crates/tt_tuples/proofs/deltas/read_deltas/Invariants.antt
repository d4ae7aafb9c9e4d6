use Rattle.std.proofs.Common.{◌≡◌, ◌-◌, ◌<◌, ◌^◌, vec_len, vec_capacity}
use Rattle.tt_tuples.specs.Bytes.{after}
use Rattle.tt_tuples.specs.Deltas.{deltas_from, deltas_at}
use Rattle.tt_tuples.specs.Views.{store_of, delta_run_of}
use Rattle.tt_tuples.proofs.deltas.read_deltas.Given as goal

abbrev pub invariant-loop-i : goal.invariant-loop-i
invariant-loop-i l = record {
  same : after l.deltas.items (deltas_from (store_of l.store) (l.count - l.i) (delta_run_of l.run)) ≡ deltas_at (store_of l.store) l.at l.count;
  count : vec_len l.deltas ≡ l.i;
  capacity : vec_capacity l.deltas ≡ vec_capacity l.fn.deltas;
  room : l.run.at < 2 ^ 32;
}
