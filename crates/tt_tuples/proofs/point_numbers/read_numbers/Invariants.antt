use Rattle.std.proofs.Common.{◌≡◌, ◌-◌, ◌≤◌, vec_len, vec_capacity, length}
use Rattle.tt_tuples.specs.Bytes.{after}
use Rattle.tt_tuples.specs.PointNumbers.{numbers_from, numbers_at}
use Rattle.tt_tuples.specs.Views.{store_of, number_run_of}
use Rattle.tt_tuples.proofs.point_numbers.read_numbers.Given as goal

abbrev pub invariant-loop : goal.invariant-loop
invariant-loop l = record {
  same : after l.numbers.items (numbers_from (store_of l.store) (l.count - l.counter) (number_run_of l.run) l.before)
      ≡ numbers_at (store_of l.store) l.at l.count;
  count : vec_len l.numbers ≡ l.counter;
  capacity : vec_capacity l.numbers ≡ vec_capacity l.fn.numbers;
  room : l.run.at ≤ length l.store.bytes.now;
}
