use Rattle.std.proofs.Common.{◌≡◌, ◌*◌, ◌^◌, ◌≤◌}
use Rattle.std.specs.Prelude.{unsigned_abs}
use Rattle.tt_variation_store.specs.Deltas.{sum_of_first}
use Rattle.tt_variation_store.specs.Items.{index_count}
use Rattle.tt_variation_store.specs.Store.{region_list}
use Rattle.tt_variation_store.proofs.at_instance.StoreAtInstance.sum.Given as goal

-- the sum of the numbers so far
abbrev pub invariant-loop-i : goal.invariant-loop-i
invariant-loop-i l = record {
  so_far : l.sum ≡ sum_of_first (region_list l.self.store) l.self.coordinates l.items l.row l.i;
  all : l.i-end ≡ index_count l.items;
  few : l.i-end ≤ 512;
  bound : unsigned_abs l.sum ≤ 2 ^ 47 * l.i;
}
