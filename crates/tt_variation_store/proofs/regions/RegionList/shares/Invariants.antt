use Rattle.std.proofs.Common.{◌≡◌, ℕ, ◌<◌, ◌≤◌, length, slice_index}
use Rattle.tt_variation_store.specs.Regions.{region_count, region_share}
use Rattle.tt_variation_store.proofs.regions.RegionList.shares.Given as goal

-- the shares of the regions so far, and nothing after them
abbrev pub invariant-loop-region : goal.invariant-loop-region
invariant-loop-region l = record {
  size : length l.shares ≡ 512;
  all : l.region-end ≡ region_count l.self;
  few : l.region-end ≤ 512;
  so_far : (k : ℕ) → k < l.region → slice_index l.shares k ≡ region_share l.self k l.coordinates;
  rest : (k : ℕ) → l.region ≤ k → slice_index l.shares k ≡ 0;
}
