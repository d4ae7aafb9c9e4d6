use Rattle.std.proofs.Common.{◌≡◌, ◌≤◌, length}
use Rattle.tt_variation_store.specs.Regions.{share_after}
use Rattle.tt_variation_store.proofs.regions.RegionList.share.Given as goal

-- the share after the axes so far
abbrev pub invariant-loop-axis : goal.invariant-loop-axis
invariant-loop-axis l = record {
  so_far : l.share.parts ≡ share_after l.self l.region l.coordinates l.axis;
  all : l.axis-end ≡ length l.coordinates;
  few : l.axis-end ≤ 64;
}
