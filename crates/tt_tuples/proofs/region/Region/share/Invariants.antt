use Rattle.std.proofs.Common.{◌≡◌}
use Rattle.tt_tuples.specs.Regions.{share_after}
use Rattle.tt_tuples.specs.Views.{region_of}
use Rattle.tt_tuples.proofs.region.Region.share.Given as goal

abbrev pub invariant-loop-i : goal.invariant-loop-i
invariant-loop-i l = l.share.parts ≡ share_after l.coordinates (region_of l.self) l.i
