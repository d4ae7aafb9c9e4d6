use Rattle.std.proofs.Common.{◌≡◌, ◌+◌, ◌&&◌, nat_lt, take}
use Rattle.tt_bitmap.specs.Bands.{IsBandBlackened}
use Rattle.tt_core.specs.Bits.{stride}
use Rattle.tt_picture.specs.Stamps.{some_stamp_shows}
use Rattle.tt_picture.proofs.stamps.add_stamps.Given as goal

-- the bitmaps so far are painted
abbrev pub invariant-loop-stamp : goal.invariant-loop-stamp
invariant-loop-stamp l = record {
  bytes : l.bytes ≡ stride l.frame.width;
  painted : IsBandBlackened (stride l.frame.width) l.count
      (λ i c. nat_lt c l.frame.width && some_stamp_shows (take l.stamp-index l.stamps) c (l.from + i)) l.fn.band l.band;
}
