use Rattle.std.proofs.Common.{◌≡◌, ◌&&◌, nat_lt}
use Rattle.tt_core.specs.Bits.{stride}
use Rattle.tt_scan_dropouts.specs.Pictures.{is_among}
use Rattle.tt_bitmap.specs.Bands.{IsBandBlackened}
use Rattle.tt_picture.proofs.large.add_dropouts.Given as goal

-- the rows so far have their dropouts
abbrev pub invariant-loop-r : goal.invariant-loop-r
invariant-loop-r l = record {
  bytes : l.bytes ≡ stride l.frame.width;
  painted : IsBandBlackened (stride l.frame.width) l.frame.height
      (λ r c. nat_lt r l.r && (nat_lt c l.frame.width && is_among l.dropouts c r)) l.fn.rows l.rows;
}
