use Rattle.std.proofs.Common.{◌≡◌, ◌+◌, ◌&&◌, nat_lt}
use Rattle.tt_bitmap.specs.Bands.{IsBandBlackened, column}
use Rattle.tt_core.specs.Bits.{stride}
use Rattle.tt_picture.proofs.columns.copy_rows.Given as goal

-- the rows so far are copied
abbrev pub invariant-loop-r : goal.invariant-loop-r
invariant-loop-r l = record {
  bytes : l.bytes ≡ stride l.frame.width;
  wide : l.wide_bytes ≡ stride l.fn.wide_frame.width;
  painted : IsBandBlackened (stride l.frame.width) l.frame.height
      (λ r c. nat_lt r l.r && (nat_lt c l.frame.width && column (stride l.fn.wide_frame.width) l.wide r (l.from + c))) l.fn.rows l.rows;
}
