use Rattle.std.proofs.Common.{◌≡◌, ◌&&◌, nat_lt}
use Rattle.tt_core.specs.Bits.{stride}
use Rattle.tt_bitmap.specs.Bands.{IsBandBlackened}
use Rattle.tt_picture.specs.Large.{TapeFits, is_black_from}
use Rattle.tt_picture.proofs.large.add_tape_rows.Given as goal

-- the rows so far are painted
abbrev pub invariant-loop-r : goal.invariant-loop-r
invariant-loop-r l = record {
  bytes : l.bytes ≡ stride l.frame.width;
  painted : IsBandBlackened (stride l.frame.width) l.frame.height
      (λ r c. nat_lt r l.r && (nat_lt c l.frame.width && is_black_from l.frame l.fn.tape.edges l.pens c r)) l.fn.rows l.rows;
  tape : TapeFits l.frame l.r l.tape;
  edges : l.tape.edges ≡ l.fn.tape.edges;
  room : l.sweep.room ≡ l.fn.sweep.room;
}
