use Rattle.std.proofs.Common.{◌≡◌, ◌+◌, ◌-◌, ◌*◌, ◌≤◌, drop, length, take, false}
use Rattle.std.specs.Io.KnownBytes.{Appends}
use Rattle.tt_core.specs.Bits.{stride}
use Rattle.tt_render_streams.proofs.writing.write_rows.Given as goal

-- the rows so far were written, and no more
abbrev pub invariant-loop-picture : goal.invariant-loop-picture
invariant-loop-picture g l = record {
  picture : l.picture ≡ record l.fn.picture { made = l.picture.made };
  within : l.picture.made ≤ l.fn.picture.frame.height;
  piece : length l.piece ≡ length l.fn.piece;
  sent : l.sent + stride l.fn.picture.frame.width * l.fn.picture.made ≡ stride l.fn.picture.frame.width * l.picture.made;
  out : Appends (g.W.Sink.written l.fn.out) (g.W.Sink.written l.out)
      (take l.sent (drop (stride l.fn.picture.frame.width * l.fn.picture.made) l.fn.picture.rows));
  serves : g.W.Sink.has_failed l.out ≡ false;
}

-- the rows that are left
abbrev pub decreases-loop-picture : goal.decreases-loop-picture
decreases-loop-picture g l = l.initial.picture.frame.height - l.picture.made
