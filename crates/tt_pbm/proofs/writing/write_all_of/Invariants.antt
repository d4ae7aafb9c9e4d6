use Rattle.std.proofs.Common.{◌≡◌, ◌-◌, ◌≤◌, length, take, false}
use Rattle.std.specs.Io.KnownBytes.{Appends}
use Rattle.tt_pbm.proofs.writing.write_all_of.Given as goal

-- the first `sent` bytes are written
abbrev pub invariant-loop-sent : goal.invariant-loop-sent
invariant-loop-sent g l = record {
  within : l.sent ≤ length l.bytes;
  part : Appends (g.W.Sink.written l.fn.out) (g.W.Sink.written l.out) (take l.sent l.bytes);
  sound : g.W.Sink.has_failed l.out ≡ false;
}

abbrev pub decreases-loop-sent : goal.decreases-loop-sent
decreases-loop-sent g l = length l.initial.bytes - l.sent
