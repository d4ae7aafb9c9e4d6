use Rattle.std.proofs.Common.{◌≡◌}
use Rattle.std.specs.Io.KnownBytes.{Keeps}
use Rattle.tt_program_decisions.proofs.closable.OutDeviceSink.write.Given as goal

-- interrupted calls have written nothing
abbrev pub invariant-loop : goal.invariant-loop
invariant-loop g l = record {
  kept : Keeps (g.W.Write.contents l.fn.self.inner) (g.W.Write.contents l.self.inner);
  same : l.self.failed ≡ l.fn.self.failed;
}
