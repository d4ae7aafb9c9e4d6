use Rattle.std.proofs.Common.{take}
use Rattle.tt_program_decisions.proofs.KeptBytes.{kept_appends}
use Rattle.tt_program_decisions.proofs.closable.OutDeviceSink.write.Goals as goal

pub returns-then-n-gt0-clause-bytes : goal.returns-then-n-gt0-clause-bytes
returns-then-n-gt0-clause-bytes g c =
    kept_appends (g.W.Write.contents c.args.self.now.inner) (g.W.Write.contents c.loop.self.inner)
    (g.W.Write.contents c.write.new.self) (take c.in-Ok.n c.args.buf.now) c.loop.invariant.kept c.in-Ok.ensures.bytes
