use Rattle.std.proofs.Common.{take}
use Rattle.tt_core.proofs.KnownBytes.{kept_consumes}
use Rattle.tt_core.proofs.device.DeviceSource.read.Goals as goal

pub returns-in-Ok-clause-bytes : goal.returns-in-Ok-clause-bytes
returns-in-Ok-clause-bytes g c = (
  kept_consumes (g.R.Read.remaining c.args.self.now.inner) (g.R.Read.remaining c.loop.self.inner)
      (g.R.Read.remaining c.read.new.self) (take c.in-Ok.n c.read.new.buf) c.loop.invariant.kept
      c.in-Ok.ensures.bytes.0,
  c.in-Ok.ensures.bytes.1,
)
