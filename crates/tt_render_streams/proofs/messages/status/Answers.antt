use Rattle.std.proofs.Common.{refl}
use Rattle.tt_render_streams.proofs.messages.status.Goals as goal

pub returns-in-Memory : goal.returns-in-Memory
returns-in-Memory c = rw c.in-Memory.is refl
