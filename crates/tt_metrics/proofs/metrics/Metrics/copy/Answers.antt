use Rattle.std.proofs.Common.{refl}
use Rattle.tt_metrics.proofs.metrics.Metrics.copy.Goals as goal

pub returns : goal.returns
returns c = rw (← c.self.view_is, c.copied.ensures, c.copied_advances.ensures) refl
