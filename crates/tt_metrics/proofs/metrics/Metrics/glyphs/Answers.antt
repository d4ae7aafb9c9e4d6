use Rattle.std.proofs.Common.{refl}
use Rattle.tt_metrics.proofs.metrics.Metrics.glyphs.Goals as goal

pub returns-clause-exact : goal.returns-clause-exact
returns-clause-exact c = rw (← c.self.view_is) refl
