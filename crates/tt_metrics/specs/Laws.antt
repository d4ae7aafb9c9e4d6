-- Lemmas about the definitions: a result has no defect. OpenType, "Font Tables": head, maxp, hhea and hmtx.
use Rattle.std.specs.Prelude.{◌≡◌, Ok}
use Rattle.tt_core.specs.Directory.{Directory, HasNo}
use Rattle.tt_metrics.specs.Metrics.{Metrics, metrics_of, IsMetricsDefect}

-- if the definition gives the metrics, none of the four tables has a defect
abbrev pub MetricsAreWhole : Type 0
MetricsAreWhole = (d : Directory) (m : Metrics) → metrics_of d ≡ Ok m → HasNo (IsMetricsDefect d)
