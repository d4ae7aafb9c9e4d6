-- The heights of rows at a size.
use Rattle.std.specs.Prelude.{ℕ}
use Rattle.tt_label_rows.specs.declared.heights.RowHeights.{RowHeights}
use Rattle.tt_line.specs.Labels.{line_step_of}
use Rattle.tt_line.specs.Layout.{depth_of, rise_of}
use Rattle.tt_metrics.specs.Metrics.{Metrics}

abbrev pub row_heights : Metrics → ℕ → RowHeights
row_heights m ppem = record { rise = rise_of m ppem; depth = depth_of m ppem; step = line_step_of m ppem }
