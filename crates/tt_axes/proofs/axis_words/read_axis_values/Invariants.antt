use Rattle.std.proofs.Common.{◌≡◌, length}
use Rattle.tt_core.proofs.Pieces.{behind}
use Rattle.tt_core.specs.Cutting.{all_read, pieces}
use Rattle.tt_axes.specs.AxisWords.{axis_value_of}
use Rattle.tt_axes.proofs.axis_words.read_axis_values.Given as goal

-- the values so far, and those of the rest, are all
abbrev pub invariant-loop-value : goal.invariant-loop-value
invariant-loop-value l =
    behind l.values.items (all_read axis_value_of (pieces 44 l.rest)) ≡ all_read axis_value_of (pieces 44 l.text)

abbrev pub decreases-loop-value : goal.decreases-loop-value
decreases-loop-value l = length l.rest
