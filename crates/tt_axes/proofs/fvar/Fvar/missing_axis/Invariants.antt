use Rattle.std.proofs.Common.{◌≡◌, drop}
use Rattle.tt_axes.specs.Instances.{missing_axis}
use Rattle.tt_axes.proofs.fvar.Fvar.missing_axis.Given as goal

-- each value so far has an axis
abbrev pub invariant-loop-value : goal.invariant-loop-value
invariant-loop-value l = missing_axis l.self (drop l.value-index l.values) ≡ missing_axis l.self l.values
