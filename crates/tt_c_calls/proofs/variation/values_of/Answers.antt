use Rattle.std.proofs.Common.{arith}
use Rattle.tt_c_calls.specs.Variations.{axis_value, no_values}
use Rattle.tt_c_calls.proofs.Entries.{next_told}
use Rattle.tt_c_calls.proofs.variation.values_of.Goals as goal

pub loop-i-preserved : goal.loop-i-preserved
loop-i-preserved c =
    rw (c.loop-i.invariant, c.axis_value.ensures)
    (next_told axis_value c.args.axis.now no_values c.loop-i.i _ (omega arith) (omega arith))
