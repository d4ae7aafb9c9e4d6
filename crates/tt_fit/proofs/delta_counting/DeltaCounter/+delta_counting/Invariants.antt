use Rattle.std.proofs.Common.{◌≡◌, ◌+◌, ◌*◌, drop}
use Rattle.tt_fit.specs.Counting.{left_of}
use Rattle.tt_fit.specs.DeltaCounting.{deltas_of_all}
use Rattle.tt_fit.proofs.delta_counting.DeltaCounter.+delta_counting.Given as goal

abbrev pub decreases-left : goal.decreases-left
decreases-left l = 2 * l.levels

abbrev pub decreases-left_all : goal.decreases-left_all
decreases-left_all l = 2 * l.levels + 1

abbrev pub invariant-left_all-loop-part : goal.invariant-left_all-loop-part
invariant-left_all-loop-part l =
    left_of l.left (deltas_of_all l.self.gvar.now l.self.glyf.now l.levels (drop l.part-index l.parts))
    ≡ left_of l.fn.most (deltas_of_all l.self.gvar.now l.self.glyf.now l.levels l.parts)
