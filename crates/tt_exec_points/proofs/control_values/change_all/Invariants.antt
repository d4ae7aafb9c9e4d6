use Rattle.std.proofs.Common.{◌≡◌, reverse, take}
use Rattle.tt_points_loops.specs.Deltas.{pairs_of}
use Rattle.tt_points_loops.specs.Series.{one_by_one}
use Rattle.tt_exec_points.specs.ControlValues.{change}
use Rattle.tt_exec_points.proofs.control_values.change_all.Given as goal

-- the remaining changes, applied to the present values, give the whole result
abbrev pub invariant-loop-i : goal.invariant-loop-i
invariant-loop-i l =
    one_by_one (change l.by.tolerance l.by.range l.by.ppem l.state) (reverse (take l.i (pairs_of l.pairs))) l.cvt
    ≡ one_by_one (change l.by.tolerance l.by.range l.by.ppem l.state) (reverse (pairs_of l.pairs)) l.fn.cvt
