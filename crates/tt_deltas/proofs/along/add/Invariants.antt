use Rattle.std.proofs.Common.{◌≡◌, take, drop}
use Rattle.tt_deltas.specs.Along.{added}
use Rattle.tt_deltas.proofs.along.add.Given as goal

-- the coordinates so far are moved, the others unchanged
abbrev pub invariant-loop-i : goal.invariant-loop-i
invariant-loop-i l = record {
  so_far : take l.i l.values ≡ take l.i (added l.fn.values l.points);
  rest : drop l.i l.values ≡ drop l.i l.fn.values;
}
