use Rattle.std.proofs.Common.{◌≡◌, None, take}
use Rattle.tt_deltas_inference.specs.Inference as is
use Rattle.tt_deltas_inference.proofs.search.unnamed.Given as goal

-- no point so far is named
abbrev pub invariant-loop-i : goal.invariant-loop-i
invariant-loop-i l = is.first_named (take l.i l.points) ≡ None
