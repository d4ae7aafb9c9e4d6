use Rattle.std.proofs.Common.{◌≡◌, drop}
use Rattle.tt_deltas_inference.specs.Inference as is
use Rattle.tt_deltas_inference.proofs.search.first_named.Given as goal

-- the first named point of the remaining ones is the first of all
abbrev pub invariant-loop-p : goal.invariant-loop-p
invariant-loop-p l = is.first_named (drop l.p-index l.points) ≡ is.first_named l.points
