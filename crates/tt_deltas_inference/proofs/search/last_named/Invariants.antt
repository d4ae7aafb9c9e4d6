use Rattle.std.proofs.Common.{◌≡◌, None, drop, IfSome}
use Rattle.tt_deltas_inference.specs.Bounds.{IsGiven}
use Rattle.tt_deltas_inference.specs.Inference as is
use Rattle.tt_deltas_inference.proofs.search.last_named.Given as goal

-- the last named point of the remaining ones, or the one found before, is the last of all
abbrev pub invariant-loop-p : goal.invariant-loop-p
invariant-loop-p l = record {
  same : is.last_named l.last (drop l.p-index l.points) ≡ is.last_named None l.points;
  given : IfSome l.last IsGiven;
}
