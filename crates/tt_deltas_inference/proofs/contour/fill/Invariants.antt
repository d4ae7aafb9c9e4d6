use Rattle.std.proofs.Common.{◌≡◌, map, take, drop}
use Rattle.tt_deltas_inference.specs.Inference as is
use Rattle.tt_deltas_inference.proofs.contour.fill.Given as goal

-- the points so far are inferred, the others unchanged
abbrev pub invariant-loop-p : goal.invariant-loop-p
invariant-loop-p l = record {
  so_far : take l.p-index l.points ≡ map (is.inferred l.fn.before l.fn.after) (take l.p-index l.fn.points);
  rest : drop l.p-index l.points ≡ drop l.p-index l.fn.points;
}
