use Rattle.std.proofs.Common.{length, drop}
use Rattle.tt_deltas_inference.specs.Bounds.{AreContourEnds}
use Rattle.tt_deltas_inference.specs.Inference as is
use Rattle.tt_deltas_inference.proofs.Ranges.{Made}
use Rattle.tt_deltas_inference.proofs.contours.infer.Given as goal

-- the contours so far, followed by the result for the others, are the result for all
abbrev pub invariant-loop-end : goal.invariant-loop-end
invariant-loop-end l = record {
  place : AreContourEnds l.start (drop l.end-index l.ends) (length l.fn.points);
  made : Made (is.contours 0 l.ends l.fn.points) l.points l.fn.points l.start (drop l.end-index l.ends);
}
