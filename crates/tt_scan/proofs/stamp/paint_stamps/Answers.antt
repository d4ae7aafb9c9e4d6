use Rattle.std.proofs.Common.{◌∙◌, nat_lt}
use Rattle.tt_core.specs.Bits.{bit}
use Rattle.tt_scan.proofs.Pens.{rest_painted}
use Rattle.tt_scan.proofs.stamp.paint_stamps.Goals as goal

pub returns-then-done-pens : goal.returns-then-done-pens
returns-then-done-pens c = record {
  bits = λ k.
      c.paint_spans_at.ensures.bits k
      ∙ rw (c.paint_fitting-done.ensures.painted.bits k)
      (rest_painted c.args.spans.now c.args.pens.now c.paint_fitting-done.result k (bit c.args.row.now k) (nat_lt k c.args.width));
  len = c.paint_spans_at.ensures.len ∙ c.paint_fitting-done.ensures.painted.len;
}
