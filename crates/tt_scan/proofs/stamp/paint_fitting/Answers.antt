use Rattle.std.proofs.Common.{◌∙◌, nat_lt, rules}
use Rattle.tt_core.specs.Bits.{bit}
use Rattle.tt_scan.proofs.Pens.{one_pen_painted}
use Rattle.tt_scan.proofs.stamp.paint_fitting.Goals as goal

pub loop-i-preserved : goal.loop-i-preserved
loop-i-preserved c =
    let so_far = c.loop-i.invariant in
    record {
      bits = λ k.
          (c.paint_fit.ensures.painted (search rules)).bits k
          ∙ rw (so_far.bits k) (one_pen_painted c.args.spans.now c.args.pens.now c.loop-i.i k (bit c.args.row.now k) (nat_lt k c.args.width) c.loop-i-test.true);
      len = (c.paint_fit.ensures.painted (search rules)).len ∙ so_far.len;
    }
