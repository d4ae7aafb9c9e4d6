use Rattle.std.proofs.Common.{◌∙◌, nat_lt, refl}
use Rattle.std.proofs.lemmas.List.{take_all}
use Rattle.tt_core.specs.Bits.{bit}
use Rattle.tt_scan.proofs.Pens.{no_spans, none_painted, one_span_painted}
use Rattle.tt_scan.proofs.stamp.paint_each.Goals as goal

pub loop-i-init : goal.loop-i-init
loop-i-init c = record {
  bits = λ k. rw (no_spans c.args.pens.now k) (none_painted (bit c.args.row.now k) (nat_lt k c.args.width));
  len = refl;
}

pub loop-i-preserved : goal.loop-i-preserved
loop-i-preserved c = record {
  bits = λ k.
      c.paint_one.ensures.bits k
      ∙ rw (c.loop-i.invariant.bits k)
      (one_span_painted c.args.spans.now c.loop-i.i _ c.args.pens.now k (bit c.args.row.now k) (nat_lt k c.args.width) c.loop-i-test.true);
  len = c.paint_one.ensures.len ∙ c.loop-i.invariant.len;
}

pub returns : goal.returns
returns c = record {
  bits = λ k. rw (take_all c.loop-i.i c.args.spans.now c.loop-i-test.false) at (c.loop-i.invariant.bits k);
  len = c.loop-i.invariant.len;
}
