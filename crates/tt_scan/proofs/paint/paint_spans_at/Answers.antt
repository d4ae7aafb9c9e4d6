use Rattle.std.proofs.Common.{◌∙◌, nat_lt, SFits, w64, rules}
use Rattle.std.proofs.lemmas.Int.{to_z-of_z}
use Rattle.std.proofs.lemmas.List.{take_all}
use Rattle.tt_core.specs.Bits.{bit}
use Rattle.tt_scan.proofs.Pens.{one_pen_painted}
use Rattle.tt_scan.proofs.paint.paint_spans_at.Goals as goal

pub loop-pen-preserved : goal.loop-pen-preserved
loop-pen-preserved c =
    let shift : SFits w64 c.from.result = search rules in
    let so_far = c.loop-pen.invariant in
    let i = c.loop-pen.pen-index in
    let painted = simp to_z-of_z at c.paint_spans.ensures.bits in
    let at = rw c.from.ensures at painted in
    record {
      bits = λ k. at k ∙ rw (so_far.bits k) (one_pen_painted c.args.spans.now c.args.pens.now i k
          (bit c.args.row.now k) (nat_lt k c.args.width) c.loop-pen-test.true);
      len = c.paint_spans.ensures.len ∙ so_far.len;
    }

pub returns : goal.returns
returns c = record {
  bits = λ k. rw (take_all c.loop-pen.pen-index c.args.pens.now c.loop-pen-test.false) at (c.loop-pen.invariant.bits k);
  len = c.loop-pen.invariant.len;
}
