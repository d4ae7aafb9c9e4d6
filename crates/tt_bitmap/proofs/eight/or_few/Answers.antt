use Rattle.std.proofs.Common.{◌≡◌, length, rules, arith, refl}
use Rattle.tt_core.specs.Bits.{bit}
use Rattle.tt_bitmap.specs.Words.{in_word}
use Rattle.tt_bitmap.proofs.Bytes.{byte_ored, no_byte, one_byte}
use Rattle.tt_bitmap.proofs.eight.or_few.Goals as goal

pub loop-i-init : goal.loop-i-init
loop-i-init c = record {
  bits = λ k. no_byte (bit c.args.row.now k) (in_word c.args.word k) k;
  len = refl;
}

pub loop-i-preserved : goal.loop-i-preserved
loop-i-preserved c =
    let so_far = c.loop-i.invariant in
    let i = c.loop-i.i in
    record {
      bits = λ k. one_byte c.args.word i k c.byte_of.result (bit c.args.row.now k) (bit c.loop-i.row k) _
          (omega (arith, c.loop-i-test.true, c.requires)) c.byte_of.ensures (so_far.bits k)
          (byte_ored c.loop-i.row i c.byte_of.result k (omega (arith, so_far.len, c.loop-i-test.true)));
      len = search rules;
    }

pub returns : goal.returns
returns c =
    let end : c.loop-i.i ≡ length c.args.row.now = omega (arith, c.loop-i-test.false, c.loop-i.auto.i-end) in
    record {
      bits = λ k. rw end at (c.loop-i.invariant.bits k);
      len = c.loop-i.invariant.len;
    }
