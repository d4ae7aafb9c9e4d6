use Rattle.std.proofs.Common.{◌-◌, rules, arith}
use Rattle.tt_core.specs.Bits.{bit}
use Rattle.tt_scan.specs.Stamps.{in_word}
use Rattle.tt_scan.proofs.Words.{word_begin, word_step, word_end}
use Rattle.tt_scan.proofs.stamp.or_bytes.Goals as goal

pub loop-i-init : goal.loop-i-init
loop-i-init c = record {
  bits = λ k. word_begin (bit c.args.row.now k) (in_word c.args.stamp.word (k - c.args.at)) c.args.at k;
  len = search rules;
}

pub loop-i-preserved : goal.loop-i-preserved
loop-i-preserved c = record {
  bits = λ k. word_step c.args.stamp.word c.args.at c.loop-i.i k c.word_byte.result (bit c.args.row.now k) (bit c.loop-i.row k) (bit c.or_byte.new.row k)
      (search rules) (λ b low. c.args.stamp.free b (omega (arith, c.args.stamp.narrow))) (omega (arith, c.loop-i-test.true, c.args.stamp.narrow)) c.word_byte.ensures (c.loop-i.invariant.bits k) (c.or_byte.ensures.bits k);
  len = search rules;
}

pub returns : goal.returns
returns c = record {
  bits = λ k.
      word_end (bit c.args.row.now k) (bit c.loop-i.row k) c.args.stamp.word c.args.stamp.columns c.args.at c.loop-i.i k c.args.stamp.narrow c.args.stamp.free (omega (arith, c.loop-i-test.false)) (c.loop-i.invariant.bits k);
  len = c.loop-i.invariant.len;
}
