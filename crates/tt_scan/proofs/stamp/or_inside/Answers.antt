use Rattle.std.proofs.Common.{◌∙◌, ◌/◌, ◌%◌, length, rules, arith}
use Rattle.tt_core.specs.Bits.{bit}
use Rattle.tt_scan.proofs.EightBytes.{word_ored}
use Rattle.tt_scan.proofs.stamp.or_inside.Goals as goal

pub returns : goal.returns
returns c = record {
  bits = λ k.
      c.or_eight.ensures.bits k
      ∙ word_ored c.args.stamp.word c.args.stamp.columns c.args.at (length c.args.row.now) (c.args.at / 8) (c.args.at % 8) k (bit c.args.row.now k)
      (search rules) c.args.stamp.narrow c.args.stamp.free c.requires.within (omega arith) (omega arith) (omega arith);
  len = c.or_eight.ensures.len;
}
