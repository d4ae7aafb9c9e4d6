use Rattle.std.proofs.Common.{◌∙◌, ◌-◌, ◌*◌, ◌%◌, length, refl, rules, arith}
use Rattle.tt_core.specs.Bits.{bit}
use Rattle.tt_scan.proofs.EightBytes.{word_ored}
use Rattle.tt_scan.proofs.stamp.or_word.Goals as goal

pub returns-else-row-lt8 : goal.returns-else-row-lt8
returns-else-row-lt8 c = record {
  bits = λ k.
      let start = c.min-start.result in
      c.or_eight.ensures.bits k
      ∙ word_ored c.args.stamp.word c.args.stamp.columns c.args.at (length c.args.row.now) start ((c.args.at - 8 * start) % 64) k (bit c.args.row.now k)
      (search rules) c.args.stamp.narrow c.args.stamp.free c.requires.within (omega (arith, c.if-row-lt8.false)) c.min-start.ensures refl;
  len = c.or_eight.ensures.len;
}
