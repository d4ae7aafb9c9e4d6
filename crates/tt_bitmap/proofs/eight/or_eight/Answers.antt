use Rattle.tt_bitmap.proofs.EightBytes.{eight_ored}
use Rattle.tt_bitmap.proofs.eight.or_eight.Goals as goal

pub returns : goal.returns
returns c = record {
  bits = λ k.
      eight_ored c.args.row.now c.write_eight.new.row c.args.start c.args.word c.read_eight-old.result c.swap_bytes.result k
      c.swap_bytes.ensures c.read_eight-old.ensures c.write_eight.ensures.within c.write_eight.ensures.before c.write_eight.ensures.after;
  len = c.write_eight.ensures.len;
}
