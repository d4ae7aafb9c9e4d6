use Rattle.tt_scan.proofs.Words.{byte_bit}
use Rattle.tt_scan.proofs.stamp.word_byte.Goals as goal

pub returns : goal.returns
returns c = λ i low. byte_bit c.args.word c.args.by i low
