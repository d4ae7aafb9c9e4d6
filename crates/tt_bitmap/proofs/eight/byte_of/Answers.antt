use Rattle.tt_bitmap.proofs.Turns.{byte_bit}
use Rattle.tt_bitmap.proofs.eight.byte_of.Goals as goal

pub returns : goal.returns
returns c = λ b low. byte_bit c.args.word _ b low
