use Rattle.std.proofs.Common.{arith}
use Rattle.tt_bitmap.proofs.Turns.{ones_is, ones_order, ones_bit}
use Rattle.tt_bitmap.proofs.run.ones.Goals as goal

pub overflow_sub-result : goal.overflow_sub-result
overflow_sub-result c = ones_order c.args.from c.args.to c.requires.order (omega (arith, c.requires.fits))

pub returns : goal.returns
returns c = λ j within.
    rw (ones_is c.args.from c.args.to c.requires.order (omega (arith, c.requires.fits)))
    (ones_bit c.args.from c.args.to j c.requires.order (omega (arith, c.requires.fits)) within)
