use Rattle.tt_scan.proofs.Columns.{mask_is, mask_order, mask_bit}
use Rattle.tt_scan.proofs.bytes.mask.Goals as goal

pub overflow_sub-result : goal.overflow_sub-result
overflow_sub-result c = mask_order c.args.from c.args.to c.requires.order c.requires.fits

pub returns : goal.returns
returns c = λ j within. rw (mask_is c.args.from c.args.to c.requires.order c.requires.fits) (mask_bit c.args.from c.args.to j c.requires.order c.requires.fits within)
