use Rattle.tt_axes.proofs.Portions.{portion_less}
use Rattle.tt_axes.proofs.region.portion.Goals as goal

pub returns-clause-less : goal.returns-clause-less
returns-clause-less c = rw (c.from.ensures, c.from-2.ensures, c.from-whole.ensures)
    (portion_less c.args.share.parts c.args.part c.args.whole c.requires.part c.requires.some)
