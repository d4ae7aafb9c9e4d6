use Rattle.tt_bitmap.proofs.Sides.{columns_first}
use Rattle.tt_bitmap.proofs.ink.first_columns.Goals as goal

pub returns : goal.returns
returns c = λ j. columns_first c.args.word c.ones.result c.args.room j c.requires c.ones.ensures
