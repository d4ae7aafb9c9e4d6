use Rattle.tt_bdf.proofs.LeastBox.{blanks_have_zeros, box_is_least}
use Rattle.tt_bdf.proofs.laws.box_is_least.Goals as goal

pub returns-clause-least : goal.returns-clause-least
returns-clause-least c = box_is_least

pub returns-clause-blank : goal.returns-clause-blank
returns-clause-blank c = blanks_have_zeros
