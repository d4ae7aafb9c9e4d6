use Rattle.std.proofs.Common.{arith}
use Rattle.std.proofs.lemmas.Int.{ints}
use Rattle.tt_line.proofs.label_extent.label_extent.Goals as goal

pub returns-clause-high : goal.returns-clause-high
returns-clause-high c =
    omega (arith, ints, c.descent.ensures.exact, c.rows_of-rows.ensures.exact, c.at_least.ensures.least, c.requires.depth)
