use Rattle.std.proofs.Common.{refl, sym, ap, inr, is_some, ◌∙◌}
use Rattle.tt_core.specs.Directory.{needed_table}
use Rattle.tt_core.proofs.directory.Dir.needed.Goals as goal

pub returns-in-None-clause-exact : goal.returns-in-None-clause-exact
unfolding needed_table
returns-in-None-clause-exact c =
    rw (c.in_ok-table.ensures.exact, c.in-None.is, c.new.ensures) refl

pub returns-in-None-clause-fault : goal.returns-in-None-clause-fault
unfolding needed_table
returns-in-None-clause-fault c =
    inr (sym c.in_ok-table.ensures.found ∙ ap is_some c.in-None.is, c.new.ensures)
