use Rattle.std.proofs.Common.{sym}
use Rattle.std.proofs.Math.Bool.{and-false}
use Rattle.tt_axes.specs.Avar.{is_avar}
use Rattle.tt_axes.proofs.Lists.{no-header}
use Rattle.tt_axes.proofs.avar.is_avar.Goals as goal

pub returns-then-table-lt8-clause-exact : goal.returns-then-table-lt8-clause-exact
unfolding is_avar
returns-then-table-lt8-clause-exact c = rw (no-header c.args.table.now c.args.axes c.if-table-lt8.true) (sym (and-false _))
