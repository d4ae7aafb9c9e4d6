use Rattle.tt_core.specs.Directory.{OnOk-HasNo-IsDefectIn}
use Rattle.tt_deltas.specs.Gvar.{IsShapeDefect, gvar_tag}
use Rattle.tt_deltas.proofs.gvar.Gvar.open.Goals as goal

pub returns-clause-sound : goal.returns-clause-sound
returns-clause-sound c =
    OnOk-HasNo-IsDefectIn c.of.result c.args.dir.now gvar_tag c.in_ok-table.table.now (IsShapeDefect c.args.axes)
    c.in_ok-table.ensures.exact c.in_ok-table.ensures.sound c.of.ensures.sound
