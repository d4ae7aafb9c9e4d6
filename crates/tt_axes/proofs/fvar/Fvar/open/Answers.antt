use Rattle.tt_core.specs.Directory.{HasNo-IsDefectIn}
use Rattle.tt_axes.specs.Fvar.{fvar_tag, IsBadFvar}
use Rattle.tt_axes.proofs.fvar.Fvar.open.Goals as goal

pub returns-clause-sound : goal.returns-clause-sound
returns-clause-sound c =
    HasNo-IsDefectIn c.args.dir.now fvar_tag c.in_ok-table.table.now IsBadFvar c.in_ok-table.ensures.exact c.in_ok-table.ensures.sound
    c.in_ok-test.ensures.sound
