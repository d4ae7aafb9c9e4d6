use Rattle.std.proofs.Common.{Ok}
use Rattle.tt_core.specs.Directory.{OnOk-HasNo-IsDefectIn}
use Rattle.tt_glyf.specs.Loca.{loca_tag, IsLocaDefect}
use Rattle.tt_face.specs.Faces.{Face}
use Rattle.tt_face.proofs.Whole.{no_glyph_table_defect}
use Rattle.tt_face.proofs.face.Face.glyf.Goals as goal

pub returns-clause-sound : goal.returns-clause-sound
returns-clause-sound c =
    let face : Face = record { directory = c.self.inside.dir; metrics = c.self.inside.metrics; cmap = c.self.inside.cmap; instance = c.self.inside.instance } in
    let table = c.in_ok-needed in
    let good = OnOk-HasNo-IsDefectIn {X = Unit {0}} (Ok tt) face.directory loca_tag table.field-0.now
    (λ loca. IsLocaDefect loca face.metrics) table.ensures.exact table.ensures.sound c.in_ok-loca.ensures.sound in
    rw (← c.self.view_is) (no_glyph_table_defect {X = Unit {0}} (Ok tt) face good c.in_ok-needed-2.ensures.sound)
