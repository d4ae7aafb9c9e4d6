use Rattle.tt_face.proofs.Instances.{gvar-whole}
use Rattle.tt_face.proofs.face.Face.set_coordinates.Goals as goal

pub returns-clause-sound : goal.returns-clause-sound
returns-clause-sound c =
    rw (← c.self.view_is) (gvar-whole c.self.inside.dir c.args.coordinates.now c.count-axes.result c.count-axes.ensures.exact
    c.in_ok-gvar.ensures.sound)
