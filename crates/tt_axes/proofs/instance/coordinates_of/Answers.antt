use Rattle.tt_axes.proofs.Instances.{nothing-wrong}
use Rattle.tt_axes.proofs.instance.coordinates_of.Goals as goal

pub returns-in-Some-clause-sound : goal.returns-in-Some-clause-sound
returns-in-Some-clause-sound c =
    nothing-wrong c.args.dir.now c.in_ok-fvar.fvar c.args.named c.args.values.now c.in_ok-fvar.ensures.exact c.in_ok-fvar.ensures.sound
    c.in_ok-coordinates.ensures.sound

pub returns-in-None-clause-sound : goal.returns-in-None-clause-sound
returns-in-None-clause-sound c =
    nothing-wrong c.args.dir.now c.in_ok-fvar.fvar c.args.named c.args.values.now c.in_ok-fvar.ensures.exact c.in_ok-fvar.ensures.sound
    c.in_ok-coordinates.ensures.sound
