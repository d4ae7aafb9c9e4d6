use Rattle.std.proofs.Common.{inr}
use Rattle.std.specs.Prelude.{option_map}
use Rattle.std.proofs.lemmas.Result.{err_from_is_err_and}
use Rattle.tt_face.specs.Views.{asked_view}
use Rattle.tt_face.proofs.Instances.{opened-whole}
use Rattle.tt_face.proofs.face.Face.read_at.Goals as goal

pub returns-clause-sound : goal.returns-clause-sound
returns-clause-sound c =
    opened-whole c.args.file.now c.args.opening (option_map asked_view c.args.instance) c.in_ok-face.face c.in_ok-face.ensures.exact
    c.in_ok-face.ensures.sound c.in_ok-set_instance.ensures.sound

pub returns-in_err-set_instance-clause-fault : goal.returns-in_err-set_instance-clause-fault
returns-in_err-set_instance-clause-fault c =
    let p = err_from_is_err_and c.from_residual-in_err-set_instance.result c.from_residual-in_err-set_instance.ensures.1 in
    rw (p.1, p.2, c.in_ok-face.ensures.exact) (inr c.in_err-set_instance.ensures.fault)
