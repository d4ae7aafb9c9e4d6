use Rattle.std.proofs.Common.{◌≡◌, unsigned_abs, to_z, of_z, w64, arith, refl}
use Rattle.std.proofs.lemmas.Grind.{common_steps}
use Rattle.tt_core.specs.Scales.{factor}
use Rattle.tt_core.proofs.scaling.Scale.rounded.Goals as goal

pub returns-clause-exact : goal.returns-clause-exact
returns-clause-exact c =
    let pixels : unsigned_abs (to_z w64 (of_z w64 c.rq.result)) ≡ factor c.args.ppem c.args.em = grind (arith, common_steps) in
    rw pixels refl
