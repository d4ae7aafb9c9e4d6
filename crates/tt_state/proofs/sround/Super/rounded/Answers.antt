use Rattle.std.proofs.Common.{◌≡◌, ap, arith}
use Rattle.std.proofs.lemmas.Int.{ints}
use Rattle.tt_state.specs.Sround.{Super}
use Rattle.tt_state.proofs.sround.Super.rounded.Goals as goal

pub returns-else-rounded-lt0-clause-high : goal.returns-else-rounded-lt0-clause-high
returns-else-rounded-lt0-clause-high c =
    let phase_is : c.self.inside.phase ≡ c.args.self.now.phase = ap (λ (s : Super). s.phase) c.self.view_is in
    omega (arith, ints)
