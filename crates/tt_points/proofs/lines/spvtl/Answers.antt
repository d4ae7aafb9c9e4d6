use Rattle.std.proofs.Common.{refl}
use Rattle.tt_points.specs.Lines.{spvtl}
use Rattle.tt_points.proofs.lines.spvtl.Goals as goal

pub returns-clause-exact : goal.returns-clause-exact
unfolding spvtl
returns-clause-exact c =
    rw (c.in_ok-points.ensures, c.current-state.ensures) refl
