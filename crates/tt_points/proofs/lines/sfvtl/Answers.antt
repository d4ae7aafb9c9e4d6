use Rattle.std.proofs.Common.{refl}
use Rattle.tt_points.specs.Lines.{sfvtl}
use Rattle.tt_points.proofs.lines.sfvtl.Goals as goal

pub returns-clause-exact : goal.returns-clause-exact
unfolding sfvtl
returns-clause-exact c =
    rw (c.in_ok-points.ensures, c.current-state.ensures) refl
