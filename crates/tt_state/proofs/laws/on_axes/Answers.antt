use Rattle.std.proofs.Common.{refl}
use Rattle.tt_state.specs.Vectors.{project, along, unit, root}
use Rattle.tt_state.proofs.OnAxes.{whole, nothing, along_x, along_y}
use Rattle.tt_state.proofs.laws.on_axes.Goals as goal

pub returns-clause-x : goal.returns-clause-x
unfolding project along
returns-clause-x c = λ x y d. record {
  projected = along_x x y;
  moved = rw (whole d, nothing d) refl;
  whole = refl;
}

pub returns-clause-y : goal.returns-clause-y
unfolding project along
returns-clause-y c = λ x y d. record {
  projected = along_y x y;
  moved = rw (whole d, nothing d) refl;
  whole = refl;
}

pub returns-clause-units : goal.returns-clause-units
unfolding unit root
returns-clause-units c = record { x = refl; y = refl; minus_x = refl; minus_y = refl }
