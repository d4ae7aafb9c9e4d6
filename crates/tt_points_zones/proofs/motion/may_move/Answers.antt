use Rattle.std.proofs.Common.{refl, sym, ◌∙◌}
use Rattle.tt_points_zones.specs.Motions.{direction}
use Rattle.tt_points_zones.proofs.motion.may_move.Goals as goal
use Rattle.tt_points_zones.proofs.motion.may_move.Goals.{then-state, else-state}

pub returns-then-is_same : goal.returns-then-is_same
unfolding direction
returns-then-is_same c = elim c.if-state.branch [
  | then-state w ↦ rw w.if-state.true refl
  | else-state w ↦ (
      let same = sym w.is_same.ensures ∙ (sym w.value-is ∙ c.if-is_same.true) in
      rw (w.if-state.false, same) refl)
]

pub returns-else-is_same : goal.returns-else-is_same
unfolding direction
returns-else-is_same c = elim c.if-state.branch [
  | then-state w ↦ (
      let never = sym c.if-is_same.false ∙ (w.value-is ∙ w.if-state.true) in
      cc never)
  | else-state w ↦ (
      let other = sym w.is_same.ensures ∙ (sym w.value-is ∙ c.if-is_same.false) in
      rw (w.if-state.false, other) refl)
]
