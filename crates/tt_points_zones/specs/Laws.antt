-- Laws of the definitions: along an axis points are measured and moved by their coordinates.
use Rattle.std.specs.Prelude.{◌≡◌, ℤ, ◌-ℤ◌, Bool, false, Result, Ok, Err}
use Rattle.tt_core.specs.Outcomes.{◌>>=◌}
use Rattle.tt_core.specs.declared.fault.Why.{Why}
use Rattle.tt_core.specs.declared.fault.Why.TheVariants as why
use Rattle.tt_state.specs.declared.graphics_state.Axis.{Axis}
use Rattle.tt_state.specs.declared.graphics_state.Axis.TheVariants as axis
use Rattle.tt_state.specs.declared.graphics_state.GraphicsState.{GraphicsState}
use Rattle.tt_state.specs.declared.point.Point.{Point}
use Rattle.tt_state.specs.declared.vector.Vector.{Vector}
use Rattle.tt_state.specs.declared.vector.Vector.TheVariants as vector
use Rattle.tt_points_zones.specs.Points as coordinate
use Rattle.tt_points_zones.specs.Motions as motions
use Rattle.tt_points_zones.specs.declared.motion.Motion.{Motion}

-- all three vectors along one axis
abbrev pub along : Axis → Vector
along axis.X = vector.X
along axis.Y = vector.Y

abbrev pub on : Axis → Motion
on a = record { proj = along a; dual = along a; free = along a }

pub record OnAxis (a : Axis) (p q : Point) (d : ℤ) (touched : Bool) : Type 0 where
  pub current : motions.cur (on a) p ≡ coordinate.cur a p
  pub original : motions.org (on a) p ≡ coordinate.org a p
  pub current_way : motions.current_distance (on a) p q ≡ coordinate.cur a q -ℤ coordinate.cur a p
  pub original_way : motions.original_distance (on a) p q ≡ coordinate.org a q -ℤ coordinate.org a p
  pub offset : motions.offset (on a) p ≡ coordinate.cur a p -ℤ coordinate.org a p
  pub marked : motions.marked (along a) touched p ≡ coordinate.marked a touched p
  pub shifted : motions.shifted (on a) d p ≡ coordinate.shifted a d p
  pub moved : motions.moved (on a) d p ≡ coordinate.moved a d p
  pub shifted_along : motions.shifted_along (along a) d p ≡ coordinate.shifted a d p
  pub moved_along : motions.moved_along (along a) d p ≡ coordinate.moved a d p

-- the projection vector along one axis and the freedom vector along another: the axis of a move, if it is allowed
abbrev pub along_both : Axis → Axis → Result Axis Why
along_both axis.X axis.X = Ok axis.X
along_both axis.Y axis.Y = Ok axis.Y
along_both axis.X axis.Y = Err why.Perpendicular
along_both axis.Y axis.X = Err why.Perpendicular

-- without the whole instruction set
abbrev pub AlongBoth : GraphicsState → Axis → Axis → Type 0
AlongBoth g projection freedom =
    motions.direction (record g { proj = along projection; dual = along projection; free = along freedom; whole = false })
    ≡ (along_both projection freedom >>= λ a. Ok (on a))
