-- No part of the standard: points, and vectors off the axes, for worked values. Coordinates are in 26.6 pixels.
use Rattle.std.specs.Prelude.{ℤ, pos, Bool, true}
use Rattle.tt_state.specs.GraphicsState.{default_of}
use Rattle.tt_state.specs.Vectors.{pair}
use Rattle.tt_state.specs.declared.graphics_state.GraphicsState.{GraphicsState}
use Rattle.tt_state.specs.declared.point.Point.{Point}
use Rattle.tt_state.specs.declared.vector.Vector.{Vector}
use Rattle.tt_state.specs.declared.vector.Vector.TheVariants as vector
use Rattle.tt_points_zones.specs.Points.{origin}

-- a vector along a line that rises by 2 in 1
abbrev pub rising : Vector
rising = vector.Off (pair (pos 7327) (pos 14654))

-- both projection vectors along that line, and a given freedom vector
abbrev pub slanted : Vector → GraphicsState
slanted free = record (default_of true) { proj = rising; dual = rising; free = free }

-- the projection and freedom vectors along the line from (0, 0) to (10, 130), the dual one along y
abbrev pub dual_upward : GraphicsState
dual_upward =
    let steep = vector.Off (pair (pos 1256) (pos 16335)) in
    record (default_of true) { proj = steep; dual = vector.Y; free = steep }

-- a point by its original and its current place along x, and the same point touched along x
abbrev pub point : ℤ → ℤ → Point
point org x = record origin { org_x = org; x = x }

abbrev pub moved_to : ℤ → ℤ → Point
moved_to org x = record (point org x) { touched_x = true }

-- a point at its original place
abbrev pub still : ℤ → ℤ → Point
still x y = record origin { org_x = x; org_y = y; x = x; y = y }

-- a point moved from (0, 100) to (10, 130)
abbrev pub risen : Point
risen = record (still (pos 0) (pos 100)) { x = pos 10; y = pos 130 }

-- a point at its original place, and the same point moved, with its touches along x and along y
abbrev pub at_first : Point
at_first = still (pos 50) (pos 90)

abbrev pub moved_on : ℤ → ℤ → Bool → Bool → Point
moved_on x y touched_x touched_y =
    record at_first { x = x; y = y; touched_x = touched_x; touched_y = touched_y }
