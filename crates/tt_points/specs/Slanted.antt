-- No part of the standard: points and vectors off the axes, for worked values. Coordinates are in 26.6 pixels.
use Rattle.std.specs.Prelude.{ℤ, pos, negsuc, Bool, true, [], ◌∷◌}
use Rattle.tt_core.specs.declared.halves.Halves.TheVariants as halves
use Rattle.tt_state.specs.declared.graphics_state.GraphicsState.{GraphicsState}
use Rattle.tt_state.specs.declared.point.Point.{Point}
use Rattle.tt_state.specs.declared.vector.Vector.{Vector}
use Rattle.tt_state.specs.declared.vector.Vector.TheVariants as vector
use Rattle.tt_state.specs.GraphicsState.{default_of}
use Rattle.tt_state.specs.Vectors.{pair}
use Rattle.tt_points_zones.specs.Points.{origin}
use Rattle.tt_points_zones.specs.Zones.{ZoneLists, in_pixels}

-- vectors along a line that rises by 2 in 1, and at right angles to it
abbrev pub rising : Vector
rising = vector.Off (pair (pos 7327) (pos 14654))

abbrev pub across : Vector
across = vector.Off (pair (negsuc 14653) (pos 7327))

-- both projection vectors along that line, and a given freedom vector
abbrev pub slanted : Vector → GraphicsState
slanted free = record (default_of true) { proj = rising; dual = rising; free = free }

-- the projection vector along the line from point 0 to point 5 by current places, the dual one by original places
abbrev pub dual_upward : GraphicsState
dual_upward = record (default_of true) { proj = vector.Off (pair (pos 1256) (pos 16335)); dual = vector.Y }

-- a point at its original place
abbrev pub still : ℤ → ℤ → Point
still x y = record origin { org_x = x; org_y = y; x = x; y = y }

-- a point with its original and current place, and the axes along which it is touched
abbrev pub touched_at : ℤ → ℤ → ℤ → ℤ → Bool → Bool → Point
touched_at org_x org_y x y touched_x touched_y = record origin
    { org_x = org_x; org_y = org_y; x = x; y = y; touched_x = touched_x; touched_y = touched_y }

abbrev pub third : Point
third = still (pos 428) (pos 192)

abbrev pub fourth : Point
fourth = still (pos 50) (pos 90)

-- point 4 at another place, with its touches along x and along y
abbrev pub fourth_at : ℤ → ℤ → Bool → Bool → Point
fourth_at x y touched_x touched_y = touched_at (pos 50) (pos 90) x y touched_x touched_y

-- six points of the glyph: points 3 and 4 are parameters, and 5 has moved; two twilight points: 1 is a parameter
abbrev pub points : Point → Point → Point → ZoneLists
points p3 p4 twilight = record {
  twilight = origin ∷ twilight ∷ [];
  glyph = still (pos 0) (pos 0) ∷ still (pos 100) (pos 200) ∷ still (pos 300) (pos 64) ∷ p3 ∷ p4 ∷
      record (still (pos 0) (pos 100)) { x = pos 10; y = pos 130 } ∷ [];
  contours = [];
  originals = in_pixels halves.Up;
}

-- the same points with another point 4, and with another twilight point 1
abbrev pub with_fourth : Point → ZoneLists
with_fourth p = points third p origin

abbrev pub with_twilight : Point → ZoneLists
with_twilight p = points third fourth p

abbrev pub before : ZoneLists
before = with_fourth fourth
