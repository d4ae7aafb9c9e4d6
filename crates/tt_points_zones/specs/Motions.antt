-- Apple TrueType Reference Manual, "Graphics State" (projection, dual projection and freedom vector) and "Instructing
-- TrueType Glyphs" (touched points): how points are measured and moved along any vectors. Coordinates and distances are
-- in 26.6 pixels.
use Rattle.std.specs.Prelude.{◌≡◌, ℤ, pos, ◌+ℤ◌, ◌-ℤ◌, ◌*ℤ◌, Bool, true, ◌&&◌, ◌||◌, if◌then◌else◌, Result, Ok, Err, refl}
use Rattle.std.specs.Ordering.{int_eq}
use Rattle.tt_core.specs.Numbers.{rounded_quotient}
use Rattle.tt_core.specs.Outcomes.{◌>>=◌}
use Rattle.tt_core.specs.declared.fault.Why.{Why}
use Rattle.tt_core.specs.declared.fault.Why.TheVariants as why
use Rattle.tt_state.specs.declared.graphics_state.GraphicsState.{GraphicsState}
use Rattle.tt_state.specs.declared.point.Point.{Point}
use Rattle.tt_state.specs.declared.vector.Vector.{Vector}
use Rattle.tt_state.specs.declared.vector.Vector.TheVariants as vector
use Rattle.tt_state.specs.Vectors.{Pair, pair, project, along, dot}
use Rattle.tt_state.specs.Axes.{pair_of, vector_of}
use Rattle.tt_points_zones.specs.Points.{is_coordinate, origin}
use Rattle.tt_points_zones.specs.declared.motion.Motion.{Motion}

-- the vectors of a graphics state
abbrev pub vectors_of : GraphicsState → Motion
vectors_of g = record { proj = g.proj; dual = g.dual; free = g.free }

abbrev pub is_same : Vector → Vector → Bool
is_same v w = int_eq (pair_of v).x (pair_of w).x && int_eq (pair_of v).y (pair_of w).y

-- Without the whole instruction set, a freedom vector that is not the projection vector is refused (profile).
unfoldable pub direction : GraphicsState → Result Motion Why
direction g = if g.whole || is_same g.proj g.free then Ok (vectors_of g) else Err why.Perpendicular

-- a point's current coordinate along the projection vector, and its original one along the dual one
abbrev pub cur : Motion → Point → ℤ
cur m p = project (pair_of m.proj) p.x p.y

abbrev pub org : Motion → Point → ℤ
org m p = project (pair_of m.dual) p.org_x p.org_y

-- the current and the original distance between two points
abbrev pub current_distance : Motion → Point → Point → ℤ
current_distance m from to = project (pair_of m.proj) (to.x -ℤ from.x) (to.y -ℤ from.y)

abbrev pub original_distance : Motion → Point → Point → ℤ
original_distance m from to = project (pair_of m.dual) (to.org_x -ℤ from.org_x) (to.org_y -ℤ from.org_y)

-- the distance of a point from its original place; the projection vector measures both
abbrev pub offset : Motion → Point → ℤ
offset m p = project (pair_of m.proj) (p.x -ℤ p.org_x) (p.y -ℤ p.org_y)

-- a coordinate moved by a distance, where the freedom vector has a part along its axis
abbrev pub pushed_to : ℤ → ℤ → ℤ → Result ℤ Why
pushed_to part by at =
    if int_eq part (pos 0) then Ok at
    else (if is_coordinate (at +ℤ by) then Ok (at +ℤ by) else Err why.ValueRange)

-- a point moved by distances along x and y; its touches are unchanged
abbrev pub put_further : Vector → Pair → Point → Result Point Why
put_further free by p =
    pushed_to (pair_of free).x by.x p.x >>= λ x.
    pushed_to (pair_of free).y by.y p.y >>= λ y.
    Ok (record p { x = x; y = y })

-- a point touched, or untouched, on each axis where the freedom vector has a part
abbrev pub marked : Vector → Bool → Point → Point
marked free touched p = record p {
  touched_x = if int_eq (pair_of free).x (pos 0) then p.touched_x else touched;
  touched_y = if int_eq (pair_of free).y (pos 0) then p.touched_y else touched;
}

-- the move along x and y, for a move by d along the projection vector
abbrev pub steps : Motion → ℤ → Pair
steps m d =
    let whole = dot (pair_of m.proj) (pair_of m.free) in
    pair (rounded_quotient (d *ℤ (pair_of m.free).x) whole) (rounded_quotient (d *ℤ (pair_of m.free).y) whole)

-- a point moved by a distance, perhaps 0; its touches are unchanged
abbrev pub shifted : Motion → ℤ → Point → Result Point Why
shifted m d p = put_further m.free (steps m d) p

-- a point moved by distances along x and y, and touched
abbrev pub pushed : Vector → Pair → Point → Result Point Why
pushed free by p = put_further free by p >>= λ q. Ok (marked free true q)

-- a point moved by a distance, and touched
abbrev pub moved : Motion → ℤ → Point → Result Point Why
moved m d p = pushed m.free (steps m d) p

-- a point moved by a distance along the freedom vector itself, whatever the projection vector; without and with touches
abbrev pub shifted_along : Vector → ℤ → Point → Result Point Why
shifted_along free d p = put_further free (along (pair_of free) d) p

abbrev pub moved_along : Vector → ℤ → Point → Result Point Why
moved_along free d p = pushed free (along (pair_of free) d) p

-- worked values: a projection vector, or all vectors, along a line that rises by 2 in 1
abbrev a_point : Point
a_point = record origin { x = pos 50; y = pos 90 }

abbrev rising : Vector
rising = vector_of (pair (pos 7327) (pos 14654))

measured : cur (record { proj = rising; dual = vector.X; free = vector.X }) a_point ≡ pos 103
unfolding project vector_of
measured = refl

a_pixel_along_it : steps (record { proj = rising; dual = rising; free = rising }) (pos 64) ≡ pair (pos 29) (pos 57)
unfolding project vector_of
a_pixel_along_it = refl

a_pixel_along_x : steps (record { proj = rising; dual = rising; free = vector.X }) (pos 64) ≡ pair (pos 143) (pos 0)
unfolding project vector_of
a_pixel_along_x = refl

at_right_angles : steps (record { proj = vector.X; dual = vector.X; free = vector.Y }) (pos 64) ≡ pair (pos 0) (pos 64)
unfolding project
at_right_angles = refl

moved_along_y : moved (record { proj = rising; dual = rising; free = vector.Y }) (pos 64) a_point
    ≡ Ok (record a_point { y = pos 162; touched_y = true })
unfolding project vector_of
moved_along_y = refl

a_pixel_along_the_freedom_vector : moved_along rising (pos 64) a_point
    ≡ Ok (record a_point { x = pos 79; y = pos 147; touched_x = true; touched_y = true })
unfolding along vector_of
a_pixel_along_the_freedom_vector = refl

past_the_limit : moved (record { proj = vector.X; dual = vector.X; free = vector.X }) (pos 2097102) a_point
    ≡ Err why.ValueRange
unfolding project
past_the_limit = refl
