-- Apple TrueType Reference Manual, "Instruction Set" (SPVTL, SFVTL, SDPVTL, ISECT, ALIGNPTS): vectors along the line
-- through two points, the meeting point of two lines, and aligned points. Coordinates are in 26.6 pixels.
use Rattle.std.specs.Prelude.{◌≡◌, ℤ, pos, negsuc, neg_ℤ, int_div, Bool, true, false, Result, Ok, Err, refl, [], ◌∷◌, map}
use Rattle.tt_core.specs.Outcomes.{◌>>=◌}
use Rattle.tt_core.specs.declared.fault.Why.{Why}
use Rattle.tt_core.specs.declared.fault.Why.TheVariants as why
use Rattle.tt_state.specs.declared.graphics_state.GraphicsState.{GraphicsState}
use Rattle.tt_state.specs.declared.graphics_state.Zone.{Zone}
use Rattle.tt_state.specs.declared.point.Point.{Point}
use Rattle.tt_state.specs.declared.vector.Vector.{Vector}
use Rattle.tt_state.specs.declared.vector.Vector.TheVariants as vector
use Rattle.tt_state.specs.Axes.{vector_of}
use Rattle.tt_state.specs.Vectors.{pair, line, unit, root, project}
use Rattle.tt_state.specs.GraphicsState.{default_of, default_state}
use Rattle.tt_points_zones.specs.Zones.{ZoneLists}
use Rattle.tt_points_zones.specs.Points.{point_in, with_point, origin}
use Rattle.tt_points_zones.specs.Motions.{current_distance, direction, moved}
use Rattle.tt_points_zones.specs.Meeting.{met, meeting, are_parallel, crossing, middle, cross, dot}
use Rattle.tt_points_zones.specs.declared.meeting.Place.{Place}
use Rattle.tt_points_zones.specs.declared.motion.Motion.{Motion}
use Rattle.tt_points.specs.Slanted.{rising, across, slanted, touched_at, fourth_at, points, with_fourth, before}
use Rattle.tt_points.specs.declared.lines.Ends.{Ends}

-- point p1 of zone pointer 2 and point p2 of zone pointer 1
abbrev pub two_points : ℤ → ℤ → ZoneLists → GraphicsState → Result (Point × Point) Why
two_points p1 p2 z g = point_in g.zp2 p1 z >>= λ a. point_in g.zp1 p2 z >>= λ b. Ok (a, b)

-- the vector along the line from a point to another, by current and by original places
abbrev pub current_line : Bool → Point → Point → Vector
current_line turned a b = vector_of (line (pair a.x a.y) (pair b.x b.y) turned)

abbrev pub original_line : Bool → Point → Point → Vector
original_line turned a b = vector_of (line (pair a.org_x a.org_y) (pair b.org_x b.org_y) turned)

-- both projection vectors along the line
unfoldable pub spvtl : Bool → ℤ → ℤ → ZoneLists → GraphicsState → Result GraphicsState Why
spvtl turned p1 p2 z g = two_points p1 p2 z g >>= λ t.
    Ok (record g { proj = current_line turned (t.0) (t.1); dual = current_line turned (t.0) (t.1) })

-- the freedom vector along the line
unfoldable pub sfvtl : Bool → ℤ → ℤ → ZoneLists → GraphicsState → Result GraphicsState Why
sfvtl turned p1 p2 z g = two_points p1 p2 z g >>= λ t. Ok (record g { free = current_line turned (t.0) (t.1) })

-- the dual projection vector along the original line, the projection vector along the current one
unfoldable pub sdpvtl : Bool → ℤ → ℤ → ZoneLists → GraphicsState → Result GraphicsState Why
sdpvtl turned p1 p2 z g = two_points p1 p2 z g >>= λ t.
    Ok (record g { proj = current_line turned (t.0) (t.1); dual = original_line turned (t.0) (t.1) })

-- a point's current place, and the line through two points of a zone
abbrev pub place_of : Point → Place
place_of q = record { x = q.x; y = q.y }

abbrev pub line_through : Zone → Ends → ZoneLists → Result (Place × Place) Why
line_through zone ends z = point_in zone ends.to z >>= λ to. point_in zone ends.from z >>= λ from.
    Ok (place_of from, place_of to)

-- a point moved to a place, and touched along both axes
abbrev pub put_to : Place → Point → Point
put_to place q = record q { x = place.x; y = place.y; touched_x = true; touched_y = true }

-- a point moved to where line a, of zone pointer 1, meets line b, of zone pointer 0
unfoldable pub isect : ℤ → Ends → Ends → ZoneLists → GraphicsState → Result ZoneLists Why
isect p a b z g = line_through g.zp0 b z >>= λ other. line_through g.zp1 a z >>= λ one. point_in g.zp2 p z >>= λ q.
    met (one.0) (one.1) (other.0) (other.1) >>= λ place. Ok (with_point g.zp2 p (put_to place q) z)

-- half a distance, cut toward 0 (profile)
abbrev pub half : ℤ → ℤ
half d = int_div d (pos 2)

-- a point moved by its number
unfoldable pub move_by : Zone → ℤ → Motion → ℤ → ZoneLists → Result ZoneLists Why
move_by zone p m d z = point_in zone p z >>= λ q. moved m d q >>= λ r. Ok (with_point zone p r z)

-- point p1 moved by half its distance to point p2, and p2 by the opposite distance
unfoldable pub alignpts : ℤ → ℤ → ZoneLists → GraphicsState → Result ZoneLists Why
alignpts p1 p2 z g = point_in g.zp1 p1 z >>= λ a. point_in g.zp0 p2 z >>= λ b. direction g >>= λ m.
    move_by g.zp1 p1 m (half (current_distance m a b)) z >>= λ y.
    move_by g.zp0 p2 m (neg_ℤ (half (current_distance m a b))) y

-- worked values: points 0 and 1 are on a line that rises by 2 in 1
abbrev all : GraphicsState
all = default_of true

abbrev off : ℤ → ℤ → Vector
off x y = vector.Off (pair x y)

upward : spvtl false (pos 0) (pos 1) before all ≡ Ok (record all { proj = rising; dual = rising })
unfolding spvtl vector_of unit root
upward = refl

downward : spvtl false (pos 1) (pos 0) before all
    ≡ Ok (record all { proj = off (negsuc 7326) (negsuc 14653); dual = off (negsuc 7326) (negsuc 14653) })
unfolding spvtl vector_of unit root
downward = refl

turned_left : spvtl true (pos 0) (pos 1) before all ≡ Ok (record all { proj = across; dual = across })
unfolding spvtl vector_of unit root
turned_left = refl

of_length_0 : spvtl true (pos 1) (pos 1) before all ≡ Ok all
unfolding spvtl vector_of unit root
of_length_0 = refl

freedom_turned_left : sfvtl true (pos 2) (pos 3) before all ≡ Ok (record all { free = off (negsuc 11584) (pos 11585) })
unfolding sfvtl vector_of unit root
freedom_turned_left = refl

each_line_by_itself : map (λ turned. sdpvtl turned (pos 0) (pos 5) before all) (false ∷ true ∷ [])
    ≡ Ok (record all { proj = off (pos 1256) (pos 16335); dual = vector.Y })
    ∷ Ok (record all { proj = off (negsuc 16334) (pos 1256); dual = off (negsuc 16383) (pos 0) })
    ∷ []
unfolding sdpvtl vector_of unit root
each_line_by_itself = refl

abbrev ends : ℤ → ℤ → Ends
ends from to = record { from = from; to = to }

where_lines_meet : isect (pos 4) (ends (pos 0) (pos 1)) (ends (pos 2) (pos 3)) before all
    ≡ Ok (with_fourth (fourth_at (negsuc 235) (negsuc 471) true true))
unfolding isect met meeting are_parallel crossing middle cross dot
where_lines_meet = refl

no_such_line : isect (pos 4) (ends (pos 0) (pos 1)) (ends (pos 2) (pos 6)) before all ≡ Err why.PointRange
unfolding isect
no_such_line = refl

aligned_along_it : alignpts (pos 4) (pos 3) before (slanted rising)
    ≡ Ok (points (touched_at (pos 428) (pos 192) (pos 370) (pos 76) true true)
    (fourth_at (pos 108) (pos 206) true true) origin)
unfolding alignpts move_by direction project
aligned_along_it = refl

refused_before_it_is_moved : alignpts (pos 4) (pos 3) before (record default_state { free = vector.Y })
    ≡ Err why.Perpendicular
unfolding alignpts direction
refused_before_it_is_moved = refl
