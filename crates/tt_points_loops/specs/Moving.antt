-- Apple TrueType Reference Manual, "Instruction set": managing outlines (ALIGNRP, IP, SHPIX). Distances are in 26.6
-- pixels.
use Rattle.std.specs.Prelude.{◌≡◌, ℤ, pos, negsuc, ◌-ℤ◌, ◌*ℤ◌, Bool, true, false, if◌then◌else◌, List, [], ◌∷◌, Option, Some, None, Result, Ok, Err, refl}
use Rattle.std.specs.Ordering.{int_eq}
use Rattle.tt_core.specs.Outcomes.{◌>>=◌}
use Rattle.tt_core.specs.Scales.{quotient, rounded_scale}
use Rattle.tt_core.specs.declared.fault.Why.{Why}
use Rattle.tt_core.specs.declared.fault.Why.TheVariants as why
use Rattle.tt_core.specs.declared.halves.Halves.{Halves}
use Rattle.tt_core.specs.declared.halves.Halves.TheVariants as halves
use Rattle.tt_core.specs.declared.scaling.Scale.{Scale}
use Rattle.tt_state.specs.GraphicsState.{default_of, default_state}
use Rattle.tt_state.specs.declared.graphics_state.GraphicsState.{GraphicsState}
use Rattle.tt_state.specs.declared.graphics_state.Zone.TheVariants as zone
use Rattle.tt_state.specs.declared.point.Point.{Point}
use Rattle.tt_state.specs.declared.tolerance.Tolerance.{Tolerance}
use Rattle.tt_state.specs.declared.tolerance.Tolerance.TheVariants as tolerance
use Rattle.tt_state.specs.declared.vector.Vector.TheVariants as vector
use Rattle.tt_state.specs.Tolerance.{unless_missing}
use Rattle.tt_state.specs.Vectors.{project, along}
use Rattle.tt_points_zones.specs.Motions.{direction, current_distance, original_distance, moved, moved_along}
use Rattle.tt_points_zones.specs.Originals.{distance_by, is_glyph, scale_between, units_distance}
use Rattle.tt_points_zones.specs.Points.{point_in, with_point}
use Rattle.tt_points_zones.specs.Zones.{ZoneLists, in_pixels}
use Rattle.tt_points_zones.specs.declared.motion.Motion.{Motion}
use Rattle.tt_points_loops.specs.Series.{looped}
use Rattle.tt_points_loops.specs.Slanted.{point, moved_to, rising, slanted, dual_upward, still, risen, at_first, moved_on}

-- ALIGNRP: moves points of zp1 by minus their current distance from rp0, in zp0
abbrev pub aligned : GraphicsState → Point → Point → Result Point Why
aligned g r p = direction g >>= λ m. moved m (pos 0 -ℤ current_distance m r p) p

abbrev pub align : GraphicsState → ℤ → ZoneLists → Result ZoneLists Why
align g n z =
    point_in g.zp1 n z >>= λ p. point_in g.zp0 g.rp0 z >>= λ r. aligned g r p >>= λ q. Ok (with_point g.zp1 n q z)

abbrev pub alignrp : Tolerance → List ℤ → ZoneLists → GraphicsState → Result (ZoneLists × GraphicsState) Why
alignrp t points z g = looped t (align g) points z g

-- a distance stretched as the range was; a given distance, where the range was 0
abbrev pub stretched : Halves → ℤ → ℤ → ℤ → ℤ → ℤ
stretched halves o range now alone = if int_eq range (pos 0) then alone else quotient halves (o *ℤ now) range

-- the original distance between two points, before scaling: in font units where the originals have a scale, otherwise
-- in 26.6
abbrev pub unscaled : Option Scale → Motion → Point → Point → ℤ
unscaled None m a p = original_distance m a p
unscaled (Some s) m a p = units_distance m a p

-- the distance from a that gives p its original share of the way from a to b
abbrev pub interpolated : Halves → Option Scale → Motion → Point → Point → Point → ℤ
interpolated halves s m a b p =
    stretched halves (unscaled s m a p) (unscaled s m a b) (current_distance m a b) (distance_by s m a p)

abbrev pub kept_between : Halves → Option Scale → GraphicsState → Point → Point → Point → Result Point Why
kept_between halves s g a b p =
    direction g >>= λ m. moved m (interpolated halves s m a b p -ℤ current_distance m a p) p

-- the scale of the originals, if no zone pointer is that of the twilight zone
abbrev pub scale_among : GraphicsState → ZoneLists → Option Scale
scale_among g z = if is_glyph g.zp2 then scale_between g.zp0 g.zp1 z else None

-- The second end of the range. A tolerant machine takes the first end in place of a missing point (profile). The range
-- was 0 then, and each point gets its original distance from the first end.
abbrev pub other_end : Tolerance → GraphicsState → ZoneLists → Point → Result Point Why
other_end t g z a = unless_missing t a (point_in g.zp1 g.rp2 z)

-- IP: moves points of zp2 to their original shares of the way from rp1, in zp0, to rp2, in zp1
abbrev pub in_between : Tolerance → GraphicsState → ZoneLists → Point → Result Point Why
in_between t g z p = point_in g.zp0 g.rp1 z >>= λ a. other_end t g z a >>= λ b.
    kept_between z.originals.halves (scale_among g z) g a b p

abbrev pub interpolate : Tolerance → GraphicsState → ℤ → ZoneLists → Result ZoneLists Why
interpolate t g n z = point_in g.zp2 n z >>= λ p. in_between t g z p >>= λ q. Ok (with_point g.zp2 n q z)

abbrev pub ip : Tolerance → List ℤ → ZoneLists → GraphicsState → Result (ZoneLists × GraphicsState) Why
ip t points z g = looped t (interpolate t g) points z g

-- SHPIX: moves points of zp2 by an amount along the freedom vector, whatever the projection vector (profile)
abbrev pub push : ℤ → GraphicsState → ℤ → ZoneLists → Result ZoneLists Why
push amount g n z = point_in g.zp2 n z >>= λ p. moved_along g.free amount p >>= λ q. Ok (with_point g.zp2 n q z)

abbrev pub shpix : Tolerance → List ℤ → ℤ → ZoneLists → GraphicsState → Result (ZoneLists × GraphicsState) Why
shpix t points amount z g = looped t (push amount g) points z g

-- worked values, along x
abbrev glyph : List Point → ZoneLists
glyph ps = record { twilight = []; glyph = ps; contours = []; originals = in_pixels halves.Up }

abbrev between : GraphicsState
between = record default_state { rp1 = pos 0; rp2 = pos 1 }

in_proportion : ip tolerance.Strict (pos 2 ∷ [])
    (glyph (point (pos 0) (pos 10) ∷ point (pos 100) (pos 210) ∷ point (pos 25) (pos 25) ∷ [])) between
    ≡ Ok (glyph (point (pos 0) (pos 10) ∷ point (pos 100) (pos 210) ∷ moved_to (pos 25) (pos 60) ∷ []), between)
unfolding direction project
in_proportion = refl

no_range : ip tolerance.Strict (pos 2 ∷ [])
    (glyph (point (pos 0) (pos 10) ∷ point (pos 0) (pos 210) ∷ point (pos 25) (pos 25) ∷ [])) between
    ≡ Ok (glyph (point (pos 0) (pos 10) ∷ point (pos 0) (pos 210) ∷ moved_to (pos 25) (pos 35) ∷ []), between)
unfolding direction project
no_range = refl

to_where_it_stands : alignrp tolerance.Strict (pos 1 ∷ [])
    (glyph (point (pos 5) (pos 7) ∷ point (pos 1) (pos 2) ∷ [])) default_state
    ≡ Ok (glyph (point (pos 5) (pos 7) ∷ moved_to (pos 1) (pos 7) ∷ []), default_state)
unfolding direction project
to_where_it_stands = refl

crossed_before_a_bad_point : alignrp tolerance.Strict (pos 9 ∷ pos 1 ∷ [])
    (glyph (point (pos 5) (pos 7) ∷ point (pos 1) (pos 2) ∷ [])) (record default_state { free = vector.Y; loops = 2 })
    ≡ Err why.Perpendicular
unfolding direction
crossed_before_a_bad_point = refl

no_point_no_refusal : alignrp tolerance.Strict [] (glyph [])
    (record default_state { free = vector.Y; rp0 = negsuc 0; loops = 0 })
    ≡ Ok (glyph [], record default_state { free = vector.Y; rp0 = negsuc 0 })
no_point_no_refusal = refl

along_the_freedom_vector : shpix tolerance.Strict (pos 0 ∷ []) (negsuc 2) (glyph (point (pos 5) (pos 7) ∷ []))
    (record default_state { proj = vector.Y; dual = vector.Y })
    ≡ Ok (glyph (moved_to (pos 5) (pos 4) ∷ []), record default_state { proj = vector.Y; dual = vector.Y })
unfolding along
along_the_freedom_vector = refl

-- worked values of a tolerant machine
a_point_passed_over : shpix tolerance.Tolerant (pos 2 ∷ pos 50 ∷ []) (pos 32)
    (glyph (point (pos 64) (pos 64) ∷ point (pos 64) (pos 64) ∷ point (pos 192) (pos 192) ∷ []))
    (record default_state { loops = 2 })
    ≡ Ok (
      glyph (point (pos 64) (pos 64) ∷ point (pos 64) (pos 64) ∷ moved_to (pos 192) (pos 224) ∷ []),
      default_state,
    )
unfolding along
a_point_passed_over = refl

a_point_refused : shpix tolerance.Strict (pos 0 ∷ pos 50 ∷ []) (pos 32) (glyph (point (pos 64) (pos 64) ∷ []))
    (record default_state { loops = 2 }) ≡ Err why.PointRange
a_point_refused = refl

abbrev half_between : GraphicsState
half_between = record default_state { rp1 = pos 0; rp2 = pos 50 }

as_far_from_the_first : ip tolerance.Tolerant (pos 1 ∷ [])
    (glyph (point (pos 64) (pos 96) ∷ point (pos 192) (pos 200) ∷ [])) half_between
    ≡ Ok (glyph (point (pos 64) (pos 96) ∷ moved_to (pos 192) (pos 224) ∷ []), half_between)
unfolding direction project
as_far_from_the_first = refl

nothing_to_be_between : ip tolerance.Tolerant (pos 0 ∷ []) (glyph (point (pos 64) (pos 96) ∷ []))
    (record half_between { rp1 = pos 50 })
    ≡ Ok (glyph (point (pos 64) (pos 96) ∷ []), record half_between { rp1 = pos 50 })
nothing_to_be_between = refl

nothing_to_align_to : alignrp tolerance.Tolerant (pos 0 ∷ []) (glyph (point (pos 64) (pos 96) ∷ []))
    (record default_state { rp0 = pos 50 })
    ≡ Ok (glyph (point (pos 64) (pos 96) ∷ []), record default_state { rp0 = pos 50 })
nothing_to_align_to = refl

-- worked values, off the axes
aligned_along_y : alignrp tolerance.Strict (pos 1 ∷ []) (glyph (still (pos 100) (pos 200) ∷ at_first ∷ []))
    (slanted vector.Y)
    ≡ Ok (glyph (still (pos 100) (pos 200) ∷ moved_on (pos 50) (pos 225) false true ∷ []), slanted vector.Y)
unfolding direction project
aligned_along_y = refl

-- with the whole instruction set crossed vectors are not refused
crossed_with_the_whole_set : alignrp tolerance.Strict (pos 9 ∷ pos 1 ∷ [])
    (glyph (still (pos 100) (pos 200) ∷ at_first ∷ [])) (record (default_of true) { free = vector.Y; loops = 2 })
    ≡ Err why.PointRange
unfolding direction project
crossed_with_the_whole_set = refl

-- original places are measured along the dual vector
originals_along_y : ip tolerance.Strict (pos 2 ∷ []) (glyph (still (pos 0) (pos 0) ∷ risen ∷ at_first ∷ []))
    (record dual_upward { rp2 = pos 1 })
    ≡ Ok (
      glyph (still (pos 0) (pos 0) ∷ risen ∷ moved_on (pos 52) (pos 113) true true ∷ []),
      record dual_upward { rp2 = pos 1 },
    )
unfolding direction project
originals_along_y = refl

a_pixel_along_a_line : shpix tolerance.Strict (pos 0 ∷ []) (pos 64) (glyph (at_first ∷ []))
    (record (default_of true) { free = rising })
    ≡ Ok (glyph (moved_on (pos 79) (pos 147) true true ∷ []), record (default_of true) { free = rising })
unfolding along
a_pixel_along_a_line = refl

-- worked values in font units: a point between two others, at 13 of 1024
abbrev in_units : ℤ → ℤ → ℤ → Point
in_units units org x = record (point org x) { units_x = units }

abbrev between_two : Option Scale → List Point → Point → ZoneLists
between_two scale twilight p = record {
  twilight = twilight;
  glyph = in_units (pos 3) (pos 2) (pos 0) ∷ in_units (pos 200) (pos 163) (pos 192) ∷ p ∷ [];
  contours = [];
  originals = record { units = scale; halves = halves.AwayFromZero };
}

abbrev by_13 : Option Scale
by_13 = Some (rounded_scale 13 1024)

abbrev in_the_middle : ℤ → Point
in_the_middle x = in_units (pos 71) (pos 58) x

in_proportion_of_units : ip tolerance.Strict (pos 2 ∷ []) (between_two by_13 [] (in_the_middle (pos 58))) between
    ≡ Ok (between_two by_13 [] (record (in_the_middle (pos 66)) { touched_x = true }), between)
unfolding direction project
in_proportion_of_units = refl

in_proportion_of_pixels : ip tolerance.Strict (pos 2 ∷ []) (between_two None [] (in_the_middle (pos 58))) between
    ≡ Ok (between_two None [] (record (in_the_middle (pos 67)) { touched_x = true }), between)
unfolding direction project
in_proportion_of_pixels = refl

-- a zone pointer is that of the twilight zone: 26.6
abbrev to_twilight : GraphicsState
to_twilight = record between { zp2 = zone.Twilight }

twilight_in_pixels : ip tolerance.Strict (pos 0 ∷ [])
    (between_two by_13 (point (pos 58) (pos 58) ∷ []) (in_the_middle (pos 58))) to_twilight
    ≡ Ok (between_two by_13 (moved_to (pos 58) (pos 67) ∷ []) (in_the_middle (pos 58)), to_twilight)
unfolding direction project
twilight_in_pixels = refl

-- without a range the distance is scaled: 127 units at 12 of 1024
abbrev beside_one : ℤ → Bool → ZoneLists
beside_one x touched = record {
  twilight = [];
  glyph = in_units (pos 3) (pos 2) (pos 0) ∷ record (in_units (pos 130) (pos 98) x) { touched_x = touched } ∷ [];
  contours = [];
  originals = record { units = Some (rounded_scale 12 1024); halves = halves.AwayFromZero };
}

no_range_of_units : ip tolerance.Tolerant (pos 1 ∷ []) (beside_one (pos 98) false) half_between
    ≡ Ok (beside_one (pos 95) true, half_between)
unfolding direction project
no_range_of_units = refl
