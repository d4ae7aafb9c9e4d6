-- Apple TrueType Reference Manual, "Instruction Set" (MIAP, MIRP): points moved along the projection vector by a
-- control value, which is a parameter here. Coordinates are in 26.6 pixels.
use Rattle.std.specs.Prelude.{◌≡◌, ℤ, pos, negsuc, ◌-ℤ◌, Bool, true, false, ◌&&◌, if◌then◌else◌, [], ◌∷◌, Result, Ok, refl}
use Rattle.tt_core.specs.Outcomes.{◌>>=◌}
use Rattle.tt_core.specs.declared.fault.Why.{Why}
use Rattle.tt_state.specs.declared.graphics_state.Zone.{Zone}
use Rattle.tt_state.specs.declared.graphics_state.Zone.TheVariants as zone
use Rattle.tt_state.specs.declared.graphics_state.GraphicsState.{GraphicsState}
use Rattle.tt_state.specs.declared.point.Point.{Point}
use Rattle.tt_state.specs.declared.vector.Vector.TheVariants as vector
use Rattle.tt_state.specs.GraphicsState.{default_state}
use Rattle.tt_state.specs.Rounding.{rounded}
use Rattle.tt_state.specs.Vectors.{project, along}
use Rattle.tt_points_zones.specs.Zones.{ZoneLists}
use Rattle.tt_points_zones.specs.Points.{point_in, with_point, origin}
use Rattle.tt_points_zones.specs.Motions.{cur, original_distance, direction, moved}
use Rattle.tt_points_zones.specs.declared.motion.Motion.{Motion}
use Rattle.tt_points.specs.declared.distances.Keeping.{Keeping}
use Rattle.tt_points.specs.Distances.{keeping, single_width, rounded_by, spaced_by, flipped, cut_in}
use Rattle.tt_points.specs.Slanted.{rising, slanted, fourth_at, with_fourth, with_twilight, before, touched_at}
use Rattle.tt_points.specs.Moving.{kept, referred, zero_and, zero_and_touched}
use Rattle.tt_points.specs.Twilight.{made, placed, placed_in}
use Rattle.tt_points.specs.declared.twilight.AlongVector.TheVariants as by

-- the distance from a point's coordinate to a control value, with or without cut-in and rounding
unfoldable pub miap_distance : Bool → GraphicsState → ℤ → ℤ → ℤ
miap_distance round g at c = if round then rounded g.round (cut_in g at c) -ℤ at else c -ℤ at

-- a point moved to the control value
unfoldable pub set_at : Bool → GraphicsState → Motion → ℤ → Point → Result Point Why
set_at round g m c q = moved m (miap_distance round g (cur m q) c) q

-- a twilight point is placed there first
unfoldable pub miap : Bool → ℤ → ℤ → ZoneLists → GraphicsState → Result (ZoneLists × GraphicsState) Why
miap round p c z g = point_in g.zp0 p z >>= λ q. direction g >>= λ m.
    placed_in g.zp0 by.Freedom m c origin q >>= λ n. set_at round g m c n >>= λ o.
    Ok (with_point g.zp0 p o z, record g { rp0 = p; rp1 = p })

abbrev pub is_same : Zone → Zone → Bool
is_same zone.Twilight zone.Twilight = true
is_same zone.Glyph zone.Glyph = true
is_same zone.Twilight zone.Glyph = false
is_same zone.Glyph zone.Twilight = false

-- the control value after MIRP's cut-in, which applies when MIRP rounds and both points are in one zone
abbrev pub cut_in_by : Keeping → GraphicsState → ℤ → ℤ → ℤ
cut_in_by k g d c = if k.round && is_same g.zp0 g.zp1 then cut_in g d c else c

-- a control value after auto flip and cut-in, both by the original distance
abbrev pub chosen : Keeping → GraphicsState → ℤ → ℤ → ℤ
chosen k g d c = cut_in_by k g d (flipped g d c)

-- the distance that MIRP sets, for the original distance d and the control value c after the single width
unfoldable pub mirp_distance : Keeping → GraphicsState → ℤ → ℤ → ℤ
mirp_distance k g d c = spaced_by k g d (rounded_by k g (chosen k g d c))

-- point p of zone pointer 1, moved by these rules to the distance c from reference point 0
unfoldable pub chosen_from : Keeping → Motion → ℤ → ℤ → ZoneLists → GraphicsState → Result ZoneLists Why
chosen_from k m p c z g = point_in g.zp1 p z >>= λ q. point_in g.zp0 g.rp0 z >>= λ r.
    kept m (mirp_distance k g (original_distance m r q) c) q r >>= λ n. Ok (with_point g.zp1 p n z)

-- a twilight point is placed first: at that distance along the freedom vector from reference point 0's original place
unfoldable pub mirp : Keeping → ℤ → ℤ → ZoneLists → GraphicsState → Result (ZoneLists × GraphicsState) Why
mirp k p c z g = point_in g.zp1 p z >>= λ q. point_in g.zp0 g.rp0 z >>= λ r. direction g >>= λ m.
    made g.zp1 by.Freedom m p (single_width g c) r z >>= λ y. chosen_from k m p (single_width g c) y g >>= λ w.
    Ok (w, referred k.set_rp0 p g)

-- worked values
abbrev in_twilight : GraphicsState
in_twilight = record default_state { zp0 = zone.Twilight; zp1 = zone.Twilight; zp2 = zone.Twilight }

abbrev at_hundred : ℤ → Point
at_hundred x = record origin { org_x = pos 100; x = x; touched_x = true }

a_twilight_point_rounded : miap true (pos 0) (pos 100) (zero_and (pos 0)) in_twilight
    ≡ Ok (record (zero_and (pos 0)) { twilight = at_hundred (pos 128) ∷ [] }, in_twilight)
unfolding miap set_at miap_distance placed_in placed direction project along
a_twilight_point_rounded = refl

-- a point at 100, with a control value of 200
cut_in_to_the_original : mirp (keeping false false true) (pos 1) (pos 200) (zero_and (pos 100)) default_state
    ≡ Ok (zero_and_touched (pos 100) (pos 128), record default_state { rp2 = pos 1 })
unfolding mirp made chosen_from mirp_distance kept single_width direction project along
cut_in_to_the_original = refl

not_across_zones : mirp (keeping false false true) (pos 1) (pos 200) (zero_and (pos 100)) (record default_state { zp0 = zone.Twilight })
    ≡ Ok (zero_and_touched (pos 100) (pos 192), record default_state { zp0 = zone.Twilight; rp2 = pos 1 })
unfolding mirp made chosen_from mirp_distance kept single_width direction project along
not_across_zones = refl

a_value_turned : mirp (keeping true false false) (pos 1) (pos 70) (zero_and (negsuc 99)) default_state
    ≡ Ok (zero_and_touched (negsuc 99) (negsuc 69), record default_state { rp0 = pos 1; rp2 = pos 1 })
unfolding mirp made chosen_from mirp_distance kept single_width direction project along
a_value_turned = refl

abbrev to_twilight : GraphicsState
to_twilight = record default_state { zp1 = zone.Twilight }

a_twilight_point_at_a_distance : mirp (keeping false false false) (pos 0) (pos 100) (zero_and (pos 0)) to_twilight
    ≡ Ok (record (zero_and (pos 0)) { twilight = at_hundred (pos 100) ∷ [] }, to_twilight)
unfolding mirp made placed chosen_from mirp_distance kept single_width direction project along
a_twilight_point_at_a_distance = refl

-- along a line that rises by 2 in 1, with a control value of 100
a_value_along_it : miap true (pos 4) (pos 100) before (slanted rising)
    ≡ Ok (with_fourth (fourth_at (pos 61) (pos 112) true true), record (slanted rising) { rp0 = pos 4; rp1 = pos 4 })
unfolding miap set_at miap_distance placed_in direction project
a_value_along_it = refl

a_distance_along_it : mirp (keeping false false true) (pos 4) (pos 100) before (slanted rising)
    ≡ Ok (with_fourth (fourth_at (pos 61) (pos 112) true true), record (slanted rising) { rp2 = pos 4 })
unfolding mirp made chosen_from mirp_distance kept single_width direction project
a_distance_along_it = refl

a_twilight_point_along_it : miap false (pos 1) (pos 100) before (record (slanted rising) { zp0 = zone.Twilight })
    ≡ Ok (
      with_twilight (touched_at (pos 45) (pos 89) (pos 45) (pos 89) true true),
      record (slanted rising) { zp0 = zone.Twilight; rp0 = pos 1; rp1 = pos 1 },
    )
unfolding miap set_at miap_distance placed_in placed direction project along
a_twilight_point_along_it = refl

-- placed along the freedom vector, then moved to the coordinate 100 along the projection vector
a_twilight_point_moved_on : miap false (pos 1) (pos 100) before (record (slanted vector.X) { zp0 = zone.Twilight })
    ≡ Ok (
      with_twilight (touched_at (pos 100) (pos 0) (pos 223) (pos 0) true false),
      record (slanted vector.X) { zp0 = zone.Twilight; rp0 = pos 1; rp1 = pos 1 },
    )
unfolding miap set_at miap_distance placed_in placed direction project along
a_twilight_point_moved_on = refl

a_twilight_point_at_a_slanted_distance : mirp (keeping false false false) (pos 1) (pos 100) before
    (record (slanted rising) { zp1 = zone.Twilight })
    ≡ Ok (
      with_twilight (touched_at (pos 45) (pos 89) (pos 45) (pos 89) true true),
      record (slanted rising) { zp1 = zone.Twilight; rp2 = pos 1 },
    )
unfolding mirp made placed chosen_from mirp_distance kept single_width direction project along
a_twilight_point_at_a_slanted_distance = refl
