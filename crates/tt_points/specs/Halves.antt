-- Worked values at exact halves, for instructions that measure along a line that rises by 2 in 1. A point 128 pixels to
-- the right of another one is 3663 1/2 away along that line, in 26.6 pixels, and one to the left -3663 1/2. Halves go
-- up, to 3664 and -3663.
use Rattle.std.specs.Prelude.{◌≡◌, ℤ, pos, negsuc, Bool, true, false, [], ◌∷◌, map, Ok, refl}
use Rattle.tt_core.specs.declared.halves.Halves.TheVariants as halves
use Rattle.tt_state.specs.declared.graphics_state.GraphicsState.{GraphicsState}
use Rattle.tt_state.specs.declared.point.Point.{Point}
use Rattle.tt_state.specs.declared.vector.Vector.TheVariants as vector
use Rattle.tt_state.specs.Vectors.{project}
use Rattle.tt_points_zones.specs.Motions.{direction}
use Rattle.tt_points_zones.specs.Points.{origin}
use Rattle.tt_points_zones.specs.Zones.{ZoneLists, in_pixels}
use Rattle.tt_points.specs.declared.measuring.Position.TheVariants as position
use Rattle.tt_points.specs.ControlValues.{miap, miap_distance, mirp, mirp_distance, chosen_from, set_at}
use Rattle.tt_points.specs.Distances.{keeping, single_width}
use Rattle.tt_points.specs.Lines.{alignpts, move_by}
use Rattle.tt_points.specs.Measuring.{gc, md, scfs}
use Rattle.tt_points.specs.Moving.{kept, kept_from, mdap, mdap_distance, mdrp, mdrp_distance, msirp}
use Rattle.tt_points.specs.Slanted.{slanted}
use Rattle.tt_points.specs.Twilight.{made, placed_in}

-- points move along x
abbrev state : GraphicsState
state = slanted vector.X

abbrev after_a_move : GraphicsState
after_a_move = record state { rp0 = pos 1; rp1 = pos 1 }

abbrev second : GraphicsState
second = record state { rp2 = pos 1 }

-- a point by its original and its current place along x, and whether it is touched
abbrev at : ℤ → ℤ → Bool → Point
at org x touched = record origin { org_x = org; x = x; touched_x = touched }

-- two points, the first one at the origin
abbrev beside : Point → ZoneLists
beside p = record { twilight = []; glyph = origin ∷ p ∷ []; contours = []; originals = in_pixels halves.Up }

abbrev still : ℤ → ZoneLists
still x = beside (at x x false)

coordinates : map (λ x. gc position.Current (pos 1) (beside (at (pos 0) x false)) state) (pos 8192 ∷ negsuc 8191 ∷ [])
    ≡ Ok (pos 3664) ∷ Ok (negsuc 3662) ∷ []
unfolding gc project
coordinates = refl

original_coordinates : map (λ x. gc position.Original (pos 1) (beside (at x (pos 0) false)) state)
    (pos 8192 ∷ negsuc 8191 ∷ [])
    ≡ Ok (pos 3664) ∷ Ok (negsuc 3662) ∷ []
unfolding gc project
original_coordinates = refl

distances : map (λ x. md position.Current (pos 1) (pos 0) (beside (at (pos 0) x false)) state)
    (pos 8192 ∷ negsuc 8191 ∷ [])
    ≡ Ok (pos 3664) ∷ Ok (negsuc 3662) ∷ []
unfolding md project
distances = refl

-- measured from the point to the origin
distances_back : map (λ x. md position.Current (pos 0) (pos 1) (beside (at (pos 0) x false)) state)
    (pos 8192 ∷ negsuc 8191 ∷ [])
    ≡ Ok (negsuc 3662) ∷ Ok (pos 3664) ∷ []
unfolding md project
distances_back = refl

original_distances : map (λ x. md position.Original (pos 1) (pos 0) (beside (at x (pos 0) false)) state)
    (pos 8192 ∷ negsuc 8191 ∷ [])
    ≡ Ok (pos 3664) ∷ Ok (negsuc 3662) ∷ []
unfolding md project
original_distances = refl

-- moved by -3564 and by 3763
moved_to_a_coordinate : map (λ x. scfs (pos 1) (pos 100) (still x) state) (pos 8192 ∷ negsuc 8191 ∷ [])
    ≡ Ok (beside (at (pos 8192) (pos 222) true)) ∷ Ok (beside (at (negsuc 8191) (pos 222) true)) ∷ []
unfolding scfs direction project
moved_to_a_coordinate = refl

moved_to_a_control_value : map (λ x. miap false (pos 1) (pos 100) (still x) state) (pos 8192 ∷ negsuc 8191 ∷ [])
    ≡ Ok (beside (at (pos 8192) (pos 222) true), after_a_move)
    ∷ Ok (beside (at (negsuc 8191) (pos 222) true), after_a_move)
    ∷ []
unfolding miap set_at miap_distance placed_in direction project
moved_to_a_control_value = refl

-- rounded to 3648 and -3648: moved by -16 and by 15
rounded_there : map (λ x. mdap true (pos 1) (still x) state) (pos 8192 ∷ negsuc 8191 ∷ [])
    ≡ Ok (beside (at (pos 8192) (pos 8156) true), after_a_move)
    ∷ Ok (beside (at (negsuc 8191) (negsuc 8157) true), after_a_move)
    ∷ []
unfolding mdap mdap_distance direction project
rounded_there = refl

moved_to_a_distance : map (λ x. msirp false (pos 1) (pos 100) (still x) state) (pos 8192 ∷ negsuc 8191 ∷ [])
    ≡ Ok (beside (at (pos 8192) (pos 222) true), second) ∷ Ok (beside (at (negsuc 8191) (pos 222) true), second) ∷ []
unfolding msirp made kept_from kept direction project
moved_to_a_distance = refl

-- from the reference point's place, by 3664 and by -3663
moved_to_its_distance : map (λ x. mdrp (keeping false false false) (pos 1) (beside (at x (pos 0) false)) state)
    (pos 8192 ∷ negsuc 8191 ∷ [])
    ≡ Ok (beside (at (pos 8192) (pos 8193) true), second)
    ∷ Ok (beside (at (negsuc 8191) (negsuc 8190) true), second)
    ∷ []
unfolding mdrp mdrp_distance kept single_width direction project
moved_to_its_distance = refl

-- a control value of 100 is turned to the sign of the distance: moved by -3564 and by 3563
moved_to_a_turned_value : map (λ x. mirp (keeping false false false) (pos 1) (pos 100) (still x) state)
    (pos 8192 ∷ negsuc 8191 ∷ [])
    ≡ Ok (beside (at (pos 8192) (pos 222) true), second)
    ∷ Ok (beside (at (negsuc 8191) (negsuc 224) true), second)
    ∷ []
unfolding mirp made chosen_from mirp_distance kept single_width direction project
moved_to_a_turned_value = refl

-- half of 3664, and half of -3663, cut
moved_to_each_other : map (λ x. alignpts (pos 0) (pos 1) (still x) state) (pos 8192 ∷ negsuc 8191 ∷ [])
    ≡ Ok (record (beside origin) { glyph = at (pos 0) (pos 4097) true ∷ at (pos 8192) (pos 4095) true ∷ [] })
    ∷ Ok (record (beside origin) { glyph = at (pos 0) (negsuc 4093) true ∷ at (negsuc 8191) (negsuc 4097) true ∷ [] })
    ∷ []
unfolding alignpts move_by direction project
moved_to_each_other = refl
