-- OpenType, "gvar": coordinates at an instance, in whole font units and in 26.6 pixels. A coordinate in font units stays an
-- int16 (profile).
use Rattle.std.specs.Prelude.{◌≡◌, refl, ℕ, Bool, true, false, not, ◌&&◌, if◌then◌else◌, ℤ, pos, negsuc, int_lt, List, [], ◌∷◌, map, Result, Ok, Err}
use Rattle.tt_core.specs.Faults.{Fault}
use Rattle.tt_core.specs.Outcomes.{◌>>=◌}
use Rattle.tt_deltas.specs.declared.varied.Varied.{Varied}
use Rattle.tt_deltas.specs.Units.{moved_sixty_fourths, moved_units}
use Rattle.tt_fit_outline.specs.declared.rules.Scaling.TheVariants as scaling
use Rattle.tt_fit_outline.specs.Scaling.{coordinate_fault, is_coordinate}
use Rattle.tt_fit_outline.specs.Size.{FontSize, size_by}
use Rattle.tt_glyf.specs.declared.raw.RawPoint.{RawPoint}
use Rattle.tt_fit_variation.specs.Fine.{fine_scaled}

-- whether a coordinate is an int16
abbrev pub is_unit : ℤ → Bool
is_unit v = not (int_lt v (negsuc 32767)) && not (int_lt (pos 32767) v)

-- whole units are those that originals are measured in; the place is scaled from 64ths
unfoldable pub moved_coordinate : FontSize → ℕ → Varied → Result (ℤ × ℤ) Fault
moved_coordinate z at v =
    if is_unit (moved_units v) && is_coordinate (fine_scaled z.scale (moved_sixty_fourths v))
    then Ok (moved_units v, fine_scaled z.scale (moved_sixty_fourths v)) else Err (coordinate_fault at)

-- a point at an instance, in whole font units and in 26.6 pixels
pub record InstancePoint : Type 0 where
  pub unit : RawPoint
  pub place : ℤ × ℤ × Bool

abbrev pub point_of : Bool → ℤ × ℤ → ℤ × ℤ → InstancePoint
point_of on x y = record { unit = record { x = x.0; y = y.0; on = on }; place = (x.1, y.1, on) }

-- from a point's coordinates with their deltas
unfoldable pub instance_point : FontSize → ℕ → Bool → Varied → Varied → Result InstancePoint Fault
instance_point z at on x y = moved_coordinate z at x >>= λ a. moved_coordinate z at y >>= λ b. Ok (point_of on a b)

-- the points of a simple glyph that begins at an offset in glyf, or the first fault
abbrev pub instance_points : FontSize → ℕ → List RawPoint → List Varied → List Varied → Result (List InstancePoint) Fault
instance_points z at [] xs ys = Ok []
instance_points z at (p ∷ ps) [] ys = Ok []
instance_points z at (p ∷ ps) (x ∷ xs) [] = Ok []
instance_points z at (p ∷ ps) (x ∷ xs) (y ∷ ys) =
    instance_point z at p.on x y >>= λ q. instance_points z at ps xs ys >>= λ qs. Ok (q ∷ qs)

-- the points in 26.6 pixels, and in whole font units
abbrev pub instance_places : List InstancePoint → List (ℤ × ℤ × Bool)
instance_places ps = map (λ p. p.place) ps

abbrev pub instance_units : List InstancePoint → List RawPoint
instance_units ps = map (λ p. p.unit) ps

-- worked values: four 64ths of a pixel a unit; 10 units and a half, a half less, and past the int16 at both ends
abbrev by : ℤ → ℤ → Varied
by at delta = record { at = at; delta = delta }

moved_by_halves : map (moved_coordinate (size_by scaling.Exact 16 256) 22) (by (pos 10) (pos 32768) ∷ by (pos 10) (negsuc 32767) ∷ by (negsuc 9) (negsuc 32768) ∷ [])
    ≡ Ok (pos 11, pos 42) ∷ Ok (pos 10, pos 38) ∷ Ok (negsuc 10, negsuc 41) ∷ []
unfolding moved_coordinate
moved_by_halves = refl

past_16_bits : map (moved_coordinate (size_by scaling.Exact 1 256) 22) (by (pos 32767) (pos 32767) ∷ by (pos 32767) (pos 32768) ∷ by (negsuc 32767) (negsuc 32768) ∷ [])
    ≡ Ok (pos 32767, pos 8192) ∷ Err (coordinate_fault 22) ∷ Err (coordinate_fault 22) ∷ []
unfolding moved_coordinate
past_16_bits = refl

-- of two points one has deltas
one_of_two : instance_points (size_by scaling.Exact 16 256) 22 (record { x = pos 7; y = pos 9; on = true } ∷ record { x = pos 8; y = pos 9; on = false } ∷ [])
    (by (pos 7) (pos 65536) ∷ []) (by (pos 9) (pos 0) ∷ [])
    ≡ Ok (record { unit = record { x = pos 8; y = pos 9; on = true }; place = (pos 32, pos 36, true) } ∷ [])
unfolding instance_point moved_coordinate
one_of_two = refl

-- 192 and 128 units moved by 34/64 and by -24/64, with 18.75 64ths of a pixel a unit: 3609.96 and 2392.97
parts_of_a_unit : map (moved_coordinate (size_by scaling.Rounded 300 1024) 22) (by (pos 192) (pos 34405) ∷ by (pos 128) (negsuc 24574) ∷ [])
    ≡ Ok (pos 193, pos 3610) ∷ Ok (pos 128, pos 2393) ∷ []
unfolding moved_coordinate
parts_of_a_unit = refl
