-- Apple TrueType Reference Manual, "Instructing TrueType Glyphs" (zones) and "Graphics State" (dual projection vector):
-- the original places of points. A glyph zone in font units, and distances measured in these and then scaled, are
-- profile.
use Rattle.std.specs.Prelude.{◌≡◌, refl, ◌⊎◌, ◌≤◌, false, true, Bool, ℤ, pos, neg_ℤ, ◌-ℤ◌, unsigned_abs, Option, Some, None}
use Rattle.tt_core.specs.Scales.{IsScale, rounded_scale, scaled_by}
use Rattle.tt_core.specs.declared.halves.Halves.TheVariants as halves
use Rattle.tt_core.specs.declared.scaling.Scale.{Scale}
use Rattle.tt_state.specs.declared.graphics_state.Zone.{Zone}
use Rattle.tt_state.specs.declared.graphics_state.Zone.TheVariants as zone
use Rattle.tt_state.specs.declared.point.Point.{Point}
use Rattle.tt_state.specs.declared.vector.Vector.TheVariants as vector
use Rattle.tt_state.specs.Axes.{pair_of}
use Rattle.tt_state.specs.Vectors.{project}
use Rattle.tt_points_zones.specs.Points.{origin}
use Rattle.tt_points_zones.specs.Motions.{original_distance}
use Rattle.tt_points_zones.specs.Zones.{ZoneLists}
use Rattle.tt_points_zones.specs.declared.motion.Motion.{Motion}

abbrev pub is_glyph : Zone → Bool
is_glyph zone.Twilight = false
is_glyph zone.Glyph = true

-- the scale of the distance between two original places: that of the glyph zone, if both zones are the glyph zone
abbrev pub scale_between : Zone → Zone → ZoneLists → Option Scale
scale_between zone.Glyph zone.Glyph z = z.originals.units
scale_between zone.Glyph zone.Twilight z = None
scale_between zone.Twilight other z = None

-- the original distance between two points in font units
abbrev pub units_distance : Motion → Point → Point → ℤ
units_distance m from to = project (pair_of m.dual) (to.units_x -ℤ from.units_x) (to.units_y -ℤ from.units_y)

-- the original distance between two points: measured in font units and then scaled, or in 26.6
abbrev pub distance_by : Option Scale → Motion → Point → Point → ℤ
distance_by None m from to = original_distance m from to
distance_by (Some s) m from to = scaled_by s (units_distance m from to)

-- the dual projection vector is along an axis
abbrev pub DualOnAxis : Motion → Type 0
DualOnAxis m = (m.dual ≡ vector.X) ⊎ (m.dual ≡ vector.Y)

-- a point whose original place is its scaled font units
pub record StoodAtUnits (s : Scale) (p : Point) : Type 0 where
  pub x : p.org_x ≡ scaled_by s p.units_x
  pub y : p.org_y ≡ scaled_by s p.units_y

-- with halves away from zero, the distance of the way back is the distance of the way there with its sign changed
abbrev pub DistancesTurnRound : Type 0
DistancesTurnRound = (s : Scale) (m : Motion) (p q : Point) → IsScale s → s.halves ≡ halves.AwayFromZero
    → DualOnAxis m → distance_by (Some s) m q p ≡ neg_ℤ (distance_by (Some s) m p q)

-- a distance measured in font units differs by at most 1 from the one in 26.6
abbrev pub DistancesAreNear : Type 0
DistancesAreNear = (s : Scale) (m : Motion) (p q : Point) → IsScale s → DualOnAxis m → StoodAtUnits s p
    → StoodAtUnits s q → unsigned_abs (distance_by (Some s) m p q -ℤ distance_by None m p q) ≤ 1

-- worked values: 127 units at 12 of 1024
abbrev at_units : ℤ → ℤ → Point
at_units units org = record origin { units_x = units; org_x = org; x = org }

abbrev along_x : Motion
along_x = record { proj = vector.X; dual = vector.X; free = vector.X }

measured_in_pixels : distance_by None along_x (at_units (pos 3) (pos 2)) (at_units (pos 130) (pos 98)) ≡ pos 96
unfolding project
measured_in_pixels = refl

measured_in_units : distance_by (Some (rounded_scale 12 1024)) along_x (at_units (pos 3) (pos 2))
    (at_units (pos 130) (pos 98)) ≡ pos 95
unfolding project
measured_in_units = refl
