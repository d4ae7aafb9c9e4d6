-- Apple TrueType Reference Manual, "Instructing TrueType Glyphs" (zones): the points of both zones and the contours of
-- the glyph. Coordinates are in 26.6 pixels; their limit is this project's own (profile).
use Rattle.std.specs.Prelude.{◌≡◌, ℕ, ◌^◌, ◌≤◌, List, [], ◌∷◌, length, All, unsigned_abs, None, Result, IfOk, IfSome}
use Rattle.std.specs.Coded.{le_prop, Coded-set, coded_ℕ}
use mathlib.Core.HLevel.{×₃_prop}
use Rattle.tt_core.specs.Limits.{coordinate_limit}
use Rattle.tt_state.specs.declared.point.Point.{Point}
use Rattle.tt_core.specs.Scales.{IsScale}
use Rattle.tt_core.specs.declared.halves.Halves.{Halves}
use Rattle.tt_points_zones.specs.declared.zones.Originals.{Originals}

pub record ZoneLists : Type 0 where
  pub twilight : List Point
  pub glyph : List Point
  pub contours : List (ℕ × ℕ)
  pub originals : Originals

-- the original places of a glyph zone in 26.6
abbrev pub in_pixels : Halves → Originals
in_pixels halves = record { units = None; halves = halves }

-- a point with coordinates within the limit; in font units it may be a phantom point
pub record IsPoint (p : Point) : Type 0 where
  pub units_x : unsigned_abs p.units_x ≤ 2 ^ 17
  pub units_y : unsigned_abs p.units_y ≤ 2 ^ 17
  pub org_x : unsigned_abs p.org_x ≤ coordinate_limit
  pub org_y : unsigned_abs p.org_y ≤ coordinate_limit
  pub x : unsigned_abs p.x ≤ coordinate_limit
  pub y : unsigned_abs p.y ≤ coordinate_limit

-- ranges of points, perhaps empty: the first begins at a number, each next one at the end of the one before it
abbrev pub AreContours : ℕ → List (ℕ × ℕ) → ℕ → Type 0
AreContours from [] points = from ≤ points
AreContours from (contour ∷ contours) points =
    (contour.0 ≡ from) × (from ≤ contour.1) × AreContours contour.1 contours points

-- the ranges are contours in one way at most
pub AreContours-prop : (from : ℕ) (contours : List (ℕ × ℕ)) (points : ℕ) → IsProp (AreContours from contours points)
AreContours-prop from [] points = le_prop
AreContours-prop from (contour ∷ contours) points =
    ×₃_prop (Coded-set coded_ℕ contour.0 from) le_prop (AreContours-prop contour.1 contours points)

pub record IsZones (z : ZoneLists) : Type 0 where
  pub twilight : All IsPoint z.twilight
  pub glyph : All IsPoint z.glyph
  pub contours : AreContours 0 z.contours (length z.glyph)
  pub scale : IfSome z.originals.units IsScale

-- zones with the same counts of points, the same contours, and the same unit of original places
pub record SameShape (old new : ZoneLists) : Type 0 where
  pub twilight : length new.twilight ≡ length old.twilight
  pub glyph : length new.glyph ≡ length old.glyph
  pub contours : new.contours ≡ old.contours
  pub originals : new.originals ≡ old.originals

-- a result whose zones have the shape of the given ones; the zones are alone, or beside something else
abbrev pub KeepsShape : {E : Type 0} → ZoneLists → Result ZoneLists E → Type 0
KeepsShape z given = IfOk given (SameShape z)

abbrev pub KeepsShapeBefore : {A E : Type 0} → ZoneLists → Result (ZoneLists × A) E → Type 0
KeepsShapeBefore z given = IfOk given (λ t. SameShape z t.0)
