-- Apple TrueType Reference Manual, "Instructing TrueType Glyphs" (zones, phantom points): the places of a simple
-- glyph's points in font units. Measuring a program's originals in them is profile.
use Rattle.std.specs.Prelude.{◌≡◌, ◌≤◌, ◌^◌, unsigned_abs, refl, true, false, ℤ, pos, List, [], ◌∷◌, Option, Some, None}
use Rattle.tt_glyf.specs.declared.raw.RawPoint.{RawPoint}
use Rattle.tt_state.specs.declared.point.Point.{Point}
use Rattle.tt_fit_outline.specs.Outline.{PhantomPoints}
use Rattle.tt_fit_outline.specs.declared.rules.Scaling.{Scaling}
use Rattle.tt_fit_outline.specs.declared.rules.Scaling.TheVariants as scaling

-- the points as the table has them, and the phantom points
pub record Units : Type 0 where
  pub points : List RawPoint
  pub phantom : PhantomPoints

-- the bound of a phantom point: a difference of two coordinates, plus an advance
abbrev pub IsNear : ℤ × ℤ → Type 0
IsNear p = (unsigned_abs p.0 ≤ 2 ^ 17) × (unsigned_abs p.1 ≤ 2 ^ 17)

-- with an exact scale originals are measured in 26.6
abbrev pub units_by : Scaling → List RawPoint → PhantomPoints → Option Units
units_by scaling.Exact points phantom = None
units_by scaling.Rounded points phantom = Some (record { points = points; phantom = phantom })

abbrev pub with_units : ℤ × ℤ → Point → Point
with_units u p = record p { units_x = u.0; units_y = u.1 }

-- each point of a zone with its place in font units
abbrev pub in_units : List RawPoint → List Point → List Point
in_units [] zone = zone
in_units (place ∷ places) [] = []
in_units (place ∷ places) (p ∷ ps) = with_units (place.x, place.y) p ∷ in_units places ps

-- nothing where originals are measured in 26.6
abbrev pub places_of : Option Units → List RawPoint
places_of None = []
places_of (Some u) = u.points

abbrev pub phantom_places : Option Units → PhantomPoints
phantom_places None = record
    { left = (pos 0, pos 0); right = (pos 0, pos 0); ascent = (pos 0, pos 0); descent = (pos 0, pos 0) }
phantom_places (Some u) = u.phantom

-- worked value: the second of two points has no place
abbrev its_point : ℤ → Point
its_point x = record {
  units_x = pos 0;
  units_y = pos 0;
  org_x = x;
  org_y = pos 0;
  x = x;
  y = pos 0;
  touched_x = false;
  touched_y = false;
  on = true;
}

one_of_two : in_units (record { x = pos 7; y = pos 9; on = true } ∷ []) (its_point (pos 1) ∷ its_point (pos 2) ∷ [])
    ≡ record (its_point (pos 1)) { units_x = pos 7; units_y = pos 9 } ∷ its_point (pos 2) ∷ []
one_of_two = refl
