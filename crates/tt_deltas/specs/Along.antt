-- OpenType, "OpenType Font Variations Common Table Formats", "Tuple Variation Store", and "gvar": how a tuple moves
-- coordinates along one axis, or control values. Where it names all points, nothing is inferred.
use Rattle.std.specs.Prelude.{◌≡◌, ℕ, ◌+◌, ◌<◌, ◌≤◌, ◌==◌, ℤ, pos, negsuc, ◌+ℤ◌, ◌*ℤ◌, unsigned_abs, true, false, if◌then◌else◌, List, [], ◌∷◌, length, slice_get, slice_index, Option, Some, None, refl}
use Rattle.tt_deltas_inference.specs.Inference.{contour, contours, inferred}
use Rattle.tt_deltas_inference.specs.declared.point.AxisPoint.{AxisPoint}
use Rattle.tt_deltas.specs.declared.varied.Varied.{Varied}

-- the delta that a list gives for a point: the one at the place of the point's number
abbrev pub listed_delta : List ℕ → List ℤ → ℕ → Option ℤ
listed_delta [] deltas i = None
listed_delta (n ∷ ns) [] i = None
listed_delta (n ∷ ns) (d ∷ ds) i = if n == i then Some d else listed_delta ns ds i

-- without numbers all points are named, in order
abbrev pub own_delta : Option (List ℕ) → List ℤ → ℕ → Option ℤ
own_delta None deltas i = slice_get deltas i
own_delta (Some numbers) deltas i = listed_delta numbers deltas i

-- a point with its delta, in 1/65536, times the tuple's share
abbrev pub axis_point : ℕ → ℤ → Option ℤ → AxisPoint
axis_point share at None = record { named = false; at = at; delta = pos 0 }
axis_point share at (Some d) = record { named = true; at = at; delta = d *ℤ pos share }

-- the points from number i on
abbrev pub axis_points : ℕ → Option (List ℕ) → List ℤ → ℕ → List Varied → List AxisPoint
axis_points share numbers deltas i [] = []
axis_points share numbers deltas i (v ∷ vs) =
    axis_point share v.at (own_delta numbers deltas i) ∷ axis_points share numbers deltas (i + 1) vs

abbrev pub moved_by : Varied → AxisPoint → Varied
moved_by v p = record v { delta = v.delta +ℤ p.delta }

abbrev pub added : List Varied → List AxisPoint → List Varied
added [] ps = []
added (v ∷ vs) [] = v ∷ vs
added (v ∷ vs) (p ∷ ps) = moved_by v p ∷ added vs ps

-- the points as a tuple moves them, those that are inferred too; ends has the last point of each contour
abbrev pub moved_points : ℕ → Option (List ℕ) → List ℤ → List ℕ → List Varied → List AxisPoint
moved_points share numbers deltas ends vs = contours 0 ends (axis_points share numbers deltas 0 vs)

-- the coordinates after a tuple
unfoldable pub varied_along : ℕ → Option (List ℕ) → List ℤ → List ℕ → List Varied → List Varied
varied_along share numbers deltas ends vs = added vs (moved_points share numbers deltas ends vs)

-- numbers that rise
abbrev pub Rises : List ℕ → Type 0
Rises ns = (i j : ℕ) → i < j → j < length ns → slice_index ns i < slice_index ns j

-- as many deltas as a tuple needs
abbrev pub AreNumbers : Option (List ℕ) → ℕ → ℕ → Type 0
AreNumbers None deltas points = deltas ≡ points
AreNumbers (Some ns) deltas points = (deltas ≡ length ns) × Rises ns

abbrev pub IsWithin : ℕ → Varied → Type 0
IsWithin most v = unsigned_abs v.delta ≤ most

-- not moved yet
abbrev pub IsStill : Varied → Type 0
IsStill v = v.delta ≡ pos 0

-- a place in a list of numbers: those before it are below i, the others are not
pub record IsPlaceFor (numbers : List ℕ) (i next : ℕ) : Type 0 where
  pub bound : next ≤ length numbers
  pub before : (j : ℕ) → j < next → slice_index numbers j < i
  pub after : (j : ℕ) → next ≤ j → j < length numbers → i ≤ slice_index numbers j

-- worked values: half of a tuple
abbrev still : ℤ → Varied
still at = record { at = at; delta = pos 0 }

abbrev by : ℤ → ℤ → Varied
by at delta = record { at = at; delta = delta }

-- all points: 2, -1 and 0 units
all_named : varied_along 32768 None (pos 2 ∷ negsuc 0 ∷ pos 0 ∷ []) (2 ∷ []) (still (pos 5) ∷ still (pos 6) ∷ still (pos 7) ∷ [])
    ≡ by (pos 5) (pos 65536) ∷ by (pos 6) (negsuc 32767) ∷ by (pos 7) (pos 0) ∷ []
unfolding varied_along contour
all_named = refl

-- point 1 of two contours, each of two points: the other points of its contour go with it, and what was there is kept
one_named : varied_along 65536 (Some (1 ∷ [])) (pos 3 ∷ []) (1 ∷ 3 ∷ [])
    (still (pos 5) ∷ by (pos 6) (pos 10) ∷ still (pos 5) ∷ still (pos 6) ∷ [])
    ≡ by (pos 5) (pos 196608) ∷ by (pos 6) (pos 196618) ∷ still (pos 5) ∷ still (pos 6) ∷ []
unfolding varied_along contour inferred
one_named = refl

-- a phantom point, after the contour, and a point that is not there
a_phantom_point : varied_along 65536 (Some (2 ∷ 9 ∷ [])) (pos 3 ∷ pos 4 ∷ []) (1 ∷ []) (still (pos 5) ∷ still (pos 6) ∷ still (pos 0) ∷ [])
    ≡ still (pos 5) ∷ still (pos 6) ∷ by (pos 0) (pos 196608) ∷ []
unfolding varied_along contour
a_phantom_point = refl

-- components and control values have no contours
no_contours : varied_along 65536 (Some (1 ∷ [])) (pos 3 ∷ []) [] (still (pos 5) ∷ still (pos 6) ∷ still (pos 7) ∷ [])
    ≡ still (pos 5) ∷ by (pos 6) (pos 196608) ∷ still (pos 7) ∷ []
unfolding varied_along
no_contours = refl
