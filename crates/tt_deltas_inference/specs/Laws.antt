-- Lemmas about inferred deltas, for all points.
use Rattle.std.specs.Prelude.{◌≡◌, ℕ, pos, ◌*◌, ◌≤◌, ◌<◌, ◌-ℤ◌, ◌*ℤ◌, ◌<ℤ◌, unsigned_abs, true, false, List, length, get_or, drop, All}
use Rattle.tt_deltas_inference.specs.Bounds.{AreContourEnds}
use Rattle.tt_deltas_inference.specs.Inference.{contour, contours, moved, placed}
use Rattle.tt_deltas_inference.specs.declared.point.AxisPoint.{AxisPoint}

-- a named point of a glyph keeps its delta
abbrev pub NamedPointsStay : Type 0
NamedPointsStay = (ends : List ℕ) (ps : List AxisPoint) (d : AxisPoint) (i : ℕ) → AreContourEnds 0 ends (length ps)
    → i < length ps → (get_or ps i d).named ≡ true → get_or (contours 0 ends ps) i d ≡ get_or ps i d

-- the points after all contours, so the phantom points, keep their deltas
abbrev pub PhantomPointsStay : Type 0
PhantomPointsStay = (ends : List ℕ) (ps : List AxisPoint) (n : ℕ) → AreContourEnds 0 ends n → n ≤ length ps
    → drop n (contours 0 ends ps) ≡ drop n ps

-- a contour without a named point is unchanged
abbrev pub ContoursStay : Type 0
ContoursStay = (ps : List AxisPoint) (d : AxisPoint) → ((i : ℕ) → i < length ps → (get_or ps i d).named ≡ false)
    → contour ps ≡ ps

-- if all points are named, nothing is inferred
abbrev pub WholeGlyphsStay : Type 0
WholeGlyphsStay = (ends : List ℕ) (ps : List AxisPoint) → AreContourEnds 0 ends (length ps)
    → All (λ p. p.named ≡ true) ps → contours 0 ends ps ≡ ps

-- A point x units above the lower neighbour, of the r units to the upper one, moves to its share of the way between the
-- moved neighbours. The share is off by at most x halves of 1/65536 unit, so a moved point is between its moved
-- neighbours up to that.
abbrev pub SharesAreNear : Type 0
SharesAreNear = (lo hi p : AxisPoint) → lo.at <ℤ p.at → p.at <ℤ hi.at
    → unsigned_abs (pos 2 *ℤ ((hi.at -ℤ lo.at) *ℤ (moved (placed lo hi p) -ℤ moved lo)
    -ℤ (p.at -ℤ lo.at) *ℤ (moved hi -ℤ moved lo)))
    ≤ unsigned_abs (p.at -ℤ lo.at) * unsigned_abs (hi.at -ℤ lo.at)
