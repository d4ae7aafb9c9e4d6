-- Blank, scaled and joined outlines are outlines.
use Rattle.std.proofs.Common.{◌≡◌, ℕ, ◌+◌, ◌≤◌, ℤ, pos, Bool, List, [], ◌++◌, length, map, Option, None, All, refl, arith}
use Rattle.std.proofs.lemmas.List.Elements.{All-nil}
use Rattle.tt_core.specs.Limits.{point_limit}
use Rattle.tt_state.specs.declared.graphics_state.ScanControl.{ScanControl}
use Rattle.tt_glyf.specs.Meaning.{AreEnds as EndContours}
use Rattle.tt_fit_outline.specs.Joining.{ends_after}
use Rattle.tt_fit_outline.specs.Outline.{Outline, PhantomPoints, IsCoordinate, IsPoint, ArePhantom, AreEnds, IsOutline}
use Rattle.tt_fit_outline.proofs.Contours.{scaled-ends, joined-ends}

no-ends : AreEnds 0 []
no-ends = record { rising = λ i j le below. absurd (omega arith); within = λ i. omega arith; last = refl }

zero-is : IsCoordinate (pos 0)
zero-is = omega arith

abbrev four : ℤ → ℤ → ℤ → ℤ → PhantomPoints
four left right ascent descent =
    record { left = (left, pos 0); right = (right, pos 0); ascent = (pos 0, ascent); descent = (pos 0, descent) }

pub blank-is : (points : List (ℤ × ℤ × Bool)) (ends : List ℕ) (left right ascent descent : ℤ) → points ≡ [] → ends ≡ []
    → IsCoordinate left → IsCoordinate right → IsCoordinate ascent → IsCoordinate descent
    → IsOutline (record { points = points; ends = ends; phantom = four left right ascent descent; scan = None })
blank-is points ends left right ascent descent no_points no_contours l r a d =
    rw (no_points, no_contours)
    (record { few = omega arith; coordinates = All-nil IsPoint; phantom = record { left = (l, zero-is); right = (r, zero-is); ascent = (zero-is, a); descent = (zero-is, d) }; ends = no-ends })

pub scaled-is : (points : List (ℤ × ℤ × Bool)) (ends lasts : List ℕ) (n : ℕ) (phantom : PhantomPoints) → length points
    ≡ n → n ≤ point_limit → All IsPoint points → EndContours n lasts → ends ≡ map (λ e. e + 1) lasts
    → ArePhantom phantom
    → IsOutline (record { points = points; ends = ends; phantom = phantom; scan = None })
scaled-is points ends lasts n phantom many few coordinates are is phantoms =
    rw is (record { few = omega (arith, many, few); coordinates = coordinates; phantom = phantoms; ends = rw many (scaled-ends n lasts are) })

pub joined-is : (o component : Outline) (points : List (ℤ × ℤ × Bool)) (ends : List ℕ) (phantom : PhantomPoints) (scan : Option ScanControl)
    → IsOutline o → IsOutline component
    → length points ≡ length o.points + length component.points → length points ≤ point_limit → All IsPoint points
    → ends ≡ o.ends ++ ends_after (length o.points) component.ends → ArePhantom phantom
    → IsOutline (record { points = points; ends = ends; phantom = phantom; scan = scan })
joined-is o component points ends phantom scan is more many few coordinates joined phantoms =
    rw joined (record { few = few; coordinates = coordinates; phantom = phantoms; ends = rw many (joined-ends (length o.points) (length component.points) o.ends component.ends is.ends more.ends) })
