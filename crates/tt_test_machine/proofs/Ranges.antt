-- Contours as they are read: each range of points that may follow them makes contours of the whole.
use Rattle.std.proofs.Common.{◌≡◌, ℕ, List, [], ◌∷◌, ◌++◌, ◌≤◌, subst}
use Rattle.std.proofs.lemmas.List.{append-nil, append_assoc}
use Rattle.tt_points_zones.specs.Zones.{AreContours}

pub record Begins (contours : List (ℕ × ℕ)) (from points : ℕ) : Type 0 where
  pub within : from ≤ points
  pub more : (rest : List (ℕ × ℕ)) → AreContours from rest points → AreContours 0 (contours ++ rest) points

pub whole : (contours : List (ℕ × ℕ)) (from points : ℕ) → Begins contours from points → AreContours 0 contours points
whole contours from points b =
    let P : List (ℕ × ℕ) → Type 0 = λ cs. AreContours 0 cs points in
    subst P (append-nil contours) (b.more [] b.within)

pub one_more : (contours : List (ℕ × ℕ)) (from points : ℕ) (contour : ℕ × ℕ) → Begins contours from points
    → contour.0 ≡ from → from ≤ contour.1 → contour.1 ≤ points → Begins (contours ++ contour ∷ []) contour.1 points
one_more contours from points contour b first after inside = record {
  within = inside;
  more = λ rest h.
      rw append_assoc (b.more (contour ∷ rest) (first, after, h));
}
