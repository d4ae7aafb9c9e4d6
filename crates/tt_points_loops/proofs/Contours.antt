-- Contours are ranges of existing points.
use Rattle.std.proofs.Common.{◌≡◌, ℕ, zero, suc, ◌<◌, ◌≤◌, List, [], ◌∷◌, length, get_or, slice_get, Some, arith}
use Rattle.tt_points_zones.specs.Zones.{AreContours}

begun_within : (from : ℕ) (contours : List (ℕ × ℕ)) (n : ℕ) → AreContours from contours n → from ≤ n
begun_within from [] n are = are
begun_within from (contour ∷ contours) n are =
    let rest = begun_within contour.1 contours n are.2 in
    omega (arith, are.1)

pub ended_within : (from : ℕ) (contours : List (ℕ × ℕ)) (n i : ℕ) (d : ℕ × ℕ) → AreContours from contours n
    → i < length contours → (get_or contours i d).1 ≤ n
ended_within from [] n i d are there = absurd (omega arith)
ended_within from (contour ∷ contours) n zero d are there = begun_within contour.1 contours n are.2
ended_within from (contour ∷ contours) n (suc i) d are there = ended_within contour.1 contours n i d are.2 (omega arith)

pub got_within : (from : ℕ) (contours : List (ℕ × ℕ)) (n k : ℕ) (contour : ℕ × ℕ) → AreContours from contours n
    → Some contour ≡ slice_get contours k → contour.1 ≤ n
got_within from [] n k contour are is = absurd cc
got_within from (first ∷ others) n zero contour are is =
    let same : contour ≡ first = cc in
    rw same (begun_within first.1 others n are.2)
got_within from (first ∷ others) n (suc k) contour are is = got_within first.1 others n k contour are.2 is
