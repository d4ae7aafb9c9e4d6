-- Ends of contours that rise up to the last point are ends of contours within a glyph.
use Rattle.std.proofs.Common.{◌≡◌, ℕ, zero, suc, ◌+◌, ◌-◌, ◌<◌, ◌≤◌, List, [], ◌∷◌, length, slice_index, arith}
use Rattle.tt_deltas_inference.specs.Bounds.{AreContourEnds}

from_rising : (from : ℕ) (ends : List ℕ) (n : ℕ) → ((i j : ℕ) → i ≤ j → j < length ends → slice_index ends i ≤ slice_index ends j)
    → (0 < length ends → from ≤ slice_index ends 0 + 1) → ((i : ℕ) → i < length ends → slice_index ends i + 1 ≤ n)
    → from ≤ n → AreContourEnds from ends n
from_rising from [] n rising first inside room = room
from_rising from (end ∷ ends) n rising first inside room = (
  first (omega arith),
  from_rising (end + 1) ends n (λ i j more there. rising (suc i) (suc j) (omega arith) (omega arith))
      (λ some. let next : end ≤ slice_index ends 0 = rising 0 1 (omega arith) (omega arith) in omega arith)
      (λ i there. inside (suc i) (omega arith)) (inside 0 (omega arith)),
)

-- the ends of a simple glyph: they rise, the last is the last point, and phantom points follow
pub contour_ends : (ends : List ℕ) (points n : ℕ) → ((i j : ℕ) → i ≤ j → j < length ends → slice_index ends i ≤ slice_index ends j)
    → slice_index ends (length ends - 1) + 1 ≡ points → points ≤ n → AreContourEnds 0 ends n
contour_ends ends points n rising last room =
    from_rising 0 ends n rising (λ some. omega arith)
    (λ i there. let most = rising i (length ends - 1) (omega arith) (omega arith) in omega arith) (omega arith)
