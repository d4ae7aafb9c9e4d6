-- The ends of contours: the start and the end of the next contour.
use Rattle.std.proofs.Common.{ℕ, ◌+◌, ◌<◌, ◌≤◌, List, [], ◌∷◌, length, get_or, drop, arith}
use Rattle.std.proofs.lemmas.List.{drop_more}
use Rattle.tt_scan.specs.Contours.{AreEndsFrom}

-- the contour that begins at `from` ends at `end`, and after it come the rest
pub record IsNext (count from end : ℕ) (rest : List ℕ) : Type 0 where
  pub order : from ≤ end
  pub within : end ≤ count
  pub left : AreEndsFrom end count rest

from_within : (from count : ℕ) (ends : List ℕ) → AreEndsFrom from count ends → from ≤ count
from_within from count [] are = omega (arith, are)
from_within from count (end ∷ ends) are = let rest = from_within end count ends are.1 in omega (arith, are.0, rest)

pub next_end : (from count : ℕ) (ends : List ℕ) (i d : ℕ) → i < length ends → AreEndsFrom from count (drop i ends)
    → IsNext count from (get_or ends i d) (drop (i + 1) ends)
next_end from count ends i d h are =
    let next = rw (drop_more ends i d h) at are in
    record { order = next.0; within = from_within (get_or ends i d) count (drop (i + 1) ends) next.1; left = next.1 }
