-- No part of the standard: the ends of contours, as a fact that a struct keeps.
use Rattle.std.specs.Coded.{Coded-set, coded_ℕ, le_prop, ×_prop}
use Rattle.std.specs.Prelude.{ℕ, List, [], ◌∷◌}
use Rattle.tt_scan.specs.Contours.{AreEndsFrom}

-- the fact has one proof at most
pub AreEnds-prop : (from count : ℕ) (ends : List ℕ) → IsProp (AreEndsFrom from count ends)
AreEnds-prop from count [] = Coded-set coded_ℕ from count
AreEnds-prop from count (end ∷ ends) = ×_prop le_prop (AreEnds-prop end count ends)
