-- Lists made element by element, and the ends of contours.
use Rattle.std.proofs.Common.{◌≡◌, ℤ, Bool, List, [], ◌∷◌, ◌++◌, All, Result, refl, arith}
use Rattle.std.proofs.lemmas.List.Elements.{All-push}
use Rattle.tt_core.specs.Faults.{Fault}
use Rattle.tt_fit_outline.specs.Outline.{IsPoint}
use Rattle.tt_core.specs.Outcomes.{each, after_each}

-- after nothing
pub from_nothing : {A B : Type 0} (make : A → Result B Fault) (xs : List A) → after_each make xs [] ≡ each make xs
from_nothing make [] = refl
from_nothing make (x ∷ xs) = grind arith

-- one more point within the limit
pub points : (ps : List (ℤ × ℤ × Bool)) (p : ℤ × ℤ × Bool) → All IsPoint ps → IsPoint p → All IsPoint (ps ++ p ∷ [])
points ps p all one = All-push IsPoint ps p all one
