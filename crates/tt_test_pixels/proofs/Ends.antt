-- Ends of contours as they are read: what may follow them makes ends of all edges with them.
use Rattle.std.proofs.Common.{◌≡◌, ℕ, List, [], ◌∷◌, ◌++◌, ◌≤◌, subst}
use Rattle.std.proofs.lemmas.List.{append-nil, append_assoc}
use Rattle.tt_scan.specs.Contours.{AreEnds, AreEndsFrom}

pub record Begin (ends : List ℕ) (from edges : ℕ) : Type 0 where
  pub within : from ≤ edges
  pub more : (rest : List ℕ) → AreEndsFrom from edges rest → AreEnds edges (ends ++ rest)

pub whole : (ends : List ℕ) (from edges : ℕ) → Begin ends from edges → from ≡ edges → AreEnds edges ends
whole ends from edges b is =
    let P : List ℕ → Type 0 = λ es. AreEnds edges es in
    subst P (append-nil ends) (b.more [] is)

pub one_more : (ends : List ℕ) (from edges end : ℕ) → Begin ends from edges → from ≤ end → end ≤ edges
    → Begin (ends ++ end ∷ []) end edges
one_more ends from edges end b after inside = record {
  within = inside;
  more = λ rest h. rw append_assoc (b.more (end ∷ rest) (after, h));
}
