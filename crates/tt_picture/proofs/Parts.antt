-- Parts of lists: what is before, between and after.
use Rattle.std.proofs.Common.{◌≡◌, refl, ℕ, zero, suc, ◌≤◌, List, [], ◌∷◌, ◌++◌, length, drop, arith}
use Rattle.std.proofs.lemmas.List.Elements.{All-cons, All-head, All-nil, All-tail}
use Rattle.std.specs.Prelude.{All}

-- an element between those before and those after it
pub of_middle : {X : Type 0} (P : X → Type 0) (xs ys : List X) (x : X) → All P (xs ++ x ∷ ys) → P x
of_middle P [] ys x all = All-head P x ys all
of_middle P (z ∷ xs) ys x all = of_middle P xs ys x (All-tail P z (xs ++ x ∷ ys) all)

-- those before some
pub of_front : {X : Type 0} (P : X → Type 0) (xs ys : List X) → All P (xs ++ ys) → All P xs
of_front P [] ys all = All-nil P
of_front P (x ∷ xs) ys all = All-cons P x xs (All-head P x (xs ++ ys) all) (of_front P xs ys (All-tail P x (xs ++ ys) all))

pub nothing_left : {X : Type 0} (xs : List X) → length xs ≡ 0 → xs ≡ []
nothing_left [] none = refl
nothing_left (x ∷ xs) some = absurd (omega arith)

-- after the last place nothing is left
pub none_left : {X : Type 0} (xs : List X) (i : ℕ) → length xs ≤ i → drop i xs ≡ []
none_left [] zero over = refl
none_left [] (suc i) over = refl
none_left (x ∷ xs) zero over = absurd (omega (arith, over))
none_left (x ∷ xs) (suc i) over = none_left xs i (omega (arith, over))
