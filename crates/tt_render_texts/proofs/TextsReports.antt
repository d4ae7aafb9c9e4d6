-- The lines of a report, one more at a time.
use Rattle.std.proofs.Common.{◌≡◌, ℕ, ◌+◌, ◌<◌, List, ◌∷◌, ◌++◌, length, drop, drop-cons, get_or, flat_map, append_assoc, add-one}

-- the text of an item, behind those before it
pub text_behind : {X : Type 0} (f : X → List ℕ) (xs : List X) (i : ℕ) (x : X) (before : List ℕ) → i < length xs
    → x ≡ get_or xs i x → (before ++ f x) ++ flat_map f (drop (i + 1) xs) ≡ before ++ flat_map f (drop i xs)
text_behind f xs i x before below is =
    let whole : drop i xs ≡ get_or xs i x ∷ drop (i + 1) xs = rw add-one (drop-cons xs i x below) in
    let here : drop i xs ≡ x ∷ drop (i + 1) xs = rw (← is) at whole in
    rw here (append_assoc before (f x) (flat_map f (drop (i + 1) xs)))
