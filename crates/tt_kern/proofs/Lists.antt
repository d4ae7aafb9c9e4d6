-- Lists cut to a length, one after the other.
use Rattle.std.proofs.Common.{◌≡◌, ℕ, zero, suc, ◌≤◌, List, [], ◌∷◌, ◌++◌, length, take, refl, arith, append_assoc, ap, ◌∙◌}
use Rattle.std.proofs.lemmas.List.{take_all, length-take, append-nil}

-- what was cut off before stays cut off
pub take-again : {X : Type 0} (n : ℕ) (xs ys : List X) → take n (take n xs ++ ys) ≡ take n (xs ++ ys)
take-again zero xs ys = refl
take-again (suc n) [] ys = refl
take-again (suc n) (x ∷ xs) ys = rw (take-again n xs ys) refl

-- a list that grows twice is cut once
pub take-twice : {X : Type 0} (n : ℕ) (xs ys zs : List X) → take n (take n (xs ++ ys) ++ zs) ≡ take n (xs ++ (ys ++ zs))
take-twice n xs ys zs = take-again n (xs ++ ys) zs ∙ ap (take n) (append_assoc xs ys zs)

-- a list that is short enough stays
pub kept : {X : Type 0} (n : ℕ) (xs : List X) → length xs ≤ n → take n (xs ++ []) ≡ xs
kept n xs few = rw (append-nil xs) (take_all n xs few)

pub few-taken : {X : Type 0} (n : ℕ) (xs : List X) → length (take n xs) ≤ n
few-taken n xs = rw (length-take n xs) (omega arith)

-- a full list takes no more
pub full : {X : Type 0} (n : ℕ) (xs ys : List X) → length xs ≡ n → take n (xs ++ ys) ≡ xs
full zero [] ys is = refl
full zero (x ∷ xs) ys is = absurd (omega (arith, is))
full (suc n) [] ys is = absurd (omega (arith, is))
full (suc n) (x ∷ xs) ys is = rw (full n xs ys (omega (arith, is))) refl
