-- Entries of a list, counted from its other end.
use Rattle.std.proofs.Common.{◌≡◌, ℕ, suc, ◌+◌, ◌-◌, ◌<◌, ◌≤◌, ℤ, pos, List, [], ◌∷◌, ◌++◌, length, take, drop, get_or, reverse, ap, ◌∙◌, append_assoc, drop-cons, length-drop, arith}
use Rattle.std.specs.List.{remove}
use Rattle.std.proofs.lemmas.List.{reverse-append, length-reverse, take-append-drop}
use Rattle.std.proofs.Math.Seq.{take-append_seam, drop-append-add}

-- an entry between two parts, counted from the other end
turned : (front rest : List ℤ) (x : ℤ) → reverse (front ++ x ∷ rest) ≡ reverse rest ++ (x ∷ reverse front)
turned front rest x =
    let one : reverse (x ∷ rest) ≡ reverse rest ++ x ∷ [] = reverse-append (x ∷ []) rest in
    let two = ap (λ (l : List ℤ). l ++ reverse front) one in
    reverse-append front (x ∷ rest) ∙ two ∙ append_assoc (reverse rest) (x ∷ []) (reverse front)

without : (front rest : List ℤ) (x : ℤ) → reverse (front ++ rest)
    ≡ take (length rest) (reverse (front ++ x ∷ rest)) ++ drop (length rest + 1) (reverse (front ++ x ∷ rest))
without front rest x =
    let whole = turned front rest x in
    let len = length-reverse rest in
    let above : take (length rest) (reverse rest ++ (x ∷ reverse front)) ≡ reverse rest =
    rw (← len) (take-append_seam (reverse rest) (x ∷ reverse front)) in
    let below : drop (length rest + 1) (reverse rest ++ (x ∷ reverse front)) ≡ reverse front =
    rw (← len) (drop-append-add (reverse rest) (x ∷ reverse front) 1) in
    rw (whole, above, below) (reverse-append front rest)

pub removed : (xs : List ℤ) (n k : ℕ) → n ≡ length xs → 0 < k → k ≤ n
    → reverse (remove xs (n - k)) ≡ take (k - 1) (reverse xs) ++ drop k (reverse xs)
removed xs n k many low high =
    let at = n - k in
    let x = get_or xs at (pos 0) in
    let within : at < length xs = omega arith in
    let split : take at xs ++ x ∷ drop (suc at) xs ≡ xs =
    rw (← drop-cons xs at (pos 0) within) (take-append-drop at xs) in
    let rest : length (drop (suc at) xs) ≡ k - 1 = omega (arith, length-drop (suc at) xs) in
    let all = without (take at xs) (drop (suc at) xs) x in
    let one : k - 1 + 1 ≡ k = omega arith in
    rw (split, rest, one) at all
