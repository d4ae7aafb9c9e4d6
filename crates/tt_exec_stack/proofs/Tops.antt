-- The top of a stack, in the list with its top last.
use Rattle.std.proofs.Common.{◌≡◌, ℕ, ◌-◌, ◌≤◌, ℤ, false, nat_lt, List, ◌++◌, length, take, drop, reverse, ap, ◌∙◌, sym, subst, length-drop, Ok, refl, arith}
use Rattle.std.proofs.lemmas.Bool.Decides.{nat_tests}
use Rattle.std.proofs.lemmas.List.{reverse-append, reverse-reverse, length-reverse, take-append-drop, take_all}
use Rattle.std.proofs.Math.Seq.{take-append_seam, drop-append_seam}
use Rattle.tt_exec_stack.specs.Stack.{top}

-- both parts, counted from the other end
parts : (xs : List ℤ) (m : ℕ) → reverse xs ≡ reverse (drop m xs) ++ reverse (take m xs)
parts xs m = ap reverse (sym (take-append-drop m xs)) ∙ reverse-append (take m xs) (drop m xs)

many : (xs : List ℤ) (n : ℕ) → n ≤ length xs → length (reverse (drop (length xs - n) xs)) ≡ n
many xs n within =
    let seen = length-reverse (drop (length xs - n) xs) in
    omega (arith, seen, length-drop (length xs - n) xs)

first : (xs : List ℤ) (n : ℕ) → n ≤ length xs → take n (reverse xs) ≡ reverse (drop (length xs - n) xs)
first xs n within =
    let m = length xs - n in
    let count = many xs n within in
    let seam = take-append_seam (reverse (drop m xs)) (reverse (take m xs)) in
    let cut : take n (reverse (drop m xs) ++ reverse (take m xs)) ≡ reverse (drop m xs) =
    subst (λ (k : ℕ). take k (reverse (drop m xs) ++ reverse (take m xs)) ≡ reverse (drop m xs)) count seam in
    ap (take n) (parts xs m) ∙ cut

pub rest : (xs : List ℤ) (n : ℕ) → n ≤ length xs → reverse (take (length xs - n) xs) ≡ drop n (reverse xs)
rest xs n within =
    let m = length xs - n in
    let count = many xs n within in
    let seam = drop-append_seam (reverse (drop m xs)) (reverse (take m xs)) in
    let cut : drop n (reverse (drop m xs) ++ reverse (take m xs)) ≡ reverse (take m xs) =
    subst (λ (k : ℕ). drop k (reverse (drop m xs) ++ reverse (take m xs)) ≡ reverse (take m xs)) count seam in
    sym (ap (drop n) (parts xs m) ∙ cut)

pub top_is : (xs : List ℤ) (n : ℕ) → n ≤ length xs → top n (reverse xs) ≡ Ok (drop (length xs - n) xs)
top_is xs n within =
    let enough : nat_lt (length (reverse xs)) n ≡ false = grind (arith, nat_tests, length-reverse xs) in
    let same : reverse (take n (reverse xs)) ≡ drop (length xs - n) xs =
    ap reverse (first xs n within) ∙ reverse-reverse (drop (length xs - n) xs) in
    rw (enough, same) refl

pub top_given : (xs : List ℤ) (n from : ℕ) → n ≤ length xs → from ≡ length xs - n
    → top n (reverse xs) ≡ Ok (take (length xs - from) (drop from xs))
top_given xs n from within is =
    let whole : length (drop from xs) ≤ length xs - from = omega (arith, length-drop from xs) in
    top_is xs n within ∙ ap Ok (rw (← is) (sym (take_all (length xs - from) (drop from xs) whole)))
