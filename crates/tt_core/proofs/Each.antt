-- Lists made element by element: which element failed, and that none failed.
use Rattle.std.proofs.Common.{◌≡◌, ℕ, zero, suc, List, [], ◌∷◌, length, Some, Result, Ok, Err, inl, inr, refl, ap}
use Rattle.std.specs.List.{slice_get}
use Rattle.tt_core.specs.Chains.{came-through, was-err}
use Rattle.tt_core.specs.Outcomes.{each}

-- an element with this fault
abbrev pub FailsAt : {A B E : Type 0} → (A → Result B E) → List A → E → Type 0
FailsAt {A = A} f xs e = (i : ℕ) × (x : A) × (slice_get xs i ≡ Some x) × (f x ≡ Err e)

pub each-failed : {A B E : Type 0} (f : A → Result B E) (xs : List A) (e : E) → each f xs ≡ Err e → FailsAt f xs e
each-failed f [] e was = absurd cc
each-failed f (x ∷ xs) e was = elim (was-err (f x) _ e was) [
  | inl here ↦ (zero, x, refl, here)
  | inr later ↦ elim (was-err (each f xs) _ e later.rest) [
    | inl rest ↦ let there = each-failed f xs e rest in (suc there.0, there.1, there.2, there.3)
    | inr whole ↦ let done = whole.rest in absurd cc
  ]
]

pub each-made : {A B E : Type 0} (f : A → Result B E) (xs : List A) (ys : List B) (i : ℕ) (x : A) → each f xs ≡ Ok ys
    → slice_get xs i ≡ Some x → (y : B) × (f x ≡ Ok y)
each-made f [] ys i x was there = absurd cc
each-made f (z ∷ xs) ys zero x was there =
    let first = came-through (f z) _ ys was in
    let same : z ≡ x = cc in
    (first.value, rw (← same) first.first)
each-made f (z ∷ xs) ys (suc i) x was there =
    let first = came-through (f z) _ ys was in
    let rest = came-through (each f xs) _ ys first.rest in
    each-made f xs rest.value i x rest.first there

pub length-each : {A B E : Type 0} (f : A → Result B E) (xs : List A) (ys : List B) → each f xs ≡ Ok ys → length ys
    ≡ length xs
length-each f [] ys was = let same : [] ≡ ys = cc in rw (← same) refl
length-each f (x ∷ xs) ys was =
    let first = came-through (f x) _ ys was in
    let rest = came-through (each f xs) _ ys first.rest in
    let same : first.value ∷ rest.value ≡ ys = let done = rest.rest in cc in
    rw (← same) (ap suc (length-each f xs rest.value rest.first))
