-- Pair subtables as numbers.
use Rattle.std.proofs.Common.{◌≡◌, ℕ, zero, suc, ◌+◌, ◌*◌, ◌/◌, ◌%◌, ◌<◌, ◌≤◌, List, [], ◌∷◌, ◌++◌, length, map, take, drop, slice_index_or, refl, ap, ap₂, arith}
use native.Mathlib.Numerals.{unary_clauses}
use Rattle.tt_kern.specs.declared.pairs.list.PairSubtable.{PairSubtable}
use Rattle.tt_kern.specs.Listed.{IsNear, code_of, subtable_of}

-- a subtable's number is that of no other
pub decoded : (p : PairSubtable) → IsNear p → subtable_of (code_of p) ≡ p
decoded p near =
    let below : p.at < 8589934592 = near.at in
    let lookup : (8589934592 * p.lookup + p.at) / 8589934592 ≡ p.lookup = omega (arith, below) in
    let at : (8589934592 * p.lookup + p.at) % 8589934592 ≡ p.at = omega (arith, below) in
    ap₂ (λ (l a : ℕ). record { lookup = l; at = a }) lookup at

pub one-more : {X Y : Type 0} (f : X → Y) (xs : List X) (x : X) → map f (xs ++ x ∷ []) ≡ map f xs ++ f x ∷ []
one-more f [] x = refl
one-more f (y ∷ xs) x = ap (λ zs. f y ∷ zs) (one-more f xs x)

-- the first of those from a place on
pub next : {Y : Type 0} (f : ℕ → Y) (xs : List ℕ) (i k : ℕ) → i < k → k ≤ length xs
    → drop i (map f (take k xs)) ≡ f (slice_index_or xs i 0) ∷ drop (i + 1) (map f (take k xs))
next f [] i k below within = absurd (omega (arith, below, within))
next f (x ∷ xs) i zero below within = absurd (omega (arith, below))
next f (x ∷ xs) zero (suc k) below within = refl
next f (x ∷ xs) (suc i) (suc k) below within =
    let rest = simp unary_clauses at (next f xs i k (omega (arith, below)) (omega (arith, within))) in
    simp unary_clauses rest
