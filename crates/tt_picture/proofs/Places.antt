-- The places of a line, one more at a time.
use Rattle.std.proofs.Common.{◌≡◌, ℕ, ◌+◌, ◌<◌, List, [], ◌∷◌, ◌++◌, length, drop, get_or, Result, Ok, Err, suc, refl, ap, append_assoc, add-one, drop-cons}
use Rattle.std.specs.Prelude.{IsOkAnd}
use Rattle.tt_core.specs.Outcomes.{◌>>=◌, each, after_each}

pub ok_and : {A E : Type 0} (r : Result A E) (P : A → Type 0) → IsOkAnd r P → (x : A) × (r ≡ Ok x) × P x
ok_and (Ok x) P holds = (x, refl, holds)
ok_and (Err e) P holds = absurd holds

behind : {B E : Type 0} (r : Result (List B) E) (before : List B) (y : B) → (r >>= λ ys. Ok ((before ++ y ∷ []) ++ ys))
    ≡ ((r >>= λ ys. Ok (y ∷ ys)) >>= λ ys. Ok (before ++ ys))
behind (Ok ys) before y = ap Ok (append_assoc before (y ∷ []) ys)
behind (Err e) before y = refl

-- the result of place i comes after the others
pub one_more_made : {A B E : Type 0} (f : A → Result B E) (xs : List A) (i : ℕ) (d : A) (before : List B) (y : B)
    → i < length xs → f (get_or xs i d) ≡ Ok y → after_each f (drop (i + 1) xs) (before ++ y ∷ []) ≡ after_each f
    (drop i xs) before
one_more_made f xs i d before y below is = rw (add-one, drop-cons xs i d below, is)
    (behind (each f (drop (suc i) xs)) before y)
