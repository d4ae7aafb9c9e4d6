-- No part of the standard: laws of pairs of a list, and of items in turn, from the last of a list.
use Rattle.std.proofs.Common.{◌≡◌, ℕ, zero, suc, ◌+◌, ◌*◌, ◌/◌, ◌<◌, ℤ, pos, List, [], ◌∷◌, length, take, get_or, reverse, Result, Ok, Err, ◌∙◌, sym, refl, arith}
use Rattle.std.proofs.lemmas.List.{reverse-append, take_more}
use Rattle.tt_core.specs.Outcomes.{◌>>=◌}
use Rattle.tt_core.specs.declared.fault.Why.{Why}
use Rattle.tt_points_loops.specs.Deltas.{pairs_of}
use Rattle.tt_points_loops.specs.Series.{one_by_one}

-- the remaining items, from the last one
taken : {N S : Type 0} (step : N → S → Result S Why) (xs : List N) (i : ℕ) (d : N) (z : S)
    → i < length xs → one_by_one step (reverse (take (i + 1) xs)) z
    ≡ (step (get_or xs i d) z >>= λ w. one_by_one step (reverse (take i xs)) w)
taken step xs i d z within =
    rw (take_more xs i d within, reverse-append (take i xs) (get_or xs i d ∷ [])) refl

-- the remaining items after a step that succeeds
pub went_on : {N S : Type 0} (step : N → S → Result S Why) (xs : List N) (left i : ℕ) (d : N)
    (z w : S) (whole : Result S Why) → left ≡ i + 1 → i < length xs
    → one_by_one step (reverse (take left xs)) z ≡ whole → step (get_or xs i d) z ≡ Ok w
    → one_by_one step (reverse (take i xs)) w ≡ whole
went_on step xs left i d z w whole next within so_far came =
    let one : one_by_one step (reverse (take (i + 1) xs)) z ≡ one_by_one step (reverse (take i xs)) w =
    taken step xs i d z within ∙ rw came refl in
    sym one ∙ rw next at so_far

-- the remaining items after a step that is refused
pub broke_off : {N S : Type 0} (step : N → S → Result S Why) (xs : List N) (left i : ℕ) (d : N)
    (z : S) (e : Why) (whole : Result S Why) → left ≡ i + 1 → i < length xs
    → one_by_one step (reverse (take left xs)) z ≡ whole → step (get_or xs i d) z ≡ Err e → whole ≡ Err e
broke_off step xs left i d z e whole next within so_far came =
    let one : one_by_one step (reverse (take (i + 1) xs)) z ≡ Err e = taken step xs i d z within ∙ rw came refl in
    sym (rw next at so_far) ∙ one

-- the count of pairs, and pair i
pub pairs_count : (xs : List ℤ) → length (pairs_of xs) ≡ length xs / 2
pairs_count [] = refl
pairs_count (a ∷ []) = refl
pairs_count (a ∷ b ∷ xs) =
    let rest = pairs_count xs in
    rw rest (omega arith)

pub pair_at : (xs : List ℤ) (i : ℕ) → 2 * i + 1 < length xs
    → get_or (pairs_of xs) i (pos 0, pos 0) ≡ (get_or xs (2 * i) (pos 0), get_or xs (2 * i + 1) (pos 0))
pair_at [] i there = absurd (omega arith)
pair_at (a ∷ []) i there = absurd (omega arith)
pair_at (a ∷ b ∷ xs) zero there = refl
pair_at (a ∷ b ∷ xs) (suc i) there =
    let even : 2 * suc i ≡ suc (suc (2 * i)) = omega arith in
    let odd : suc (suc (2 * i)) + 1 ≡ suc (suc (2 * i + 1)) = omega arith in
    rw even (rw odd (pair_at xs i (omega arith)))
