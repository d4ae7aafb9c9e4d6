-- A line whose advances become kerned steps, glyph by glyph.
use Rattle.std.proofs.Common.{◌≡◌, ◌∙◌, refl, sym, ap, ℕ, zero, suc, ◌+◌, ◌<◌, ◌≤◌, ℤ, List, [], ◌∷◌, ◌++◌, drop, get_or, length, map, set, take, arith}
use Rattle.std.proofs.lemmas.List.{append-nil, append_assoc, drop_all, drop_at, drop_more, get_or-map, get_or_at, length-map, length-take-le, length_push, set_at, take_all, take_more}
use Rattle.tt_metrics.specs.Metrics.{Metrics}
use Rattle.tt_line.specs.Steps.{kerning_before, stepped}
use Rattle.tt_line.proofs.Stepped.{length-stepped, stepped_at}

-- the glyphs of a line
abbrev pub numbers : List (ℕ × ℕ) → List ℕ
numbers ps = map (λ (p : ℕ × ℕ). p.0) ps

pub drop-numbers : (n : ℕ) (ps : List (ℕ × ℕ)) → drop n (numbers ps) ≡ map (λ (p : ℕ × ℕ). p.0) (drop n ps)
drop-numbers zero ps = refl
drop-numbers (suc n) [] = refl
drop-numbers (suc n) (p ∷ ps) = drop-numbers n ps

-- the first glyphs have their steps, and the others their advances
pub partly : Metrics → (ℕ → ℤ → ℕ) → ℕ → List (ℕ × ℕ) → List (ℕ × ℕ)
partly m step i ps = take i (stepped m step (numbers ps)) ++ drop i ps

pub at_start : (m : Metrics) (step : ℕ → ℤ → ℕ) (ps : List (ℕ × ℕ)) → partly m step 0 ps ≡ ps
unfolding partly
at_start m step ps = refl

pub at_end : (m : Metrics) (step : ℕ → ℤ → ℕ) (i : ℕ) (ps : List (ℕ × ℕ)) → length ps ≤ i → partly m step i ps ≡ stepped m step (numbers ps)
unfolding partly
at_end m step i ps over =
    let all = stepped m step (numbers ps) in
    let many = length-stepped m step (numbers ps) in
    let count = length-map ps (λ (p : ℕ × ℕ). p.0) in
    rw (take_all i all (omega (arith, many, count, over)), drop_all i ps over, append-nil all) refl

front_length : (m : Metrics) (step : ℕ → ℤ → ℕ) (i : ℕ) (ps : List (ℕ × ℕ)) → i ≤ length ps
    → length (take i (stepped m step (numbers ps))) ≡ i
front_length m step i ps within =
    let many = length-stepped m step (numbers ps) in
    let all = length-map ps (λ (p : ℕ × ℕ). p.0) in
    length-take-le i (stepped m step (numbers ps)) (omega (arith, many, all, within))

-- a glyph that has no step yet is unchanged, and so are those after it
pub not_yet : (m : Metrics) (step : ℕ → ℤ → ℕ) (i : ℕ) (ps : List (ℕ × ℕ)) → i < length ps
    → get_or (partly m step i ps) i (0, 0) ≡ get_or ps i (0, 0)
unfolding partly
not_yet m step i ps within =
    let front = take i (stepped m step (numbers ps)) in
    rw (drop_more ps i (0, 0) within)
    (get_or_at front (get_or ps i (0, 0)) (drop (i + 1) ps) (0, 0) i (front_length m step i ps (omega (arith, within))))

pub not_after : (m : Metrics) (step : ℕ → ℤ → ℕ) (i : ℕ) (ps : List (ℕ × ℕ)) → i < length ps
    → drop (i + 1) (partly m step i ps) ≡ drop (i + 1) ps
unfolding partly
not_after m step i ps within =
    let front = take i (stepped m step (numbers ps)) in
    let g = get_or ps i (0, 0) in
    let rest = drop (i + 1) ps in
    let split : front ++ g ∷ rest ≡ (front ++ g ∷ []) ++ rest = sym (append_assoc front (g ∷ []) rest) in
    let first = front_length m step i ps (omega (arith, within)) in
    let long : length (front ++ g ∷ []) ≡ i + 1 = length_push front g ∙ ap (λ (n : ℕ). n + 1) first in
    ap (λ (xs : List (ℕ × ℕ)). drop (i + 1) (front ++ xs)) (drop_more ps i (0, 0) within) ∙ ap (λ (xs : List (ℕ × ℕ)). drop (i + 1) xs) split
    ∙ drop_at (front ++ g ∷ []) rest (i + 1) long

-- the step of a glyph
unfoldable pub step_here : Metrics → (ℕ → ℤ → ℕ) → ℕ → List (ℕ × ℕ) → ℕ
step_here m step i ps =
    step (get_or ps i (0, 0)).0 (kerning_before m (get_or ps i (0, 0)).0 (map (λ (p : ℕ × ℕ). p.0) (drop (i + 1) ps)))

pub one_kerned : (m : Metrics) (step : ℕ → ℤ → ℕ) (i : ℕ) (ps : List (ℕ × ℕ)) → i < length ps
    → set (partly m step i ps) i ((get_or ps i (0, 0)).0, step_here m step i ps) ≡ partly m step (i + 1) ps
unfolding partly step_here
one_kerned m step i ps within =
    let all = stepped m step (numbers ps) in
    let front = take i all in
    let g = get_or ps i (0, 0) in
    let rest = drop (i + 1) ps in
    let new : ℕ × ℕ = (g.0, step_here m step i ps) in
    let many = length-stepped m step (numbers ps) in
    let count = length-map ps (λ (p : ℕ × ℕ). p.0) in
    let number : get_or (numbers ps) i 0 ≡ g.0 = get_or-map (λ (p : ℕ × ℕ). p.0) ps i (0, 0) 0 within in
    let there : get_or all i (0, 0) ≡ new = stepped_at m step (numbers ps) i (omega (arith, count, within)) ∙ rw (number, drop-numbers (i + 1) ps) refl in
    let here : set (front ++ drop i ps) i new ≡ front ++ new ∷ rest = ap (λ (xs : List (ℕ × ℕ)). set (front ++ xs) i new) (drop_more ps i (0, 0) within)
    ∙ set_at front g rest new i (front_length m step i ps (omega (arith, within))) in
    here ∙ sym (append_assoc front (new ∷ []) rest)
    ∙ ap (λ (xs : List (ℕ × ℕ)). xs ++ rest) (ap (λ (p : ℕ × ℕ). front ++ p ∷ []) (sym there) ∙ sym (take_more all i (0, 0) (omega (arith, many, count, within))))
