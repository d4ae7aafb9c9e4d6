-- Glyphs at their pens, from a start on.
use Rattle.std.proofs.Common.{◌≡◌, ◌∙◌, sym, ℕ, ◌+◌, ◌<◌, List, [], ◌∷◌, ◌++◌, append_assoc, drop, get_or, length, map, set, sum, take, arith}
use Rattle.std.proofs.lemmas.List.{drop_more, get_or_at, length-map, length-take-le, map_push, set_at, take_more}
use Rattle.tt_line.proofs.Pens.{at_pens, length-of_pairs, pens_more}

abbrev pub from_start : ℕ → List (ℕ × ℕ) → List (ℕ × ℕ)
from_start start gs = map (λ (g : ℕ × ℕ). (g.0, g.1 + start)) gs

length-pairs : (gs : List (ℕ × ℕ)) → length (map (λ (p : ℕ × ℕ). p.0) gs) ≡ length (map (λ (p : ℕ × ℕ). p.1) gs)
length-pairs gs = length-map gs (λ (p : ℕ × ℕ). p.0) ∙ sym (length-map gs (λ (p : ℕ × ℕ). p.1))

at_pens_more : (gs : List (ℕ × ℕ)) (g : ℕ × ℕ)
    → at_pens (gs ++ g ∷ []) ≡ at_pens gs ++ (g.0, sum (map (λ (p : ℕ × ℕ). p.1) gs)) ∷ []
at_pens_more gs g =
    rw (map_push (λ (p : ℕ × ℕ). p.0) gs g, map_push (λ (p : ℕ × ℕ). p.1) gs g)
    (pens_more (map (λ (p : ℕ × ℕ). p.0) gs) (map (λ (p : ℕ × ℕ). p.1) gs) g.0 g.1 (length-pairs gs))

long_front : (start : ℕ) (gs : List (ℕ × ℕ)) (i : ℕ) → i < length gs → length (from_start start (at_pens (take i gs))) ≡ i
long_front start gs i within =
    length-map (at_pens (take i gs)) (λ (g : ℕ × ℕ). (g.0, g.1 + start)) ∙ length-of_pairs (take i gs) ∙ length-take-le i gs (omega (arith, within))

-- a step that is not read yet is unchanged
pub step_read : (start : ℕ) (gs : List (ℕ × ℕ)) (i : ℕ) → i < length gs
    → get_or (from_start start (at_pens (take i gs)) ++ drop i gs) i (0, 0) ≡ get_or gs i (0, 0)
step_read start gs i within =
    rw (drop_more gs i (0, 0) within)
    (get_or_at (from_start start (at_pens (take i gs))) (get_or gs i (0, 0)) (drop (i + 1) gs) (0, 0) i (long_front start gs i within))

-- one more glyph is put at its pen
pub one_stands : (start : ℕ) (gs : List (ℕ × ℕ)) (i : ℕ) → i < length gs
    → set (from_start start (at_pens (take i gs)) ++ drop i gs) i (
      (get_or (from_start start (at_pens (take i gs)) ++ drop i gs) i (0, 0)).0,
      sum (map (λ (p : ℕ × ℕ). p.1) (take i gs)) + start,
    )
    ≡ from_start start (at_pens (take (i + 1) gs)) ++ drop (i + 1) gs
one_stands start gs i within =
    let f : ℕ × ℕ → ℕ × ℕ = λ g. (g.0, g.1 + start) in
    let front = from_start start (at_pens (take i gs)) in
    let g = get_or gs i (0, 0) in
    let rest = drop (i + 1) gs in
    let pen = sum (map (λ (p : ℕ × ℕ). p.1) (take i gs)) in
    let here : drop i gs ≡ g ∷ rest = drop_more gs i (0, 0) within in
    let many = long_front start gs i within in
    let read : get_or (front ++ g ∷ rest) i (0, 0) ≡ g = get_or_at front g rest (0, 0) i many in
    rw (
      here,
      read,
      set_at front g rest (g.0, pen + start) i many,
      take_more gs i (0, 0) within,
      at_pens_more (take i gs) g,
      map_push f (at_pens (take i gs)) (g.0, pen),
    )
    (sym (append_assoc front (f (g.0, pen) ∷ []) rest))
