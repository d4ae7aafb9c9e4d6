-- Pens and their sums, character by character.
use Rattle.std.proofs.Common.{◌≡◌, ℕ, ◌+◌, ◌<◌, ◌≤◌, List, [], ◌∷◌, ◌++◌, All, length, take, map, sum, slice_index, set, drop, get_or, refl, sym, ap, ap₂, ◌∙◌, arith}
use Rattle.std.specs.List.{range_with_len}
use Rattle.std.proofs.lemmas.List.{append_assoc, drop_more, get_or-map, get_or_at, length-take-le, map_push, set_at, take_more, length_push, length-map, get_or_append_left, get_or_push, take-append-le, take_at}
use Rattle.std.proofs.lemmas.List.FromFn.{map-range_with_len_more, length-map-range_with_len, get_or-map-range_with_len, fill_by_all}
use Rattle.std.proofs.lemmas.Grind.{same_number_lists}
use Rattle.std.proofs.lemmas.List.Sums.{sum_by_push, sum_by-take-le}
use Rattle.tt_line.specs.Layout.{glyphs_at_pens}

-- one more glyph does not move the pens before it
at_pen : List ℕ → List ℕ → ℕ → ℕ × ℕ
at_pen gs ss i = (slice_index gs i, sum (take i ss))

same_before : (gs ss : List ℕ) (g s i : ℕ) → length gs ≡ length ss → i < length gs
    → at_pen (gs ++ g ∷ []) (ss ++ s ∷ []) i ≡ at_pen gs ss i
unfolding at_pen
same_before gs ss g s i alike h =
    let steps : take i (ss ++ s ∷ []) ≡ take i ss = take-append-le i ss (s ∷ []) (omega arith) in
    rw (get_or_append_left gs (g ∷ []) 0 i h, steps) refl

at_last : (gs ss : List ℕ) (g s : ℕ) → length gs ≡ length ss
    → at_pen (gs ++ g ∷ []) (ss ++ s ∷ []) (length gs) ≡ (g, sum ss)
unfolding at_pen
at_last gs ss g s alike =
    let steps : take (length gs) (ss ++ s ∷ []) ≡ ss = take_at ss (s ∷ []) (length gs) (sym alike) in
    rw (get_or_push gs g 0 (length gs) refl, steps) refl

pub pens_more : (gs ss : List ℕ) (g s : ℕ) → length gs ≡ length ss
    → glyphs_at_pens (gs ++ g ∷ []) (ss ++ s ∷ []) ≡ glyphs_at_pens gs ss ++ (g, sum ss) ∷ []
unfolding at_pen
pens_more gs ss g s alike =
    let n = length gs in
    let after = at_pen (gs ++ g ∷ []) (ss ++ s ∷ []) in
    let before : map after (range_with_len 0 n) ≡ glyphs_at_pens gs ss =
    fill_by_all (at_pen gs ss) (map after (range_with_len 0 n)) n (0, 0) (length-map-range_with_len after 0 n) (λ k h. get_or-map-range_with_len after 0 n k k (0, 0) h (omega arith) ∙ same_before gs ss g s k alike h) in
    ap (λ k. map after (range_with_len 0 k)) (length_push gs g) ∙ map-range_with_len_more after 0 n n (omega arith) ∙ ap₂ ◌++◌ before (ap (λ p. p ∷ []) (at_last gs ss g s alike))

-- no pen is past the end of the line
pub pens_by_steps : (gs ss : List ℕ) → All (λ p. p.1 ≤ sum ss) (glyphs_at_pens gs ss)
unfolding at_pen
pens_by_steps gs ss = λ k d h.
    let many = length-map-range_with_len (at_pen gs ss) 0 (length gs) in
    rw (get_or-map-range_with_len (at_pen gs ss) 0 (length gs) k k d (omega arith) (omega arith)) (sum_by-take-le (λ n. n) ss k)

-- the placed list has the given glyphs
pub length-at_pens : (gs ss : List ℕ) → length (glyphs_at_pens gs ss) ≡ length gs
unfolding at_pen
length-at_pens gs ss = length-map-range_with_len (at_pen gs ss) 0 (length gs)

pub glyphs_by_steps : (gs ss : List ℕ) → map (λ p. p.0) (glyphs_at_pens gs ss) ≡ gs
unfolding at_pen
glyphs_by_steps gs ss =
    let many : length (map (λ p. p.0) (glyphs_at_pens gs ss)) ≡ length gs = length-map (glyphs_at_pens gs ss) (λ p. p.0) ∙ length-at_pens gs ss in
    same_number_lists (map (λ p. p.0) (glyphs_at_pens gs ss)) gs many (λ i within.
    let below : i < length gs = omega arith in
    let inside : i < length (glyphs_at_pens gs ss) = let n = length-at_pens gs ss in omega arith in
    get_or-map (λ p. p.0) (glyphs_at_pens gs ss) i (0, 0) 0 inside ∙ ap (λ p. p.0) (get_or-map-range_with_len (at_pen gs ss) 0 (length gs) i i (0, 0) below (omega arith)))

-- one more unit
pub next_pen : {A : Type 0} (f : ℕ → ℕ) (g : A → ℕ) (us : List A) (u : A) (glyph pen advance : ℕ) → pen ≡ sum (map f (map g us))
    → glyph ≡ g u → advance ≡ f glyph → pen + advance ≡ sum (map f (map g (us ++ u ∷ [])))
next_pen f g us u glyph pen advance before is_glyph is_advance =
    rw (before, is_advance, is_glyph, map_push g us u, map_push f (map g us) (g u)) (sym (sum_by_push (λ n. n) (map f (map g us)) (f (g u))))

-- one more of some glyphs, each with its step, is put at its pen
abbrev pub at_pens : List (ℕ × ℕ) → List (ℕ × ℕ)
at_pens gs = glyphs_at_pens (map (λ p. p.0) gs) (map (λ p. p.1) gs)

length-pairs : (gs : List (ℕ × ℕ)) → length (map (λ (p : ℕ × ℕ). p.0) gs) ≡ length (map (λ (p : ℕ × ℕ). p.1) gs)
length-pairs gs = length-map gs (λ (p : ℕ × ℕ). p.0) ∙ sym (length-map gs (λ (p : ℕ × ℕ). p.1))

at_pens_more : (gs : List (ℕ × ℕ)) (g : ℕ × ℕ)
    → at_pens (gs ++ g ∷ []) ≡ at_pens gs ++ (g.0, sum (map (λ (p : ℕ × ℕ). p.1) gs)) ∷ []
at_pens_more gs g =
    rw (map_push (λ (p : ℕ × ℕ). p.0) gs g, map_push (λ (p : ℕ × ℕ). p.1) gs g)
    (pens_more (map (λ (p : ℕ × ℕ). p.0) gs) (map (λ (p : ℕ × ℕ). p.1) gs) g.0 g.1 (length-pairs gs))

pub one_placed : (gs : List (ℕ × ℕ)) (i : ℕ) → i < length gs
    → set (at_pens (take i gs) ++ drop i gs) i (
      (get_or (at_pens (take i gs) ++ drop i gs) i (0, 0)).0,
      sum (map (λ (p : ℕ × ℕ). p.1) (take i gs)),
    )
    ≡ at_pens (take (i + 1) gs) ++ drop (i + 1) gs
one_placed gs i within =
    let front = at_pens (take i gs) in
    let g = get_or gs i (0, 0) in
    let rest = drop (i + 1) gs in
    let pen = sum (map (λ (p : ℕ × ℕ). p.1) (take i gs)) in
    let here : drop i gs ≡ g ∷ rest = drop_more gs i (0, 0) within in
    let many : length front ≡ i = length-at_pens (map (λ (p : ℕ × ℕ). p.0) (take i gs)) (map (λ (p : ℕ × ℕ). p.1) (take i gs))
    ∙ length-map (take i gs) (λ (p : ℕ × ℕ). p.0) ∙ length-take-le i gs (omega arith) in
    let read : get_or (front ++ g ∷ rest) i (0, 0) ≡ g = get_or_at front g rest (0, 0) i many in
    rw (here, read, set_at front g rest (g.0, pen) i many, take_more gs i (0, 0) within, at_pens_more (take i gs) g)
    (sym (append_assoc front ((g.0, pen) ∷ []) rest))

-- a step that is not read yet is unchanged
pub step_read : (gs : List (ℕ × ℕ)) (i : ℕ) → i < length gs
    → get_or (at_pens (take i gs) ++ drop i gs) i (0, 0) ≡ get_or gs i (0, 0)
step_read gs i within =
    let front = at_pens (take i gs) in
    let many : length front ≡ i = length-at_pens (map (λ (p : ℕ × ℕ). p.0) (take i gs)) (map (λ (p : ℕ × ℕ). p.1) (take i gs))
    ∙ length-map (take i gs) (λ (p : ℕ × ℕ). p.0) ∙ length-take-le i gs (omega arith) in
    rw (drop_more gs i (0, 0) within)
    (get_or_at front (get_or gs i (0, 0)) (drop (i + 1) gs) (0, 0) i many)

pub length-of_pairs : (gs : List (ℕ × ℕ)) → length (at_pens gs) ≡ length gs
length-of_pairs gs = length-at_pens (map (λ (p : ℕ × ℕ). p.0) gs) (map (λ (p : ℕ × ℕ). p.1) gs) ∙ length-map gs (λ (p : ℕ × ℕ). p.0)
