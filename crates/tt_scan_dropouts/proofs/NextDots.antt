-- The dots of an outline contour by contour.
use Rattle.std.proofs.Common.{◌≡◌, refl, sym, ◌∙◌, ap, ℕ, ◌+◌, ◌<◌, ◌≤◌, Bool, true, false, not, ◌&&◌, ◌||◌, List, drop, get_or, length, arith}
use Rattle.std.specs.Prelude.{ℤ}
use Rattle.std.specs.Ordering.{int_eq}
use Rattle.std.specs.List.{list_any, slice_range}
use Rattle.std.proofs.lemmas.Int.{ints}
use Rattle.std.proofs.lemmas.List.{drop_all, drop_more}
use Rattle.tt_scan.specs.Contours.{contours_from}
use Rattle.tt_scan_edges.specs.declared.edge.Edge.{Edge}
use Rattle.tt_scan_gaps.specs.Dots.{has_dot, has_dot_box, is_dot}

-- the contours from one on
next_any : (p : List Edge → Bool) (from : ℕ) (es : List Edge) (ends : List ℕ) (i d : ℕ) → i < length ends
    → list_any p (contours_from from es (drop i ends))
    ≡ (p (slice_range es from (get_or ends i d)) || list_any p (contours_from (get_or ends i d) es (drop (i + 1) ends)))
next_any p from es ends i d within = ap (λ r. list_any p (contours_from from es r)) (drop_more ends i d within)

pub next_dot : (stubs : Bool) (c j : ℤ) (from : ℕ) (es : List Edge) (ends : List ℕ) (i d : ℕ) → i < length ends
    → has_dot stubs (contours_from from es (drop i ends)) c j
    ≡ (is_dot stubs (slice_range es from (get_or ends i d)) c j || has_dot stubs (contours_from (get_or ends i d) es (drop (i + 1) ends)) c j)
next_dot stubs c j from es ends i d within = next_any (λ es. is_dot stubs es c j) from es ends i d within

regroup : (old inside white dot rest : Bool) → ((old || (inside && (white && dot))) || (inside && (white && rest)))
    ≡ (old || (inside && (white && (dot || rest))))
regroup true inside white dot rest = refl
regroup false true true dot rest = refl
regroup false true false dot rest = refl
regroup false false white dot rest = refl

-- one dot more
pub dots_more : (old new inside white dot rest all total : Bool) → all ≡ (dot || rest) → new ≡ (old || (inside && (white && dot)))
    → (old || (inside && (white && all))) ≡ total → (new || (inside && (white && rest))) ≡ total
dots_more old new inside white dot rest all total next is before =
    rw (is, regroup old inside white dot rest) (rw next at before)

-- no dot is left
pub no_dots_left : (stubs : Bool) (c j : ℤ) (from : ℕ) (es : List Edge) (ends : List ℕ) (i : ℕ) → length ends ≤ i
    → has_dot stubs (contours_from from es (drop i ends)) c j ≡ false
no_dots_left stubs c j from es ends i over =
    ap (λ rest. has_dot stubs (contours_from from es rest) c j) (drop_all i ends over)

none_besides : (found inside white : Bool) → found ≡ (found || (inside && (white && false)))
none_besides true inside white = refl
none_besides false true true = refl
none_besides false true false = refl
none_besides false false white = refl

pub all_dots : (found old inside white drawn rest all : Bool) → rest ≡ false → drawn ≡ true
    → (found || (inside && (white && rest))) ≡ (old || (inside && (white && all)))
    → found ≡ (old || (inside && (drawn && (white && all))))
all_dots found old inside white drawn rest all none are is =
    rw are (none_besides found inside white ∙ rw none at is)

pub none_more : (from : ℕ) (es : List Edge) (ends : List ℕ) (i d : ℕ) → i < length ends
    → has_dot_box (slice_range es from (get_or ends i d)) ≡ false
    → list_any has_dot_box (contours_from (get_or ends i d) es (drop (i + 1) ends)) ≡ false
    → list_any has_dot_box (contours_from from es (drop i ends)) ≡ false
none_more from es ends i d within here rest = next_any has_dot_box from es ends i d within ∙ rw (here, rest) refl

-- the pixel of one dot: its colour is known

pub twice_white : (b : Bool) → (not b && not b) ≡ true → b ≡ false
twice_white true is = absurd cc
twice_white false is = refl

pub twice_black : (b : Bool) → (not b && not b) ≡ false → b ≡ true
twice_black true is = refl
twice_black false is = absurd cc

blank : (old inside : Bool) → old ≡ (old || (inside && false))
blank true inside = refl
blank false true = refl
blank false false = refl

none_here : (a b : Bool) → (not a && false) ≡ (not b && false)
none_here true true = refl
none_here true false = refl
none_here false true = refl
none_here false false = refl

colour_there : (black : ℤ → ℤ → Bool) (p q c j : ℤ) (colour here : Bool) → (int_eq p c && int_eq q j) ≡ here → black p q ≡ colour
    → (not (black c j) && here) ≡ (not colour && here)
colour_there black p q c j colour true is known =
    let column : p ≡ c = grind (arith, ints, is) in
    let row : q ≡ j = grind (arith, ints, is) in
    rw (column, row) at (ap (λ b. not b && true) known)
colour_there black p q c j colour false is known = none_here (black c j) colour

pub white_dot : (black : ℤ → ℤ → Bool) (p q c j : ℤ) (old new inside dot : Bool) → black p q ≡ false
    → dot ≡ (int_eq p c && int_eq q j) → new ≡ (old || (inside && (int_eq p c && int_eq q j)))
    → new ≡ (old || (inside && (not (black c j) && dot)))
white_dot black p q c j old new inside dot white at is =
    is ∙ ap (λ b. old || (inside && b))
    (sym (ap (λ b. not (black c j) && b) at ∙ colour_there black p q c j false (int_eq p c && int_eq q j) refl white))

pub black_dot : (black : ℤ → ℤ → Bool) (p q c j : ℤ) (old inside dot : Bool) → black p q ≡ true
    → dot ≡ (int_eq p c && int_eq q j) → old ≡ (old || (inside && (not (black c j) && dot)))
black_dot black p q c j old inside dot known at =
    blank old inside ∙ ap (λ b. old || (inside && b))
    (sym (ap (λ b. not (black c j) && b) at ∙ colour_there black p q c j true (int_eq p c && int_eq q j) refl known))

pub no_dot : (old inside black dot : Bool) → dot ≡ false → old ≡ (old || (inside && (not black && dot)))
no_dot old inside black dot none =
    blank old inside ∙ ap (λ b. old || (inside && b)) (none_here true black ∙ ap (λ b. not black && b) (sym none))
