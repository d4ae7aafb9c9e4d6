-- A pass by moved marks adds the pixels moved as far.
use Rattle.std.proofs.Common.{◌≡◌, refl, ◌∙◌, ap, ap₂, ◌+◌, Bool, true, false, not, ◌&&◌, ◌||◌, nat_le, if◌then◌else◌, List, [], ◌∷◌, filter, inl, inr, arith}
use Rattle.std.proofs.lemmas.Bool.{cases_Bool}
use Rattle.std.specs.Prelude.{ℤ, pos, ◌+ℤ◌, ◌-ℤ◌, ◌*ℤ◌, int_le, int_lt, map, Option, Some, None}
use Rattle.std.specs.Int.{int_max, int_min}
use Rattle.std.specs.Option.{option_map}
use Rattle.std.proofs.lemmas.Int.{ints}
use Rattle.tt_scan_edges.specs.declared.edge.Edge.{Edge}
use Rattle.tt_scan_gaps.specs.Crossings.{gap_at, line_from}
use Rattle.tt_scan_gaps.specs.Boxes.{columns_between, columns_of, greatest_x, least_x}
use Rattle.tt_scan_gaps.specs.Gaps.{adds, asked, asked_by, boxed, gap_marks, in_gap, is_added, is_asked, is_free, leans_right, least_place, pixel_of, some_asks}
use Rattle.tt_scan_dropouts.specs.Laws.{moved}
use Rattle.tt_scan_gaps.specs.declared.mark.Columns.{Columns}
use Rattle.tt_scan_gaps.specs.declared.mark.Mark.{Mark}
use Rattle.tt_scan_gaps.specs.declared.mark.Rules.{Rules}
use Rattle.tt_scan_gaps.proofs.GivesWay.{gives_moved}
use Rattle.tt_scan_dropouts.proofs.MovedLines.{gap_moved, less_moved, line_from_moved}
use Rattle.tt_scan_dropouts.proofs.MovedMarks.{equal_moved, mark_moved}

-- the columns of a box

abbrev pub columns_moved : ℤ → Columns → Columns
columns_moved k b = record { first = b.first +ℤ k; last = b.last +ℤ k }

pub up_to_moved : (a b d : ℤ) → int_le (a +ℤ d) (b +ℤ d) ≡ int_le a b
up_to_moved a b d = grind (arith, ints)

middle_moved : (first low high k : ℤ)
    → int_le (pos 16384 *ℤ (first +ℤ k)) ((low +ℤ pos 8192 *ℤ k) +ℤ (high +ℤ pos 8192 *ℤ k))
    ≡ int_le (pos 16384 *ℤ first) (low +ℤ high)
middle_moved first low high k =
    let twice : pos 16384 *ℤ (first +ℤ k) ≡ pos 16384 *ℤ first +ℤ pos 16384 *ℤ k = omega (arith, ints) in
    let both : (low +ℤ pos 8192 *ℤ k) +ℤ (high +ℤ pos 8192 *ℤ k)
    ≡ (low +ℤ high) +ℤ pos 16384 *ℤ k = omega (arith, ints) in
    ap₂ int_le twice both ∙ up_to_moved (pos 16384 *ℤ first) (low +ℤ high) (pos 16384 *ℤ k)

-- the columns of a box, by its two tests
abbrev columns_by : Bool → Bool → ℤ → ℤ → Columns
columns_by some right first last =
    if some then record { first = first; last = last }
    else (if right then record { first = first; last = first } else record { first = last; last = last })

by_tests : (some right : Bool) (first last k : ℤ)
    → columns_by some right (first +ℤ k) (last +ℤ k) ≡ columns_moved k (columns_by some right first last)
by_tests true right first last k = refl
by_tests false true first last k = refl
by_tests false false first last k = refl

pub between_moved : (k low high : ℤ)
    → columns_between (low +ℤ pos 8192 *ℤ k) (high +ℤ pos 8192 *ℤ k) ≡ columns_moved k (columns_between low high)
between_moved k low high =
    rw (
      line_from_moved low k,
      gap_moved high k,
      up_to_moved (line_from low) (gap_at high) k,
      middle_moved (line_from low) low high k,
    ) (by_tests (int_le (line_from low) (gap_at high)) (int_le (pos 16384 *ℤ line_from low) (low +ℤ high))
    (line_from low)
    (gap_at high) k)

min_moved : (a b d : ℤ) → int_min (a +ℤ d) (b +ℤ d) ≡ int_min a b +ℤ d
min_moved a b d = grind (arith, ints)

max_moved : (a b d : ℤ) → int_max (a +ℤ d) (b +ℤ d) ≡ int_max a b +ℤ d
max_moved a b d = grind (arith, ints)

pub least_x_moved : (k m x : ℤ) (es : List Edge)
    → least_x (x +ℤ pos 8192 *ℤ k) (map (moved k m) es) ≡ least_x x es +ℤ pos 8192 *ℤ k
least_x_moved k m x [] = refl
least_x_moved k m x (e ∷ es) =
    ap (λ z. least_x z (map (moved k m) es)) (ap (int_min (x +ℤ pos 8192 *ℤ k)) (min_moved e.ax e.bx (pos 8192 *ℤ k))
    ∙ min_moved x (int_min e.ax e.bx) (pos 8192 *ℤ k))
    ∙ least_x_moved k m (int_min x (int_min e.ax e.bx)) es

pub greatest_x_moved : (k m x : ℤ) (es : List Edge)
    → greatest_x (x +ℤ pos 8192 *ℤ k) (map (moved k m) es) ≡ greatest_x x es +ℤ pos 8192 *ℤ k
greatest_x_moved k m x [] = refl
greatest_x_moved k m x (e ∷ es) =
    ap (λ z. greatest_x z (map (moved k m) es)) (ap (int_max (x +ℤ pos 8192 *ℤ k)) (max_moved e.ax e.bx (pos 8192 *ℤ k))
    ∙ max_moved x (int_max e.ax e.bx) (pos 8192 *ℤ k))
    ∙ greatest_x_moved k m (int_max x (int_max e.ax e.bx)) es

pub box_moved : (k m : ℤ) (e : Edge) (es : List Edge)
    → columns_of (map (moved k m) (e ∷ es)) ≡ columns_moved k (columns_of (e ∷ es))
box_moved k m e es =
    ap₂ columns_between (least_x_moved k m e.ax (e ∷ es)) (greatest_x_moved k m e.ax (e ∷ es))
    ∙ between_moved k (least_x e.ax (e ∷ es)) (greatest_x e.ax (e ∷ es))

-- the marks of a gap

filter_square : {A B : Type 0} (p : A → Bool) (g : A → B) (q : B → Bool) (xs : List A) → ((x : A) → q (g x) ≡ p x)
    → filter q (map g xs) ≡ map g (filter p xs)
filter_square p g q [] same = refl
filter_square p g q (x ∷ xs) same =
    let rest = filter_square p g q xs same in
    elim (cases_Bool (p x)) [
      | inl here ↦ rw (same x, here, rest) refl
      | inr out ↦ rw (same x, out, rest) refl
    ]

gap_marks_moved : (k m : ℤ) (ms : List Mark) (j c : ℤ)
    → gap_marks (map (mark_moved k m) ms) (j +ℤ m) (c +ℤ k) ≡ map (mark_moved k m) (gap_marks ms j c)
gap_marks_moved k m ms j c = filter_square (in_gap j c) (mark_moved k m) (in_gap (j +ℤ m) (c +ℤ k)) ms
    (λ mark. ap₂ (λ a b. a && b) (equal_moved mark.at.line j m) (equal_moved mark.at.gap c k))

pub asks_kept : (k m : ℤ) (ms : List Mark) → some_asks (map (mark_moved k m) ms) ≡ some_asks ms
asks_kept k m [] = refl
asks_kept k m (mark ∷ ms) = ap (λ b. mark.asks || b) (asks_kept k m ms)

least_kept : (k m : ℤ) (up : Bool) (ms : List Mark) → least_place up (map (mark_moved k m) ms) ≡ least_place up ms
least_kept k m up [] = refl
least_kept k m up (mark ∷ ms) = rw (least_kept k m up ms) refl

leaning_kept : (k m : ℤ) (ms : List Mark) → leans_right (map (mark_moved k m) ms) ≡ leans_right ms
leaning_kept k m ms = ap₂ (λ a b. nat_le 8320 (a + b)) (least_kept k m true ms) (least_kept k m false ms)

-- the pixel of a gap

next_moved : (c k : ℤ) → (c +ℤ k) +ℤ pos 1 ≡ (c +ℤ pos 1) +ℤ k
next_moved c k = omega (arith, ints)

last_moved : (c k : ℤ) → (c +ℤ k) -ℤ pos 1 ≡ (c -ℤ pos 1) +ℤ k
last_moved c k = omega (arith, ints)

boxed_by : (left right : Bool) (c p k : ℤ) → (if left then (c +ℤ k) +ℤ pos 1 else (if right then c +ℤ k else p +ℤ k))
    ≡ (if left then c +ℤ pos 1 else (if right then c else p)) +ℤ k
boxed_by true right c p k = next_moved c k
boxed_by false true c p k = refl
boxed_by false false c p k = refl

boxed_moved : (k : ℤ) (b : Columns) (c p : ℤ) → boxed (columns_moved k b) (c +ℤ k) (p +ℤ k) ≡ boxed b c p +ℤ k
boxed_moved k b c p =
    rw (less_moved p b.first k, less_moved b.last p k) (boxed_by (int_lt p b.first) (int_lt b.last p) c p k)

right_by : (right : Bool) (c k : ℤ)
    → (if right then (c +ℤ k) +ℤ pos 1 else c +ℤ k) ≡ (if right then c +ℤ pos 1 else c) +ℤ k
right_by true c k = next_moved c k
right_by false c k = refl

pixel_moved : (k m : ℤ) (rules : Rules) (b : Columns) (c : ℤ) (ms : List Mark)
    → pixel_of rules (columns_moved k b) (c +ℤ k) (map (mark_moved k m) ms) ≡ pixel_of rules b c ms +ℤ k
pixel_moved k m rules b c ms =
    ap (λ right. boxed (columns_moved k b) (c +ℤ k) (if rules.smart && right then (c +ℤ k) +ℤ pos 1 else c +ℤ k))
    (leaning_kept k m ms)
    ∙ ap (boxed (columns_moved k b) (c +ℤ k)) (right_by (rules.smart && leans_right ms) c k)
    ∙ boxed_moved k b c (if rules.smart && leans_right ms then c +ℤ pos 1 else c)

-- a pass, where the black pixels are moved too

abbrev pub IsMoved : ℤ → ℤ → (ℤ → ℤ → Bool) → (ℤ → ℤ → Bool) → Type 0
IsMoved k m black there = (c j : ℤ) → there (c +ℤ k) (j +ℤ m) ≡ black c j

abbrev wish_moved : ℤ → Option ℤ → Option ℤ
wish_moved k o = option_map (λ p. p +ℤ k) o

free_kept : (k m : ℤ) (black there : ℤ → ℤ → Bool) → IsMoved k m black there → (c j : ℤ)
    → is_free there (c +ℤ k) (j +ℤ m) ≡ is_free black c j
free_kept k m black there same c j =
    ap₂ (λ a b. not a && not b) (same c j) (ap (λ d. there d (j +ℤ m)) (next_moved c k) ∙ same (c +ℤ pos 1) j)

wish_by : (asks : Bool) (p k : ℤ)
    → (if asks then Some (p +ℤ k) else None) ≡ wish_moved k (if asks then Some p else None)
wish_by true p k = refl
wish_by false p k = refl

asked_by_moved : (k m : ℤ) (black there : ℤ → ℤ → Bool) → IsMoved k m black there
    → (rules : Rules) (b : Columns) (j c : ℤ) (here : List Mark)
    → asked_by rules (columns_moved k b) there (j +ℤ m) (c +ℤ k) (map (mark_moved k m) here)
    ≡ wish_moved k (asked_by rules b black j c here)
asked_by_moved k m black there same rules b j c here =
    rw (free_kept k m black there same c j, asks_kept k m here, pixel_moved k m rules b c here)
    (wish_by (is_free black c j && some_asks here) (pixel_of rules b c here) k)

asked_moved : (k m : ℤ) (black there : ℤ → ℤ → Bool) → IsMoved k m black there
    → (rules : Rules) (b : Columns) (ms : List Mark) (j c : ℤ)
    → asked rules (columns_moved k b) (map (mark_moved k m) ms) there (j +ℤ m) (c +ℤ k)
    ≡ wish_moved k (asked rules b ms black j c)
asked_moved k m black there same rules b ms j c =
    ap (asked_by rules (columns_moved k b) there (j +ℤ m) (c +ℤ k)) (gap_marks_moved k m ms j c)
    ∙ asked_by_moved k m black there same rules b j c (gap_marks ms j c)

wish_kept : (k : ℤ) (o : Option ℤ) (p : ℤ) → is_asked (wish_moved k o) (p +ℤ k) ≡ is_asked o p
wish_kept k None p = refl
wish_kept k (Some q) p = equal_moved q p k

is_asked_kept : (k m : ℤ) (black there : ℤ → ℤ → Bool) → IsMoved k m black there
    → (rules : Rules) (b : Columns) (ms : List Mark) (j c p : ℤ)
    → is_asked (asked rules (columns_moved k b) (map (mark_moved k m) ms) there (j +ℤ m) (c +ℤ k)) (p +ℤ k)
    ≡ is_asked (asked rules b ms black j c) p
is_asked_kept k m black there same rules b ms j c p =
    ap (λ o. is_asked o (p +ℤ k)) (asked_moved k m black there same rules b ms j c)
    ∙ wish_kept k (asked rules b ms black j c) p

adds_kept : (k m : ℤ) (black there : ℤ → ℤ → Bool) → IsMoved k m black there
    → (rules : Rules) (b : Columns) (ms : List Mark) (j c p : ℤ)
    → adds rules (columns_moved k b) (map (mark_moved k m) ms) there (j +ℤ m) (c +ℤ k) (p +ℤ k)
    ≡ adds rules b ms black j c p
adds_kept k m black there same rules b ms j c p =
    ap₂ (λ x y. x && not y) (is_asked_kept k m black there same rules b ms j c p)
    (gives_moved (asked rules b ms black j) (asked rules (columns_moved k b) (map (mark_moved k m) ms) there (j +ℤ m)) k
    (is_asked_kept k m black there same rules b ms j) c)

pub added_moved : (k m : ℤ) (black there : ℤ → ℤ → Bool) → IsMoved k m black there
    → (rules : Rules) (b : Columns) (ms : List Mark) (p j : ℤ)
    → is_added rules (columns_moved k b) (map (mark_moved k m) ms) there (p +ℤ k) (j +ℤ m)
    ≡ is_added rules b ms black p j
added_moved k m black there same rules b ms p j =
    ap₂ (λ x y. x || y) (adds_kept k m black there same rules b ms j p p)
    (ap (λ d. adds rules (columns_moved k b) (map (mark_moved k m) ms) there (j +ℤ m) d (p +ℤ k)) (last_moved p k)
    ∙ adds_kept k m black there same rules b ms j (p -ℤ pos 1) p)
