-- The marks of a moved outline: those of the outline, moved by as many lines and gaps.
use Rattle.std.proofs.Common.{◌≡◌, refl, sym, ◌∙◌, ap, ap₂, ℕ, zero, suc, ◌+◌, Bool, true, false, not, ◌||◌, List, [], ◌∷◌, ◌++◌, length, take, drop, get_or, arith}
use Rattle.std.specs.Prelude.{ℤ, pos, ◌+ℤ◌, ◌-ℤ◌, ◌*ℤ◌, unsigned_abs, max, map, reverse, Option, Some, None}
use Rattle.std.specs.List.{flat_map, range_with_len}
use Rattle.std.specs.Option.{option_map}
use Rattle.std.specs.Ordering.{int_eq}
use Rattle.std.proofs.lemmas.Int.{ints}
use Rattle.std.proofs.lemmas.List.{drop-map, take-map, length-map, map-append, reverse-append}
use Rattle.tt_scan_edges.specs.declared.edge.Edge.{Edge}
use Rattle.tt_scan_gaps.specs.Crossings.{centre, crossings, touches}
use Rattle.tt_scan_dropouts.specs.Laws.{moved, outline_moved}
use Rattle.tt_scan_gaps.specs.Walk.{contour_marks, edge_marks, is_of_stub, is_stub, is_tip, mark_of, marks, marks_of_step, others, step_marks, steps_of, walk, walk_marks, way}
use Rattle.tt_scan_gaps.specs.declared.mark.Crossing.{Crossing}
use Rattle.tt_scan_gaps.specs.declared.mark.Leg.{Leg}
use Rattle.tt_scan_gaps.specs.declared.mark.Mark.{Mark}
use Rattle.tt_scan_gaps.specs.declared.mark.Step.{Step}
use Rattle.tt_scan_gaps.specs.declared.mark.Step.TheVariants as step
use Rattle.tt_scan_dropouts.proofs.MovedLines.{apart_moved, centre_moved, crossing_moved, crossings_moved, touches_moved}

-- lists

map_square : {A B C D : Type 0} (f : A → B) (g : B → D) (h : A → C) (i : C → D) (xs : List A)
    → ((x : A) → i (h x) ≡ g (f x))
    → map i (map h xs) ≡ map g (map f xs)
map_square f g h i [] same = refl
map_square f g h i (x ∷ xs) same = ap₂ (λ y ys. y ∷ ys) (same x) (map_square f g h i xs same)

flat_by : {A B C : Type 0} (f : A → List C) (g : A → List B) (h : B → C) (xs : List A) → ((x : A) → f x ≡ map h (g x))
    → flat_map f xs ≡ map h (flat_map g xs)
flat_by f g h [] same = refl
flat_by f g h (x ∷ xs) same =
    ap₂ (λ ys zs. ys ++ zs) (same x) (flat_by f g h xs same) ∙ sym (map-append h (g x) (flat_map g xs))

flat_square : {A B C D : Type 0} (f : A → List B) (g : A → C) (h : B → D) (i : C → List D) (xs : List A)
    → ((x : A) → i (g x) ≡ map h (f x)) → flat_map i (map g xs) ≡ map h (flat_map f xs)
flat_square f g h i [] same = refl
flat_square f g h i (x ∷ xs) same =
    ap₂ (λ ys zs. ys ++ zs) (same x) (flat_square f g h i xs same) ∙ sym (map-append h (f x) (flat_map f xs))

reverse_map : {A B : Type 0} (f : A → B) (xs : List A) → reverse (map f xs) ≡ map f (reverse xs)
reverse_map f [] = refl
reverse_map f (x ∷ xs) =
    reverse-append (f x ∷ []) (map f xs) ∙ ap (λ ys. ys ++ f x ∷ []) (reverse_map f xs)
    ∙ sym (map-append f (reverse xs) (x ∷ [])) ∙ ap (map f) (sym (reverse-append (x ∷ []) xs))

-- the walk

abbrev pub mark_moved : ℤ → ℤ → Mark → Mark
mark_moved k m mark = record { at = crossing_moved k m mark.at; asks = mark.asks }

abbrev step_moved : ℤ → ℤ → Step → Step
step_moved k m (step.Cross c) = step.Cross (crossing_moved k m c)
step_moved k m (step.End h) = step.End (h +ℤ pos 8192 *ℤ m)

abbrev leg_moved : ℤ → ℤ → Leg → Leg
leg_moved k m l = record { next = crossing_moved k m l.next; far = l.far }

abbrev walk_moved : ℤ → ℤ → List Step → List Step
walk_moved k m w = map (step_moved k m) w

steps_moved : (k m : ℤ) (e : Edge) → steps_of (moved k m e) ≡ walk_moved k m (steps_of e)
steps_moved k m e =
    ap (λ cs. map step.Cross cs ++ step.End (e.by +ℤ pos 8192 *ℤ m) ∷ []) (crossings_moved k m e)
    ∙ ap (λ ss. ss ++ step.End (e.by +ℤ pos 8192 *ℤ m) ∷ [])
    (map_square step.Cross (step_moved k m) (crossing_moved k m) step.Cross (crossings e) (λ c. refl))
    ∙ sym (map-append (step_moved k m) (map step.Cross (crossings e)) (step.End e.by ∷ []))

whole_walk_moved : (k m : ℤ) (es : List Edge) → walk (map (moved k m) es) ≡ walk_moved k m (walk es)
whole_walk_moved k m es = flat_square steps_of (moved k m) (step_moved k m) steps_of es (λ e. steps_moved k m e)

others_moved : (k m : ℤ) (w : List Step) (n : ℕ) → others (walk_moved k m w) n ≡ walk_moved k m (others w n)
others_moved k m w n =
    ap₂ (λ a b. a ++ b) (drop-map (step_moved k m) (n + 1) w) (take-map (step_moved k m) n w)
    ∙ sym (map-append (step_moved k m) (drop (n + 1) w) (take n w))

way_moved : (k m y : ℤ) (far : ℕ) (ss : List Step)
    → way (y +ℤ pos 8192 *ℤ m) far (walk_moved k m ss) ≡ option_map (leg_moved k m) (way y far ss)
way_moved k m y far [] = refl
way_moved k m y far (step.End h ∷ ss) =
    rw (apart_moved h y (pos 8192 *ℤ m)) (way_moved k m y (max far (unsigned_abs (h -ℤ y))) ss)
way_moved k m y far (step.Cross c ∷ ss) = refl

way_from : (k m : ℤ) (c : Crossing) (ss : List Step)
    → way (centre (c.line +ℤ m)) 0 (walk_moved k m ss) ≡ option_map (leg_moved k m) (way (centre c.line) 0 ss)
way_from k m c ss = rw (centre_moved c.line m) (way_moved k m (centre c.line) 0 ss)

pub equal_moved : (a b d : ℤ) → int_eq (a +ℤ d) (b +ℤ d) ≡ int_eq a b
equal_moved a b d = grind (arith, ints)

tip_kept : (k m : ℤ) (c d : Crossing) → is_tip (crossing_moved k m c) (crossing_moved k m d) ≡ is_tip c d
tip_kept k m c d = rw (equal_moved c.line d.line m, equal_moved c.gap d.gap k) refl

stub_kept : (k m : ℤ) (c : Crossing) (o : Option Leg)
    → is_stub (crossing_moved k m c) (option_map (leg_moved k m) o) ≡ is_stub c o
stub_kept k m c None = refl
stub_kept k m c (Some l) = rw (tip_kept k m c l.next) refl

of_stub_kept : (k m : ℤ) (w : List Step) (n : ℕ) (c : Crossing)
    → is_of_stub (walk_moved k m w) n (crossing_moved k m c) ≡ is_of_stub w n c
of_stub_kept k m w n c =
    ap₂ (λ a b. is_stub (crossing_moved k m c) a || is_stub (crossing_moved k m c) b)
    (ap (way (centre (c.line +ℤ m)) 0) (others_moved k m w n) ∙ way_from k m c (others w n))
    (ap (λ ss. way (centre (c.line +ℤ m)) 0 (reverse ss)) (others_moved k m w n)
    ∙ ap (way (centre (c.line +ℤ m)) 0) (reverse_map (step_moved k m) (others w n))
    ∙ way_from k m c (reverse (others w n)))
    ∙ ap₂ (λ a b. a || b) (stub_kept k m c (way (centre c.line) 0 (others w n)))
    (stub_kept k m c (way (centre c.line) 0 (reverse (others w n))))

-- marks

of_step_moved : (k m : ℤ) (w : List Step) (n : ℕ) (s : Step)
    → marks_of_step (walk_moved k m w) n (step_moved k m s) ≡ map (mark_moved k m) (marks_of_step w n s)
of_step_moved k m w n (step.End h) = refl
of_step_moved k m w n (step.Cross c) = ap (λ b. mark_of (not b) (crossing_moved k m c) ∷ []) (of_stub_kept k m w n c)

at_step_moved : (k m : ℤ) (w : List Step) (n : ℕ) (ss : List Step) (i : ℕ)
    → marks_of_step (walk_moved k m w) n (get_or (walk_moved k m ss) i (step.End (pos 0)))
    ≡ map (mark_moved k m) (marks_of_step w n (get_or ss i (step.End (pos 0))))
at_step_moved k m w n [] i = refl
at_step_moved k m w n (s ∷ ss) zero = of_step_moved k m w n s
at_step_moved k m w n (s ∷ ss) (suc i) = at_step_moved k m w n ss i

walk_marks_moved : (k m : ℤ) (w : List Step) → walk_marks (walk_moved k m w) ≡ map (mark_moved k m) (walk_marks w)
walk_marks_moved k m w =
    ap (λ n. flat_map (step_marks (walk_moved k m w)) (range_with_len 0 n)) (length-map w (step_moved k m))
    ∙ flat_by (step_marks (walk_moved k m w)) (step_marks w) (mark_moved k m) (range_with_len 0 (length w))
    (λ n. at_step_moved k m w n w n)

edge_marks_moved : (k m : ℤ) (e : Edge) → edge_marks (moved k m e) ≡ map (mark_moved k m) (edge_marks e)
edge_marks_moved k m e =
    ap₂ (λ cs ts. map (mark_of true) (cs ++ ts)) (crossings_moved k m e) (touches_moved k m e)
    ∙ ap (map (mark_of true)) (sym (map-append (crossing_moved k m) (crossings e) (touches e)))
    ∙ map_square (mark_of true) (mark_moved k m) (crossing_moved k m) (mark_of true) (crossings e ++ touches e)
    (λ c. refl)

pub contour_marks_moved : (k m : ℤ) (stubs : Bool) (es : List Edge)
    → contour_marks stubs (map (moved k m) es) ≡ map (mark_moved k m) (contour_marks stubs es)
contour_marks_moved k m true es = flat_square edge_marks (moved k m) (mark_moved k m) edge_marks es
    (λ e. edge_marks_moved k m e)
contour_marks_moved k m false es = ap walk_marks (whole_walk_moved k m es) ∙ walk_marks_moved k m (walk es)

pub marks_moved : (k m : ℤ) (stubs : Bool) (contours : List (List Edge))
    → marks stubs (outline_moved k m contours) ≡ map (mark_moved k m) (marks stubs contours)
marks_moved k m stubs contours = flat_square (contour_marks stubs) (map (moved k m)) (mark_moved k m)
    (contour_marks stubs) contours
    (λ es. contour_marks_moved k m stubs es)
