-- Edges moved by whole pixels, or with x and y exchanged, are joined alike.
use Rattle.std.proofs.Common.{◌≡◌, ◌∙◌, refl, ap, ap₂, ◌&&◌, not, List, [], ◌∷◌, map, inl, inr, arith}
use Rattle.std.specs.Prelude.{ℤ, pos, ◌+ℤ◌, ◌-ℤ◌, ◌*ℤ◌}
use Rattle.std.specs.Int.{int_rem_euclid}
use Rattle.std.specs.Ordering.{int_eq}
use Rattle.std.proofs.lemmas.Bool.{cases_Bool}
use Rattle.std.proofs.lemmas.Int.{ints}
use Rattle.tt_scan_edges.specs.declared.edge.Edge.{Edge}
use Rattle.tt_scan_edges.specs.Joined.{join, joined, joined_from, joins, lies_on_line, line_below, meets_none}
use Rattle.tt_scan_edges.specs.Winding.{is_between, moved_edge}
use Rattle.tt_scan_edges.proofs.Joins.{parts, rest_high, rest_low}
use Rattle.tt_scan_edges.proofs.Ranges.{and_turned}

-- a change of each edge that keeps which are joined, and joints
mapped_from : (E : Edge → Edge) → ((e f : Edge) → joins (E e) (E f) ≡ joins e f) → ((e f : Edge) → join (E e) (E f) ≡ E (join e f))
    → (e : Edge) (fs : List Edge) → joined_from (E e) (map E fs) ≡ map E (joined_from e fs)
mapped_from E same joint e [] = refl
mapped_from E same joint e (f ∷ fs) = elim (cases_Bool (joins e f)) [
  | inl is ↦ rw (same e f, is, joint e f) (mapped_from E same joint (join e f) fs)
  | inr other ↦ rw (same e f, other) (ap (λ es. E e ∷ es) (mapped_from E same joint f fs))
]

joined_mapped : (E : Edge → Edge) → ((e f : Edge) → joins (E e) (E f) ≡ joins e f) → ((e f : Edge) → join (E e) (E f) ≡ E (join e f))
    → (es : List Edge) → joined (map E es) ≡ map E (joined es)
joined_mapped E same joint [] = refl
joined_mapped E same joint (e ∷ es) = mapped_from E same joint e es

-- moved by whole pixels
below_moved : (v k : ℤ) → line_below (v +ℤ pos 8192 *ℤ k) ≡ line_below v +ℤ k
below_moved v k =
    let n = v -ℤ pos 4096 in
    let m = (v +ℤ pos 8192 *ℤ k) -ℤ pos 4096 in
    let a = parts n in let a_low = rest_low n in let a_high = rest_high n in
    let b = parts m in let b_low = rest_low m in let b_high = rest_high m in
    omega (arith, ints, a, a_low, a_high, b, b_low, b_high)

rest_moved : (v k : ℤ) → int_rem_euclid ((v +ℤ pos 8192 *ℤ k) -ℤ pos 4096) (pos 8192) ≡ int_rem_euclid (v -ℤ pos 4096) (pos 8192)
rest_moved v k =
    let n = v -ℤ pos 4096 in
    let m = (v +ℤ pos 8192 *ℤ k) -ℤ pos 4096 in
    let a = parts n in let a_low = rest_low n in let a_high = rest_high n in
    let b = parts m in let b_low = rest_low m in let b_high = rest_high m in
    omega (arith, ints, a, a_low, a_high, b, b_low, b_high)

equal_moved : (a b d : ℤ) → int_eq (a +ℤ d) (b +ℤ d) ≡ int_eq a b
equal_moved a b d = grind (arith, ints)

on_moved : (v k : ℤ) → lies_on_line (v +ℤ pos 8192 *ℤ k) ≡ lies_on_line v
on_moved v k = ap (λ r. int_eq r (pos 0)) (rest_moved v k)

none_moved : (a b k : ℤ) → meets_none (a +ℤ pos 8192 *ℤ k) (b +ℤ pos 8192 *ℤ k) ≡ meets_none a b
none_moved a b k =
    ap₂ (λ p q. p && q)
    (ap₂ int_eq (below_moved a k) (below_moved b k) ∙ equal_moved (line_below a) (line_below b) k)
    (ap₂ (λ p q. not p && not q) (on_moved a k) (on_moved b k))

between_moved : (a b z d : ℤ) → is_between (a +ℤ d) (b +ℤ d) (z +ℤ d) ≡ is_between a b z
between_moved a b z d = grind (arith, ints)

joins_moved : (k : ℤ) (e f : Edge) → joins (moved_edge (pos 8192 *ℤ k) e) (moved_edge (pos 8192 *ℤ k) f) ≡ joins e f
joins_moved k e f =
    let d = pos 8192 *ℤ k in
    ap₂ (λ p q. p && q) (ap (λ p. p && int_eq e.by f.ay) (equal_moved e.bx f.ax d))
    (ap₂ (λ p q. p && q) (ap (λ p. p && meets_none e.ay f.by) (none_moved e.ax f.bx k))
    (ap (λ p. p && is_between e.ay f.by e.by) (between_moved e.ax f.bx e.bx d)))

pub joined_moved : (k : ℤ) (es : List Edge) → joined (map (moved_edge (pos 8192 *ℤ k)) es) ≡ map (moved_edge (pos 8192 *ℤ k)) (joined es)
joined_moved k es = joined_mapped (moved_edge (pos 8192 *ℤ k)) (joins_moved k) (λ e f. refl) es

-- with x and y exchanged
abbrev pub exchanged : Edge → Edge
exchanged e = record { ax = e.ay; ay = e.ax; bx = e.by; by = e.bx }

joins_exchanged : (e f : Edge) → joins (exchanged e) (exchanged f) ≡ joins e f
joins_exchanged e f =
    ap₂ (λ p q. p && q) (and_turned (int_eq e.by f.ay) (int_eq e.bx f.ax))
    (ap₂ (λ p q. p && q) (and_turned (meets_none e.ay f.by) (meets_none e.ax f.bx))
    (and_turned (is_between e.ay f.by e.by) (is_between e.ax f.bx e.bx)))

pub joined_exchanged : (es : List Edge) → joined (map exchanged es) ≡ map exchanged (joined es)
joined_exchanged es = joined_mapped exchanged joins_exchanged (λ e f. refl) es
