-- A place is on the edges of an outline if and only if it is on an edge of a single point.
use Rattle.std.proofs.Common.{◌≡◌, ◌≢◌, ℕ, ◌<◌, Bool, true, false, ◌||◌, not, List, [], ◌∷◌, length, map, get_or, inl, inr, refl, sym, ap, ◌∙◌, arith, ℤ, pos}
use Rattle.std.specs.List.{list_any, flat_map, range_with_len}
use Rattle.std.proofs.lemmas.Bool.{or_cases, cases_lt}
use Rattle.std.proofs.lemmas.Int.{ints}
use Rattle.std.proofs.lemmas.List.Folds.{Any-from_list_any, list_any-from_Any, list_any-append, list_any_at}
use Rattle.std.proofs.lemmas.List.FromFn.{length-range_with_len, get_or-range_with_len}
use Rattle.tt_scan_edges.specs.declared.edge.Edge.{Edge}
use Rattle.tt_scan_edges.specs.Winding.{is_zero, lies_on, lies_on_one, winding}
use Rattle.tt_arc.specs.declared.point.PlacedPoint.{PlacedPoint}
use Rattle.tt_arc.specs.declared.rule.ChordRule.{ChordRule}
use Rattle.tt_arc.specs.declared.rule.ChordRule.TheVariants as rule
use Rattle.tt_arc.specs.Chords.{moved, edges_at, contour_chords, joined_by, contour_edges, contour_at, chord_edges}
use Rattle.tt_arc.specs.Laws.{IsSeen, LiesOnOutline, OnByPoints, BlackByPoints}
use Rattle.tt_scan_edges.proofs.JoinedKept.{on_alike}
use Rattle.tt_arc.proofs.Walks.{of_two, of_fewer}

as_any : (es : List Edge) (x y : ℤ) → lies_on_one es x y ≡ list_any (λ e. lies_on e x y) es
as_any [] x y = refl
as_any (e ∷ es) x y = ap (λ b. lies_on e x y || b) (as_any es x y)

any_piece : {X A : Type 0} (p : A → Bool) (f : X → List A) (xs : List X) → list_any p (flat_map f xs)
    ≡ list_any (λ x. list_any p (f x)) xs
any_piece p f [] = refl
any_piece p f (x ∷ xs) = list_any-append p (f x) (flat_map f xs) ∙ ap (λ b. list_any p (f x) || b) (any_piece p f xs)

found : (q : ℕ → Bool) (n : ℕ) → list_any q (range_with_len 0 n) ≡ true → (i : ℕ) × (i < n) × (q i ≡ true)
found q n some =
    let any = Any-from_list_any q (range_with_len 0 n) some in
    let many = length-range_with_len 0 n in
    let below : any.0 < n = omega (arith, many, any.2) in
    let at = get_or-range_with_len 0 n any.0 any.1 below in
    let is : any.1 ≡ any.0 = omega (arith, at, any.3) in
    (any.0, below, rw is at any.4)

there_is : (q : ℕ → Bool) (n i : ℕ) → i < n → q i ≡ true → list_any q (range_with_len 0 n) ≡ true
there_is q n i below is =
    let many = length-range_with_len 0 n in
    let at : get_or (range_with_len 0 n) i 0 ≡ i = get_or-range_with_len 0 n i 0 below ∙ omega arith in
    list_any_at q (range_with_len 0 n) i 0 (omega (arith, many)) (rw at is)

-- at the height of a line, joined edges lie on the places that the edges lie on
on_joined : (r : ChordRule) (es : List Edge) (x y : ℤ) → IsSeen r y → lies_on_one (joined_by r es) x y ≡ lies_on_one es x y
on_joined rule.Eight es x y seen = refl
on_joined rule.ByBend es x y seen = rw seen.1 (on_alike es x seen.0)

any_joined : (r : ChordRule) (es : List Edge) (x y : ℤ) → IsSeen r y
    → list_any (λ e. lies_on e x y) (joined_by r es) ≡ list_any (λ e. lies_on e x y) es
any_joined r es x y seen = sym (as_any (joined_by r es) x y) ∙ on_joined r es x y seen ∙ as_any es x y

found_in_contour : (r : ChordRule) (p : Edge → Bool) (ps : List PlacedPoint) → list_any p (contour_chords r ps) ≡ true → (i : ℕ) × (1 < length ps)
    × (i < length ps) × (list_any p (edges_at r ps i) ≡ true)
found_in_contour r p ps some = elim (cases_lt 1 (length ps)) [
  | inl two ↦
      let all = ap (list_any p) (of_two r ps two) in
      let there = found (λ i. list_any p (edges_at r ps i)) (length ps)
      (sym (any_piece p (edges_at r ps) (range_with_len 0 (length ps))) ∙ sym all ∙ some) in
      (there.0, two, there.1, there.2)
  | inr few ↦
      let none : list_any p (contour_chords r ps) ≡ false = ap (list_any p) (of_fewer r ps (omega arith)) in
      absurd (cc)
]

there_is_in_contour : (r : ChordRule) (p : Edge → Bool) (ps : List PlacedPoint) (i : ℕ) → 1 < length ps → i < length ps
    → list_any p (edges_at r ps i) ≡ true → list_any p (contour_chords r ps) ≡ true
there_is_in_contour r p ps i two below on =
    ap (list_any p) (of_two r ps two) ∙ any_piece p (edges_at r ps) (range_with_len 0 (length ps))
    ∙ there_is (λ i. list_any p (edges_at r ps i)) (length ps) i below on

on_some_point : (r : ChordRule) (points : List (ℤ × ℤ × Bool)) (ends : List ℕ) (dx dy x y : ℤ) → IsSeen r y
    → lies_on_one (chord_edges r points ends dx dy) x y ≡ true → LiesOnOutline r points ends dx dy x y
on_some_point r points ends dx dy x y seen on =
    let ps = map (moved dx dy) points in
    let p : Edge → Bool = λ e. lies_on e x y in
    let of : ℕ → List Edge = λ c. contour_edges r (contour_at ps ends c) in
    let some = sym (any_piece p of (range_with_len 0 (length ends))) ∙ sym (as_any (chord_edges r points ends dx dy) x y)
    ∙ on in
    let contour = found (λ c. list_any p (of c)) (length ends) some in
    let point = found_in_contour r p (contour_at ps ends contour.0)
    (sym (any_joined r (contour_chords r (contour_at ps ends contour.0)) x y seen) ∙ contour.2) in
    (contour.0, point.0, record { contour = contour.1; two = point.1; point = point.2; on = Any-from_list_any p (edges_at r (contour_at ps ends contour.0) point.0) point.3 })

of_some_point : (r : ChordRule) (points : List (ℤ × ℤ × Bool)) (ends : List ℕ) (dx dy x y : ℤ) → IsSeen r y → LiesOnOutline r points ends dx dy x y
    → lies_on_one (chord_edges r points ends dx dy) x y ≡ true
of_some_point r points ends dx dy x y seen at =
    let ps = map (moved dx dy) points in
    let p : Edge → Bool = λ e. lies_on e x y in
    let of : ℕ → List Edge = λ c. contour_edges r (contour_at ps ends c) in
    let here = list_any-from_Any p (edges_at r (contour_at ps ends at.0) at.1) at.2.on in
    let in_contour = any_joined r (contour_chords r (contour_at ps ends at.0)) x y seen
    ∙ there_is_in_contour r p (contour_at ps ends at.0) at.1 at.2.two at.2.point here in
    as_any (chord_edges r points ends dx dy) x y ∙ any_piece p of (range_with_len 0 (length ends))
    ∙ there_is (λ c. list_any p (of c)) (length ends) at.0 at.2.contour in_contour

-- a place is on an outline if and only if it is on an edge of a single point
pub lies_on_outline : OnByPoints
lies_on_outline r points ends dx dy x y seen =
    (on_some_point r points ends dx dy x y seen, of_some_point r points ends dx dy x y seen)

not_zero : (z : ℤ) → not (is_zero z) ≡ true → z ≢ pos 0
not_zero z h = λ same. absurd (grind (arith, ints))

is_not_zero : (z : ℤ) → z ≢ pos 0 → not (is_zero z) ≡ true
is_not_zero z h = grind (arith, ints)

or_left : (a b : Bool) → a ≡ true → (a || b) ≡ true
or_left true b h = refl
or_left false b h = absurd (cc)

or_right : (a b : Bool) → b ≡ true → (a || b) ≡ true
or_right true b h = refl
or_right false b h = h

-- a place is black if and only if it is on such an edge, or the edges go round it
pub black_where : BlackByPoints
black_where r points ends dx dy x y seen =
    let es = chord_edges r points ends dx dy in
    let round = not (is_zero (winding es x y)) in (
      λ black. elim (or_cases (lies_on_one es x y) round black) [
        | inl on ↦ inl (on_some_point r points ends dx dy x y seen on)
        | inr turns ↦ inr (not_zero (winding es x y) turns)
      ],
      λ either. elim either [
        | inl on ↦ or_left (lies_on_one es x y) round (of_some_point r points ends dx dy x y seen on)
        | inr turns ↦ or_right (lies_on_one es x y) round (is_not_zero (winding es x y) turns)
      ],
    )
