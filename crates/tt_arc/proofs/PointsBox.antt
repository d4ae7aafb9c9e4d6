-- The box of an outline's points holds all edges.
use Rattle.std.proofs.Common.{◌≡◌, refl, ℕ, zero, suc, ◌+◌, ◌-◌, ◌*◌, ◌<◌, ◌≤◌, Bool, true, false, nat_lt, if◌then◌else◌, ℤ, pos, ◌+ℤ◌, ◌*ℤ◌, List, [], ◌∷◌, length, map, drop, inl, inr, arith}
use Rattle.std.specs.Prelude.{All, ◌≤ℤ◌}
use Rattle.std.specs.List.{flat_map, range_with_len, slice_index, slice_range}
use Rattle.std.proofs.lemmas.Bool.{cases_Bool, cases_lt}
use Rattle.std.proofs.lemmas.Int.{clamps, ints}
use Rattle.std.proofs.lemmas.List.{get_or-take, get_or-drop, length-take, length-drop}
use Rattle.std.proofs.lemmas.List.Elements.{All-append, All-cons, All-head, All-nil, All-tail}
use Rattle.tt_core.specs.Numbers.{nearest_quotient}
use Rattle.tt_core.specs.Products.{mul_assoc_z, mul_mono}
use Rattle.tt_scan_edges.specs.Joined.{join, joined_from, joins}
use Rattle.tt_scan_edges.specs.declared.edge.Edge.{Edge}
use Rattle.tt_scan_gaps.specs.Boxes.{EdgeWithin, HoldsEdges}
use Rattle.tt_scan_gaps.specs.declared.extent.Extents.{Extents}
use Rattle.tt_arc.specs.declared.point.PlacedPoint.{PlacedPoint}
use Rattle.tt_arc.specs.declared.quadratic.Coordinates.{Coordinates}
use Rattle.tt_arc.specs.declared.quadratic.EdgeEnd.{EdgeEnd}
use Rattle.tt_arc.specs.declared.quadratic.Quadratic.{Quadratic}
use Rattle.tt_arc.specs.declared.rule.ChordRule.{ChordRule}
use Rattle.tt_arc.specs.declared.rule.ChordRule.TheVariants as rule
use Rattle.tt_arc.specs.Bounds.{BoxHoldsEdges, box_at, box_from, box_of, box_with}
use Rattle.tt_arc.specs.Chords.{along_x, along_y, chord_count, chord_end, chord_place, contour_at, contour_chords, contour_edges, contour_start, curve_end_of, edge_between, edge_end_of, edges_at, edges_of, first_chords, joined_by, moved, number_after, number_before, point_at, quadratic_of, weighed}
use Rattle.tt_arc.proofs.Counts.{by_count}
use Rattle.tt_arc.proofs.Places.{near}
use Rattle.tt_arc.proofs.Weights.{weights}

-- a place in a box
pub record IsIn (b : Extents) (x y : ℤ) : Type 0 where
  pub left : b.across.low ≤ℤ x
  pub right : x ≤ℤ b.across.high
  pub bottom : b.up.low ≤ℤ y
  pub top : y ≤ℤ b.up.high

abbrev HasEnd : Extents → EdgeEnd → Type 0
HasEnd b s = IsIn b s.x s.y

-- a point in a box: its place as an end of an edge
abbrev HasPoint : Extents → PlacedPoint → Type 0
HasPoint b p = HasEnd b (edge_end_of p)

-- a box in a box
record IsInBox (a b : Extents) : Type 0 where
  left : b.across.low ≤ℤ a.across.low
  right : a.across.high ≤ℤ b.across.high
  bottom : b.up.low ≤ℤ a.up.low
  top : a.up.high ≤ℤ b.up.high

wider : (a b : Extents) (s : EdgeEnd) → IsInBox (box_with s a) b → IsInBox a b
wider a b s within = record {
  left = let one = within.left in omega (arith, ints, clamps, one);
  right = let one = within.right in omega (arith, ints, clamps, one);
  bottom = let one = within.bottom in omega (arith, ints, clamps, one);
  top = let one = within.top in omega (arith, ints, clamps, one);
}

has_it : (a b : Extents) (s : EdgeEnd) → IsInBox (box_with s a) b → HasEnd b s
has_it a b s within = record {
  left = let one = within.left in omega (arith, ints, clamps, one);
  right = let one = within.right in omega (arith, ints, clamps, one);
  bottom = let one = within.bottom in omega (arith, ints, clamps, one);
  top = let one = within.top in omega (arith, ints, clamps, one);
}

same_box : (b : Extents) → IsInBox b b
same_box b = record { left = omega (arith, ints); right = omega (arith, ints); bottom = omega (arith, ints); top = omega (arith, ints) }

from_within : (b : Extents) (ps : List PlacedPoint) → IsInBox b (box_from b ps)
from_within b [] = same_box b
from_within b (p ∷ ps) = wider b (box_from b (p ∷ ps)) (edge_end_of p) (from_within (box_with (edge_end_of p) b) ps)

from_has : (b : Extents) (ps : List PlacedPoint) → All (HasPoint (box_from b ps)) ps
from_has b [] = All-nil (HasPoint b)
from_has b (p ∷ ps) =
    let all = box_from b (p ∷ ps) in
    All-cons (HasPoint all) p ps (has_it b all (edge_end_of p) (from_within (box_with (edge_end_of p) b) ps))
    (from_has (box_with (edge_end_of p) b) ps)

at_has : (s : EdgeEnd) (b : Extents) → IsInBox (box_at s) b → HasEnd b s
at_has s b within = record { left = within.left; right = within.right; bottom = within.bottom; top = within.top }

pub has_all : (ps : List PlacedPoint) → All (HasPoint (box_of ps)) ps
has_all [] = All-nil (HasPoint (box_of []))
has_all (p ∷ ps) =
    All-cons (HasPoint (box_of (p ∷ ps))) p ps (at_has (edge_end_of p) (box_of (p ∷ ps)) (from_within (box_at (edge_end_of p)) ps))
    (from_has (box_at (edge_end_of p)) ps)

-- bounds of a quadratic's coordinates along an axis, in 1/8192 pixel
record IsBounded (low high : ℤ) (b : Coordinates) : Type 0 where
  from_low : low ≤ℤ (pos 64 *ℤ b.from)
  from_high : (pos 64 *ℤ b.from) ≤ℤ high
  control_low : low ≤ℤ (pos 128 *ℤ b.control)
  control_high : (pos 128 *ℤ b.control) ≤ℤ high
  to_low : low ≤ℤ (pos 64 *ℤ b.to)
  to_high : (pos 64 *ℤ b.to) ≤ℤ high

no_less_by : (u v w : ℕ) (x y z m : ℤ) → m ≤ℤ (pos 64 *ℤ x) → m ≤ℤ (pos 128 *ℤ y) → m ≤ℤ (pos 64 *ℤ z)
    → (pos (u + v + w) *ℤ m) ≤ℤ (pos 64 *ℤ ((pos u *ℤ x +ℤ pos (2 * v) *ℤ y) +ℤ pos w *ℤ z))
no_less_by u v w x y z m is_x is_y is_z =
    let one = mul_mono (pos u) m (pos 64 *ℤ x) (omega (arith, ints)) is_x in
    let two = mul_mono (pos v) m (pos 128 *ℤ y) (omega (arith, ints)) is_y in
    let three = mul_mono (pos w) m (pos 64 *ℤ z) (omega (arith, ints)) is_z in
    let first = mul_assoc_z (pos u) (pos 64) x in
    let middle = mul_assoc_z (pos v) (pos 128) y in
    let last = mul_assoc_z (pos w) (pos 64) z in
    omega (arith, ints, one, two, three, first, middle, last)

no_more_by : (u v w : ℕ) (x y z m : ℤ) → (pos 64 *ℤ x) ≤ℤ m → (pos 128 *ℤ y) ≤ℤ m → (pos 64 *ℤ z) ≤ℤ m
    → (pos 64 *ℤ ((pos u *ℤ x +ℤ pos (2 * v) *ℤ y) +ℤ pos w *ℤ z)) ≤ℤ (pos (u + v + w) *ℤ m)
no_more_by u v w x y z m is_x is_y is_z =
    let one = mul_mono (pos u) (pos 64 *ℤ x) m (omega (arith, ints)) is_x in
    let two = mul_mono (pos v) (pos 128 *ℤ y) m (omega (arith, ints)) is_y in
    let three = mul_mono (pos w) (pos 64 *ℤ z) m (omega (arith, ints)) is_z in
    let first = mul_assoc_z (pos u) (pos 64) x in
    let middle = mul_assoc_z (pos v) (pos 128) y in
    let last = mul_assoc_z (pos w) (pos 64) z in
    omega (arith, ints, one, two, three, first, middle, last)

-- the weights as above, where the middle one is even
halved : (n k : ℕ) → k ≤ n → ((n - k) * (n - k) + 2 * k * (n - k) + k * k ≡ n * n) × (4 * k * (n - k) ≡ 2 * (2 * k * (n - k)))
halved n k le = let sum = weights n k le in (omega (arith, sum), omega arith)

weighed_low : (n k : ℕ) (low high : ℤ) (b : Coordinates) → k ≤ n → IsBounded low high b
    → (pos (n * n) *ℤ low) ≤ℤ (pos 64 *ℤ weighed n k b)
weighed_low n k low high b le is =
    let least = no_less_by ((n - k) * (n - k)) (2 * k * (n - k)) (k * k) b.from b.control b.to low is.from_low is.control_low is.to_low in
    let parts = halved n k le in
    rw (parts.1, ← parts.0) least

weighed_high : (n k : ℕ) (low high : ℤ) (b : Coordinates) → k ≤ n → IsBounded low high b
    → (pos 64 *ℤ weighed n k b) ≤ℤ (pos (n * n) *ℤ high)
weighed_high n k low high b le is =
    let most = no_more_by ((n - k) * (n - k)) (2 * k * (n - k)) (k * k) b.from b.control b.to high is.from_high is.control_high is.to_high in
    let parts = halved n k le in
    rw (parts.1, ← parts.0) most

-- a quotient lies between bounds of its numerator, rounded too
abbrev KeepsBounds : ℕ → Type 0
KeepsBounds n = (v low high : ℤ) → (pos (n * n) *ℤ low) ≤ℤ v → v ≤ℤ (pos (n * n) *ℤ high)
    → (low ≤ℤ nearest_quotient v (pos (n * n))) × (nearest_quotient v (pos (n * n)) ≤ℤ high)

keeps_1 : KeepsBounds 1
keeps_1 v low high least most =
    let a = near v 1 (omega arith) in
    (omega (arith, ints, least, a.low, a.high), omega (arith, ints, most, a.low, a.high))

keeps_2 : KeepsBounds 2
keeps_2 v low high least most =
    let a = near v 4 (omega arith) in
    (omega (arith, ints, least, a.low, a.high), omega (arith, ints, most, a.low, a.high))

keeps_4 : KeepsBounds 4
keeps_4 v low high least most =
    let a = near v 16 (omega arith) in
    (omega (arith, ints, least, a.low, a.high), omega (arith, ints, most, a.low, a.high))

keeps_8 : KeepsBounds 8
keeps_8 v low high least most =
    let a = near v 64 (omega arith) in
    (omega (arith, ints, least, a.low, a.high), omega (arith, ints, most, a.low, a.high))

keeps_16 : KeepsBounds 16
keeps_16 v low high least most =
    let a = near v 256 (omega arith) in
    (omega (arith, ints, least, a.low, a.high), omega (arith, ints, most, a.low, a.high))

keeps_32 : KeepsBounds 32
keeps_32 v low high least most =
    let a = near v 1024 (omega arith) in
    (omega (arith, ints, least, a.low, a.high), omega (arith, ints, most, a.low, a.high))

place_bounded : (r : ChordRule) (c : Quadratic) (k : ℕ) (low high : ℤ) (b : Coordinates) → k ≤ chord_count r c → IsBounded low high b
    → (low ≤ℤ chord_place (chord_count r c) k b) × (chord_place (chord_count r c) k b ≤ℤ high)
place_bounded r c k low high b le is =
    let n = chord_count r c in
    by_count KeepsBounds keeps_1 keeps_2 keeps_4 keeps_8 keeps_16 keeps_32 r c (pos 64 *ℤ weighed n k b) low high
    (weighed_low n k low high b le is) (weighed_high n k low high b le is)

-- the ends of a quadratic of three points in a box
end_bounded : (low high n p : ℤ) (on : Bool) → low ≤ℤ (pos 128 *ℤ n) → (pos 128 *ℤ n) ≤ℤ high
    → low ≤ℤ (pos 128 *ℤ p) → (pos 128 *ℤ p) ≤ℤ high
    → (low ≤ℤ (pos 64 *ℤ (if on then pos 2 *ℤ n else n +ℤ p))) × ((pos 64 *ℤ (if on then pos 2 *ℤ n else n +ℤ p)) ≤ℤ high)
end_bounded low high n p true n_low n_high p_low p_high = (omega (arith, ints, n_low), omega (arith, ints, n_high))
end_bounded low high n p false n_low n_high p_low p_high = (omega (arith, ints, n_low, p_low), omega (arith, ints, n_high, p_high))

end_x : (n p : PlacedPoint) → (curve_end_of n p).x ≡ (if n.on then pos 2 *ℤ n.x else n.x +ℤ p.x)
end_x n p = elim (cases_Bool n.on) [
  | inl on ↦ rw on refl
  | inr off ↦ rw off refl
]

end_y : (n p : PlacedPoint) → (curve_end_of n p).y ≡ (if n.on then pos 2 *ℤ n.y else n.y +ℤ p.y)
end_y n p = elim (cases_Bool n.on) [
  | inl on ↦ rw on refl
  | inr off ↦ rw off refl
]

bounded_x : (b : Extents) (before p after : PlacedPoint) → HasPoint b before → HasPoint b p → HasPoint b after
    → IsBounded b.across.low b.across.high (along_x (quadratic_of before p after))
bounded_x b before p after is_before is_p is_after =
    let from = end_bounded b.across.low b.across.high before.x p.x before.on is_before.left is_before.right is_p.left is_p.right in
    let to = end_bounded b.across.low b.across.high after.x p.x after.on is_after.left is_after.right is_p.left is_p.right in
    record {
      from_low = rw (end_x before p) from.0;
      from_high = rw (end_x before p) from.1;
      control_low = is_p.left;
      control_high = is_p.right;
      to_low = rw (end_x after p) to.0;
      to_high = rw (end_x after p) to.1;
    }

bounded_y : (b : Extents) (before p after : PlacedPoint) → HasPoint b before → HasPoint b p → HasPoint b after
    → IsBounded b.up.low b.up.high (along_y (quadratic_of before p after))
bounded_y b before p after is_before is_p is_after =
    let from = end_bounded b.up.low b.up.high before.y p.y before.on is_before.bottom is_before.top is_p.bottom is_p.top in
    let to = end_bounded b.up.low b.up.high after.y p.y after.on is_after.bottom is_after.top is_p.bottom is_p.top in
    record {
      from_low = rw (end_y before p) from.0;
      from_high = rw (end_y before p) from.1;
      control_low = is_p.bottom;
      control_high = is_p.top;
      to_low = rw (end_y after p) to.0;
      to_high = rw (end_y after p) to.1;
    }

-- an edge whose ends lie in a box
abbrev HoldsEdge : Extents → Edge → Type 0
HoldsEdge b e = EdgeWithin b.across.low b.across.high b.up.low b.up.high e

edge_held : (b : Extents) (s t : EdgeEnd) → HasEnd b s → HasEnd b t → HoldsEdge b (edge_between s t)
edge_held b s t is_s is_t = record {
  left = omega (arith, ints, clamps, is_s.left, is_t.left);
  right = omega (arith, ints, clamps, is_s.right, is_t.right);
  bottom = omega (arith, ints, clamps, is_s.bottom, is_t.bottom);
  top = omega (arith, ints, clamps, is_s.top, is_t.top);
}

chord_end_held : (r : ChordRule) (b : Extents) (before p after : PlacedPoint) (k : ℕ) → HasPoint b before → HasPoint b p → HasPoint b after
    → k ≤ chord_count r (quadratic_of before p after)
    → HasEnd b (chord_end (chord_count r (quadratic_of before p after)) (quadratic_of before p after) k)
chord_end_held r b before p after k is_before is_p is_after le =
    let c = quadratic_of before p after in
    let x = place_bounded r c k b.across.low b.across.high (along_x c) le (bounded_x b before p after is_before is_p is_after) in
    let y = place_bounded r c k b.up.low b.up.high (along_y c) le (bounded_y b before p after is_before is_p is_after) in
    record { left = x.0; right = x.1; bottom = y.0; top = y.1 }

chords_held : (r : ChordRule) (b : Extents) (before p after : PlacedPoint) (n : ℕ) → HasPoint b before → HasPoint b p → HasPoint b after
    → n ≤ chord_count r (quadratic_of before p after)
    → HoldsEdges b (first_chords (chord_count r (quadratic_of before p after)) (quadratic_of before p after) n)
unfolding first_chords
chords_held r b before p after zero is_before is_p is_after le = All-nil (HoldsEdge b)
chords_held r b before p after (suc k) is_before is_p is_after le =
    let c = quadratic_of before p after in
    let m = chord_count r c in
    let edge = edge_between (chord_end m c k) (chord_end m c (suc k)) in
    All-append (HoldsEdge b) (first_chords m c k) (edge ∷ [])
    (chords_held r b before p after k is_before is_p is_after (omega (arith, le)))
    (All-cons (HoldsEdge b) edge [] (edge_held b (chord_end m c k) (chord_end m c (suc k))
    (chord_end_held r b before p after k is_before is_p is_after (omega (arith, le)))
    (chord_end_held r b before p after (suc k) is_before is_p is_after le)) (All-nil (HoldsEdge b)))

either_held : (b : Extents) (on next : Bool) (line : Edge) (chords : List Edge) → HoldsEdge b line → HoldsEdges b chords
    → HoldsEdges b (if on then (if next then line ∷ [] else []) else chords)
either_held b true true line chords is are = All-cons (HoldsEdge b) line [] is (All-nil (HoldsEdge b))
either_held b true false line chords is are = All-nil (HoldsEdge b)
either_held b false next line chords is are = are

point_held : (r : ChordRule) (b : Extents) (before p after : PlacedPoint) → HasPoint b before → HasPoint b p → HasPoint b after
    → HoldsEdges b (edges_of r before p after)
unfolding edges_of
point_held r b before p after is_before is_p is_after =
    either_held b p.on after.on (edge_between (edge_end_of p) (edge_end_of after)) _
    (edge_held b (edge_end_of p) (edge_end_of after) is_p is_after)
    (chords_held r b before p after (chord_count r (quadratic_of before p after)) is_before is_p is_after (omega arith))

-- edges joined lie where the edges lie
join_held : (b : Extents) (e f : Edge) → HoldsEdge b e → HoldsEdge b f → HoldsEdge b (join e f)
join_held b e f is_e is_f = record {
  left = omega (arith, ints, clamps, is_e.left, is_f.left);
  right = omega (arith, ints, clamps, is_e.right, is_f.right);
  bottom = omega (arith, ints, clamps, is_e.bottom, is_f.bottom);
  top = omega (arith, ints, clamps, is_e.top, is_f.top);
}

from_held : (b : Extents) (e : Edge) (fs : List Edge) → HoldsEdges b (e ∷ fs) → HoldsEdges b (joined_from e fs)
from_held b e [] held = held
from_held b e (f ∷ fs) held =
    let one = All-head (HoldsEdge b) e (f ∷ fs) held in
    let rest = All-tail (HoldsEdge b) e (f ∷ fs) held in
    let two = All-head (HoldsEdge b) f fs rest in
    elim (cases_Bool (joins e f)) [
      | inl is ↦ rw is (from_held b (join e f) fs (All-cons (HoldsEdge b) (join e f) fs (join_held b e f one two)
          (All-tail (HoldsEdge b) f fs rest)))
      | inr other ↦ rw other (All-cons (HoldsEdge b) e (joined_from f fs) one (from_held b f fs rest))
    ]

joined_held : (r : ChordRule) (b : Extents) (es : List Edge) → HoldsEdges b es → HoldsEdges b (joined_by r es)
joined_held rule.Eight b es held = held
joined_held rule.ByBend b [] held = held
joined_held rule.ByBend b (e ∷ es) held = from_held b e es held

-- the edges of a contour of points in a box
flat_held : (b : Extents) (f : ℕ → List Edge) (ns : List ℕ) → All (λ n. HoldsEdges b (f n)) ns → HoldsEdges b (flat_map f ns)
flat_held b f [] all = All-nil (HoldsEdge b)
flat_held b f (n ∷ ns) all =
    All-append (HoldsEdge b) (f n) (flat_map f ns) (All-head (λ n. HoldsEdges b (f n)) n ns all)
    (flat_held b f ns (All-tail (λ n. HoldsEdges b (f n)) n ns all))

numbers_within : (P : ℕ → Type 0) (k m n : ℕ) → k + m ≤ n → ((i : ℕ) → i < n → P i) → All P (range_with_len k m)
numbers_within P k zero n room each = All-nil P
numbers_within P k (suc m) n room each =
    All-cons P k (range_with_len (k + 1) m) (each k (omega (arith, room)))
    (numbers_within P (k + 1) m n (omega (arith, room)) each)

nowhere : PlacedPoint
nowhere = record { x = pos 0; y = pos 0; on = false }

before_within : (n i : ℕ) → i < n → number_before n i < n
before_within n zero below = omega (arith, below)
before_within n (suc i) below = omega (arith, below)

after_within : (n i : ℕ) → i < n → number_after n i < n
after_within n i below = elim (cases_lt (i + 1) n) [
  | inl more ↦ let is : number_after n i ≡ i + 1 = grind (arith, more) in rw is more
  | inr last ↦ let is : number_after n i ≡ 0 = grind (arith, last) in rw is (omega (arith, below))
]

contour_held : (r : ChordRule) (b : Extents) (ps : List PlacedPoint) → All (HasPoint b) ps → HoldsEdges b (contour_edges r ps)
unfolding nowhere
contour_held r b ps all =
    joined_held r b (contour_chords r ps) (elim (cases_Bool (nat_lt 1 (length ps))) [
      | inl two ↦ rw two (flat_held b (edges_at r ps) (range_with_len 0 (length ps))
          (numbers_within (λ i. HoldsEdges b (edges_at r ps i)) 0 (length ps) (length ps) (omega arith) (λ i below.
          point_held r b (point_at ps (number_before (length ps) i)) (point_at ps i) (point_at ps (number_after (length ps) i))
          (all (number_before (length ps) i) nowhere (before_within (length ps) i below)) (all i nowhere below)
          (all (number_after (length ps) i) nowhere (after_within (length ps) i below)))))
      | inr one ↦ rw one (All-nil (HoldsEdge b))
    ])

-- the points of a contour are points of the outline
some_of : (P : PlacedPoint → Type 0) (ps : List PlacedPoint) (a b : ℕ) → All P ps → All P (slice_range ps a b)
some_of P ps a b all k d below =
    let shorter : k < b - a = omega (arith, length-take (b - a) (drop a ps), below) in
    let within : a + k < length ps = omega (arith, length-take (b - a) (drop a ps), length-drop a ps, below) in
    rw (get_or-take (b - a) (drop a ps) k d shorter, get_or-drop a ps k d) (all (a + k) d within)

pub box_holds_edges : BoxHoldsEdges
box_holds_edges r points ends dx dy =
    let ps = map (moved dx dy) points in
    let b = box_of ps in
    flat_held b (λ c. contour_edges r (contour_at ps ends c)) (range_with_len 0 (length ends))
    (numbers_within (λ c. HoldsEdges b (contour_edges r (contour_at ps ends c))) 0 (length ends) (length ends) (omega arith) (λ c below.
    contour_held r b (contour_at ps ends c) (some_of (HasPoint b) ps (contour_start ends c) (slice_index ends c) (has_all ps))))
