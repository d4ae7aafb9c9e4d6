-- The crossings of an edge, and an end of it that touches a line, are no further left, right, down or up than its ends.
use Rattle.std.proofs.Common.{◌≡◌, refl, sym, ℕ, zero, suc, ◌+◌, ◌*◌, ◌/◌, ◌^◌, ◌<◌, ◌≤◌, Bool, true, [], ◌++◌, inl, inr, ◌&&◌, ◌==◌, arith}
use Rattle.std.specs.Prelude.{ℤ, pos, negsuc, ◌+ℤ◌, ◌-ℤ◌, ◌*ℤ◌, ◌≤ℤ◌, ◌<ℤ◌, int_lt, neg_ℤ, unsigned_abs, All}
use Rattle.std.specs.Int.{int_div_euclid, int_max, int_min, int_rem_euclid}
use Rattle.std.proofs.lemmas.Bool.{cases_Bool}
use Rattle.std.proofs.lemmas.Bool.Decides.{nat_tests}
use Rattle.std.proofs.lemmas.Int.{clamps, ints}
use Rattle.std.proofs.lemmas.List.Elements.{All-append, All-cons, All-nil}
use Rattle.std.proofs.lemmas.List.FromFn.{get_or-map-range_with_len, length-map-range_with_len}
use Rattle.tt_scan_edges.specs.Winding.{EdgeFits}
use Rattle.tt_scan_edges.specs.declared.edge.Edge.{Edge}
use Rattle.tt_scan_gaps.specs.Crossings.{centre, crossing, crossing_at, crossings, edge_x, gap_at, is_rising, line_crossed, lines_crossed, touches, upward}
use Rattle.tt_scan_gaps.specs.Boxes.{EdgeWithin}
use Rattle.tt_scan_gaps.specs.declared.mark.Crossing.{Crossing}
use Rattle.tt_scan_gaps.proofs.Lines.{floor_high, floor_low, line_high, line_low}

-- a crossing, or an end that touches a line, in a box: its gap reaches into the box, and its line goes through it
pub record IsWithin (least_x greatest_x least_y greatest_y : ℤ) (c : Crossing) : Type 0 where
  pub left : least_x <ℤ centre (c.gap +ℤ pos 1)
  pub right : centre c.gap ≤ℤ greatest_x
  pub bottom : least_y ≤ℤ centre c.line
  pub top : centre c.line ≤ℤ greatest_y

-- an edge's distance right of its lower end at a height is between 0 and its width

rising_quotient : (w k b : ℕ) → k < b → (w * k) / b ≤ w
rising_quotient w k b less = grind arith

falling_quotient : (w k b n : ℕ) → k < b → suc n ≡ suc w * k → n / b ≤ w
falling_quotient w k b n less is = grind arith

-- a place between two, whichever is the lower
abbrev pub IsBetween : ℤ → ℤ → ℤ → Type 0
IsBetween a b z = (int_min a b ≤ℤ z) × (z ≤ℤ int_max a b)

falling_between : (a k b n : ℕ) → k < b → suc a * k ≡ n
    → IsBetween (pos 0) (negsuc a) (int_div_euclid (neg_ℤ (pos n)) (pos b))
falling_between a k b zero less is = (omega (arith, ints, clamps), omega (arith, ints, clamps))
falling_between a k b (suc n) less is =
    let q = falling_quotient a k b n less (sym is) in (omega (arith, ints, clamps, q), omega (arith, ints, clamps, q))

run_between : (w : ℤ) (k b : ℕ) → k < b → IsBetween (pos 0) w (int_div_euclid (w *ℤ pos k) (pos b))
run_between (pos a) k b less =
    let q = rising_quotient a k b less in (omega (arith, ints, clamps, q), omega (arith, ints, clamps, q))
run_between (negsuc a) k b less = falling_between a k b (suc a * k) less refl

slope_between : (w h d : ℤ) → pos 0 ≤ℤ h → h <ℤ d → IsBetween (pos 0) w (int_div_euclid (w *ℤ h) d)
slope_between w (pos k) (pos b) low high = run_between w k b (omega (arith, ints))
slope_between w (negsuc k) d low high = absurd (omega (arith, ints))
slope_between w (pos k) (negsuc b) low high = absurd (omega (arith, ints))

upward_within : (l r b t : ℤ) (e : Edge) → EdgeWithin l r b t e → EdgeWithin l r b t (upward e)
upward_within l r b t e h = elim (cases_Bool (int_lt e.by e.ay)) [
  | inl falls ↦ rw falls (record {
    left = omega (arith, ints, clamps, h.left);
    right = omega (arith, ints, clamps, h.right);
    bottom = omega (arith, ints, clamps, h.bottom);
    top = omega (arith, ints, clamps, h.top);
  })
  | inr rises ↦ rw rises h
]

edge_between : (e : Edge) (y : ℤ) → (upward e).ay ≤ℤ y → y <ℤ (upward e).by
    → IsBetween (upward e).ax (upward e).bx (edge_x e y)
edge_between e y low high =
    let run = slope_between ((upward e).bx -ℤ (upward e).ax) (y -ℤ (upward e).ay) ((upward e).by -ℤ (upward e).ay)
    (omega (arith, ints)) (omega (arith, ints)) in
    (omega (arith, ints, clamps, run.0), omega (arith, ints, clamps, run.1))

-- a place of a line in a box
at_place : (l r b t : ℤ) (up : Bool) (j x : ℤ) → l ≤ℤ x → x ≤ℤ r → b ≤ℤ centre j → centre j ≤ℤ t
    → IsWithin l r b t (crossing_at up j x)
at_place l r b t up j x left right bottom top =
    let low = floor_low (x -ℤ pos 4096) in
    let high = floor_high (x -ℤ pos 4096) in
    record { left = omega (arith, ints); right = omega (arith, ints); bottom = bottom; top = top }

-- an edge crosses lines within its box
pub crosses_within : (l r b t : ℤ) (e : Edge) (k : ℕ) → EdgeWithin l r b t e → k < lines_crossed e
    → IsWithin l r b t (crossing e (line_crossed e k))
crosses_within l r b t e k h within =
    let up = upward_within l r b t e h in
    let low = line_low e k within in
    let high = line_high e k within in
    let x = edge_between e (centre (line_crossed e k)) low high in
    at_place l r b t (is_rising e) (line_crossed e k) (edge_x e (centre (line_crossed e k)))
    (omega (arith, ints, clamps, up.left, x.0)) (omega (arith, ints, clamps, up.right, x.1))
    (omega (arith, ints, clamps, up.bottom, low)) (omega (arith, ints, clamps, up.top, high))

-- an edge whose ends lie in one gap crosses its lines in that gap
own_box : (e : Edge) → EdgeWithin (int_min e.ax e.bx) (int_max e.ax e.bx) (int_min e.ay e.by) (int_max e.ay e.by) e
own_box e = record {
  left = omega (arith, ints);
  right = omega (arith, ints);
  bottom = omega (arith, ints);
  top = omega (arith, ints);
}

pub crosses_in_its_gap : (e : Edge) (k : ℕ) → k < lines_crossed e → gap_at e.ax ≡ gap_at e.bx
    → (crossing e (line_crossed e k)).gap ≡ gap_at e.ax
crosses_in_its_gap e k within same =
    let at = crosses_within (int_min e.ax e.bx) (int_max e.ax e.bx) (int_min e.ay e.by) (int_max e.ay e.by) e k
    (own_box e) within in
    let left = at.left in
    let right = at.right in
    let a_low = floor_low (e.ax -ℤ pos 4096) in
    let a_high = floor_high (e.ax -ℤ pos 4096) in
    let b_low = floor_low (e.bx -ℤ pos 4096) in
    let b_high = floor_high (e.bx -ℤ pos 4096) in
    omega (arith, ints, clamps, left, right, same, a_low, a_high, b_low, b_high)

-- an edge that fits crosses lines not far from the origin
pub crosses_near : (e : Edge) (k : ℕ) → EdgeFits e → k < lines_crossed e
    → (unsigned_abs (line_crossed e k) < 2 ^ 18) × (unsigned_abs (crossing e (line_crossed e k)).gap + 1 < 2 ^ 18)
crosses_near e k fits within =
    let at = crosses_within (int_min e.ax e.bx) (int_max e.ax e.bx) (int_min e.ay e.by) (int_max e.ay e.by) e k
    (own_box e) within in (
      omega (arith, ints, clamps, at.bottom, at.top, fits.ay, fits.by),
      omega (arith, ints, clamps, at.left, at.right, fits.ax, fits.bx),
    )

crossings_within : (l r b t : ℤ) (e : Edge) → EdgeWithin l r b t e → All (IsWithin l r b t) (crossings e)
crossings_within l r b t e h = λ k d less.
    let below : k < lines_crossed e = rw length-map-range_with_len at less in
    rw (get_or-map-range_with_len (λ k. crossing e (line_crossed e k)) 0 (lines_crossed e) k k d below (omega arith))
    (crosses_within l r b t e k h below)

-- an edge that fits touches lines not far from the origin

whole : (n : ℤ) → unsigned_abs (int_rem_euclid n (pos 8192)) ≡ 0 → pos 8192 *ℤ int_div_euclid n (pos 8192) ≡ n
whole (pos a) is = omega (arith, ints)
whole (negsuc a) is = omega (arith, ints)

on_line : (y : ℤ) → unsigned_abs (int_rem_euclid (y -ℤ pos 4096) (pos 8192)) ≡ 0 → centre (gap_at y) ≡ y
on_line y is = let all = whole (y -ℤ pos 4096) is in omega (arith, ints)

is_whole : (rises : Bool) (rest : ℕ) → (rises && (rest == 0)) ≡ true → rest ≡ 0
is_whole rises rest is = grind (arith, nat_tests)

touch_within : (l r b t : ℤ) (up : Bool) (e : Edge) → EdgeWithin l r b t e
    → unsigned_abs (int_rem_euclid (e.by -ℤ pos 4096) (pos 8192)) ≡ 0
    → IsWithin l r b t (crossing_at up (gap_at e.by) e.bx)
touch_within l r b t up e h is =
    let line = on_line e.by is in
    at_place l r b t up (gap_at e.by) e.bx
    (omega (arith, ints, clamps, h.left)) (omega (arith, ints, clamps, h.right))
    (omega (arith, ints, clamps, h.bottom, line)) (omega (arith, ints, clamps, h.top, line))

touches_within : (l r b t : ℤ) (e : Edge) → EdgeWithin l r b t e → All (IsWithin l r b t) (touches e)
touches_within l r b t e h =
    let u = upward e in
    let rest = unsigned_abs (int_rem_euclid (u.by -ℤ pos 4096) (pos 8192)) in
    elim (cases_Bool (int_lt u.ay u.by && (rest == 0))) [
      | inl touch ↦ rw touch (All-cons (IsWithin l r b t) (crossing_at (is_rising e) (gap_at u.by) u.bx) []
          (touch_within l r b t (is_rising e) u (upward_within l r b t e h) (is_whole (int_lt u.ay u.by) rest touch))
          (All-nil (IsWithin l r b t)))
      | inr none ↦ rw none (All-nil (IsWithin l r b t))
    ]

-- a property of all marks of an edge
abbrev pub EdgeLeaves : (Crossing → Type 0) → Edge → Type 0
EdgeLeaves P e = All P (crossings e ++ touches e)

-- the marks of an edge lie in its box
pub edge_leaves_within : (l r b t : ℤ) (e : Edge) → EdgeWithin l r b t e → EdgeLeaves (IsWithin l r b t) e
edge_leaves_within l r b t e h =
    All-append (IsWithin l r b t) (crossings e) (touches e) (crossings_within l r b t e h) (touches_within l r b t e h)
