-- The edges that go through a gap of a line: those that cross the line's height, and are in the gap there.
use Rattle.std.proofs.Common.{◌≡◌, refl, sym, ◌∙◌, ℕ, ◌+◌, ◌<◌, Bool, true, false, ◌&&◌, inl, inr, arith}
use Rattle.std.specs.Prelude.{ℤ, pos, ◌+ℤ◌, ◌-ℤ◌, ◌*ℤ◌, ◌≤ℤ◌, ◌<ℤ◌, int_le, int_lt, unsigned_abs}
use Rattle.std.specs.Ordering.{int_eq}
use Rattle.std.proofs.lemmas.Bool.{cases_Bool}
use Rattle.std.proofs.lemmas.Int.{by_lt_z, ints}
use Rattle.std.proofs.lemmas.List.Folds.{list_any_at, list_any_none}
use Rattle.std.proofs.lemmas.List.FromFn.{get_or-map-range_with_len, length-map-range_with_len}
use Rattle.tt_scan_edges.specs.declared.edge.Edge.{Edge}
use Rattle.tt_scan_gaps.specs.Crossings.{agree, centre, crossing, crossings, edge_x, gap_at, is_rising, line_crossed, line_from, lines_crossed, upward}
use Rattle.tt_scan_gaps.specs.BothWays.{goes_through, is_through}
use Rattle.tt_scan_gaps.proofs.Lines.{floor_high, floor_low, line_high, line_low}
use Rattle.tt_scan_gaps.proofs.Tests.{eq_of}

three : (a b c : Bool) → (a && b && c) ≡ true → (a ≡ true) × (b ≡ true) × (c ≡ true)
three true true c is = (refl, refl, is)
three true false c is = absurd cc
three false b c is = absurd cc

same_eq : (z : ℤ) → int_eq z z ≡ true
same_eq z = grind (arith, ints)

-- an edge crosses a height: its lower end counts, its upper does not
abbrev pub is_crossed : Edge → ℤ → Bool
is_crossed e y = int_le (upward e).ay y && int_lt y (upward e).by

-- an edge has a crossing on each line whose height it crosses

from_line : (y j : ℤ) → y ≤ℤ centre j → line_from y ≤ℤ j
from_line y j low = let l = floor_low (y +ℤ pos 4095) in omega (arith, ints)

before_line : (y j : ℤ) → centre j <ℤ y → j <ℤ line_from y
before_line y j high = let h = floor_high (y +ℤ pos 4095) in omega (arith, ints)

rising_number : (a b j : ℤ) → a ≤ℤ centre j → centre j <ℤ b
    → (k : ℕ) × (k < unsigned_abs (line_from b -ℤ line_from a)) × (line_from a +ℤ pos k ≡ j)
rising_number a b j low high =
    let l = from_line a j low in
    let h = before_line b j high in
    (unsigned_abs (j -ℤ line_from a), omega (arith, ints, l, h), omega (arith, ints, l, h))

falling_number : (a b j : ℤ) → b ≤ℤ centre j → centre j <ℤ a
    → (k : ℕ) × (k < unsigned_abs (line_from b -ℤ line_from a)) × (line_from a -ℤ pos (k + 1) ≡ j)
falling_number a b j low high =
    let l = from_line b j low in
    let h = before_line a j high in
    (unsigned_abs ((line_from a -ℤ pos 1) -ℤ j), omega (arith, ints, l, h), omega (arith, ints, l, h))

both : (a b y : ℤ) → (int_le a y && int_lt y b) ≡ true → (a ≤ℤ y) × (y <ℤ b)
both a b y is = (grind (arith, ints), grind (arith, ints))

number_of : (e : Edge) (j : ℤ) → is_crossed e (centre j) ≡ true
    → (k : ℕ) × (k < lines_crossed e) × (line_crossed e k ≡ j)
number_of e j is = by_lt_z e.by e.ay
    (λ falls.
    let f : int_lt e.by e.ay ≡ true = grind (arith, ints) in
    let r : int_lt e.ay e.by ≡ false = grind (arith, ints) in
    let b = both e.by e.ay (centre j) (rw f at is) in
    rw r (falling_number e.ay e.by j b.0 b.1))
    (λ rises.
    let f : int_lt e.by e.ay ≡ false = grind (arith, ints) in
    let b = both e.ay e.by (centre j) (rw f at is) in
    let r : int_lt e.ay e.by ≡ true = grind (arith, ints, b) in
    rw r (rising_number e.ay e.by j b.0 b.1))

-- the crossings of an edge in one gap
abbrev pub is_here : Bool → ℤ → ℤ → Edge → Bool
is_here up j c e = is_crossed e (centre j) && int_eq (gap_at (edge_x e (centre j))) c && agree (is_rising e) up

parts_of : (up : Bool) (j c : ℤ) (e : Edge) → is_here up j c e ≡ true → (is_crossed e (centre j) ≡ true)
    × (int_eq (gap_at (edge_x e (centre j))) c ≡ true) × (agree (is_rising e) up ≡ true)
parts_of up j c e here =
    three (is_crossed e (centre j)) (int_eq (gap_at (edge_x e (centre j))) c) (agree (is_rising e) up) here

at_line : (up : Bool) (j c : ℤ) (e : Edge) (l : ℤ) → l ≡ j → is_here up j c e ≡ true
    → is_through up j c (crossing e l) ≡ true
at_line up j c e l same here =
    let parts = parts_of up j c e here in
    rw (same, same_eq j, parts.1, parts.2) refl

not_at_line : (up : Bool) (j c : ℤ) (e : Edge) (l : ℤ) → is_crossed e (centre l) ≡ true → is_here up j c e ≡ false
    → is_through up j c (crossing e l) ≡ false
not_at_line up j c e l crossed none = elim (cases_Bool (int_eq l j)) [
  | inl same ↦
      let line = eq_of l j same in
      let here : is_crossed e (centre j) ≡ true = rw line at crossed in
      rw (line, same_eq j) (rw here at none)
  | inr other ↦ rw other refl
]

pub through_here : (up : Bool) (j c : ℤ) (e : Edge) → goes_through up j c e ≡ is_here up j c e
through_here up j c e =
    let f = λ (k : ℕ). crossing e (line_crossed e k) in
    let n = length-map-range_with_len f 0 (lines_crossed e) in
    elim (cases_Bool (is_here up j c e)) [
      | inl here ↦
          let parts = parts_of up j c e here in
          let it = number_of e j parts.0 in
          let at = get_or-map-range_with_len f 0 (lines_crossed e) it.0 it.0 (f 0) it.1 (omega arith) in
          list_any_at (is_through up j c) (crossings e) it.0 (f 0) (rw n it.1)
          (rw at (at_line up j c e (line_crossed e it.0) it.2 here)) ∙ sym here
      | inr none ↦ list_any_none (is_through up j c) (crossings e) (λ k d less.
          let within : k < lines_crossed e = rw n at less in
          let low = line_low e k within in
          let high = line_high e k within in
          let crossed : is_crossed e (centre (line_crossed e k)) ≡ true = grind (arith, ints, low, high) in
          rw (get_or-map-range_with_len f 0 (lines_crossed e) k k d within (omega arith))
          (not_at_line up j c e (line_crossed e k) crossed none)) ∙ sym none
    ]

-- a place is in a gap where it is not left of its first centre, and left of the next

is_gap : (q x c : ℤ) → (pos 8192 *ℤ q) ≤ℤ (x -ℤ pos 4096) → (x -ℤ pos 4096) <ℤ (pos 8192 *ℤ q +ℤ pos 8192)
    → int_eq q c ≡ (int_le (centre c) x && int_lt x (centre (c +ℤ pos 1)))
is_gap q x c low high = by_lt_z q c
    (λ less. let right : x <ℤ centre c = omega (arith, ints) in grind (arith, ints))
    (λ least. by_lt_z c q
    (λ more. let left : centre (c +ℤ pos 1) ≤ℤ x = omega (arith, ints) in grind (arith, ints))
    (λ most.
    let same : q ≡ c = omega (arith, ints) in
    let left : centre c ≤ℤ x = omega (arith, ints) in
    let right : x <ℤ centre (c +ℤ pos 1) = omega (arith, ints) in
    let first : int_le (centre c) x ≡ true = grind (arith, ints) in
    let second : int_lt x (centre (c +ℤ pos 1)) ≡ true = grind (arith, ints) in
    rw (same, same_eq c, first, second) refl))

pub in_gap : (x c : ℤ) → int_eq (gap_at x) c ≡ (int_le (centre c) x && int_lt x (centre (c +ℤ pos 1)))
in_gap x c = is_gap (gap_at x) x c (floor_low (x -ℤ pos 4096)) (floor_high (x -ℤ pos 4096))
