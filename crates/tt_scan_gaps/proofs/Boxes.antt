-- The box of edges: the column nearer to the middle, where the box has no centre, and the box's extent.
use Rattle.std.proofs.Common.{◌≡◌, ◌<◌, ◌+◌, ◌^◌, inl, inr, Bool, ℕ, List, [], ◌∷◌, refl, true, false, add-one, drop, drop-cons, get_or, length, map, arith}
use Rattle.std.specs.Int.{int_div_euclid, int_max, int_min}
use Rattle.std.proofs.lemmas.Bool.{cases_Bool}
use Rattle.std.proofs.lemmas.Int.{ints}
use Rattle.std.specs.Prelude.{ℤ, pos, ◌+ℤ◌, ◌-ℤ◌, ◌*ℤ◌, int_le, unsigned_abs}
use Rattle.tt_scan_edges.specs.declared.edge.Edge.{Edge}
use Rattle.tt_scan_gaps.specs.Crossings.{gap_at, line_from}
use Rattle.tt_scan_gaps.specs.Boxes.{ColumnsFit, ColumnsNear, columns_between, columns_of, greatest_x, least_x, reached}
use Rattle.tt_scan_gaps.specs.Seen.{turned_round}
use Rattle.tt_scan_gaps.specs.declared.mark.Columns.{Columns}
use Rattle.tt_scan_gaps.proofs.Lines.{floor_high, floor_low}

pub right_is_nearer : (low high : ℤ) → int_le (line_from low) (gap_at high) ≡ false
    → int_le (pos 16384 *ℤ line_from low) (low +ℤ high) ≡ true
    → columns_between low high ≡ record { first = line_from low; last = line_from low }
right_is_nearer low high apart near = rw (apart, near) refl

pub left_is_nearer : (low high : ℤ) → int_le (line_from low) (gap_at high) ≡ false
    → int_le (pos 16384 *ℤ line_from low) (low +ℤ high) ≡ false
    → columns_between low high ≡ record { first = gap_at high; last = gap_at high }
left_is_nearer low high apart near = rw (apart, near) refl

-- the next of the remaining edges
pub least_over : (x : ℤ) (es : List Edge) (i : ℕ) (d : Edge) → i < length es
    → least_x x (drop i es)
    ≡ least_x (int_min x (int_min (get_or es i d).ax (get_or es i d).bx)) (drop (i + 1) es)
least_over x es i d below = rw (add-one, drop-cons es i d below) refl

pub greatest_over : (x : ℤ) (es : List Edge) (i : ℕ) (d : Edge) → i < length es
    → greatest_x x (drop i es)
    ≡ greatest_x (int_max x (int_max (get_or es i d).ax (get_or es i d).bx)) (drop (i + 1) es)
greatest_over x es i d below = rw (add-one, drop-cons es i d below) refl

-- the next of the remaining edges, turned round
pub least_over_turned : (y : ℤ) (es : List Edge) (i : ℕ) (d : Edge) → i < length es
    → least_x y (map turned_round (drop i es))
    ≡ least_x (int_min y (int_min (get_or es i d).ay (get_or es i d).by)) (map turned_round (drop (i + 1) es))
least_over_turned y es i d below = rw (add-one, drop-cons es i d below) refl

pub greatest_over_turned : (y : ℤ) (es : List Edge) (i : ℕ) (d : Edge) → i < length es
    → greatest_x y (map turned_round (drop i es))
    ≡ greatest_x (int_max y (int_max (get_or es i d).ay (get_or es i d).by)) (map turned_round (drop (i + 1) es))
greatest_over_turned y es i d below = rw (add-one, drop-cons es i d below) refl

-- the box of some edges, by the first of them
pub box_from_first : (es : List Edge) (d : Edge) → 0 < length es
    → columns_of es ≡ columns_between (least_x (get_or es 0 d).ax es) (greatest_x (get_or es 0 d).ax es)
box_from_first [] d some = absurd (omega (arith, some))
box_from_first (e ∷ es) d some = refl

pub box_turned_from_first : (es : List Edge) (d : Edge) → 0 < length es
    → columns_of (map turned_round es)
    ≡ columns_between (least_x (get_or es 0 d).ay (map turned_round es))
    (greatest_x (get_or es 0 d).ay (map turned_round es))
box_turned_from_first [] d some = absurd (omega (arith, some))
box_turned_from_first (e ∷ es) d some = refl

-- the columns that a box within the limits reaches are near the origin

reached_near : (dots : Bool) (b : Columns) → unsigned_abs b.first < 2 ^ 17 + 2 → unsigned_abs b.last < 2 ^ 17 + 2
    → ColumnsNear (reached dots b)
reached_near true b first last = record { first = omega (arith, ints, first); last = omega (arith, ints, last) }
reached_near false b first last = record { first = omega (arith, first); last = omega (arith, last) }

pub near_fits : (b : Columns) → ColumnsNear b → ColumnsFit b
near_fits b near = record { first = omega (arith, near.first); last = omega (arith, near.last) }

floor_near : (n : ℤ) → unsigned_abs n < 2 ^ 30 + 4096 → unsigned_abs (int_div_euclid n (pos 8192)) < 2 ^ 17 + 2
floor_near n small = let low = floor_low n in let high = floor_high n in omega (arith, ints, small, low, high)

pub between_near : (dots : Bool) (low high : ℤ) → unsigned_abs low < 2 ^ 30 → unsigned_abs high < 2 ^ 30
    → ColumnsNear (reached dots (columns_between low high))
between_near dots low high is also =
    let first : unsigned_abs (line_from low) < 2 ^ 17 + 2 = floor_near (low +ℤ pos 4095) (omega (arith, ints, is)) in
    let last : unsigned_abs (gap_at high) < 2 ^ 17 + 2 = floor_near (high -ℤ pos 4096) (omega (arith, ints, also)) in
    elim (cases_Bool (int_le (line_from low) (gap_at high))) [
      | inl some ↦ rw some (reached_near dots (record { first = line_from low; last = gap_at high }) first last)
      | inr none ↦ elim (cases_Bool (int_le (pos 16384 *ℤ line_from low) (low +ℤ high))) [
        | inl right ↦ rw (none, right) (reached_near dots (record { first = line_from low; last = line_from low }) first first)
        | inr left ↦ rw (none, left) (reached_near dots (record { first = gap_at high; last = gap_at high }) last last)
      ]
    ]
