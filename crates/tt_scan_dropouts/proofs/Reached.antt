-- The dropouts of an outline lie in its box, and its dots at most one column or row outside.
use Rattle.std.proofs.Common.{◌≡◌, refl, Bool, true, false, not, ◌&&◌, ◌||◌, List, [], ◌∷◌, map, inl, inr, ◌⊎◌, arith}
use Rattle.std.specs.Prelude.{ℤ, pos, negsuc, ◌+ℤ◌, ◌-ℤ◌, ◌*ℤ◌, ◌≤ℤ◌, ◌<ℤ◌, int_le, All}
use Rattle.std.specs.Int.{int_div_euclid, int_max, int_min}
use Rattle.std.specs.List.{list_any}
use Rattle.std.specs.Ordering.{int_eq}
use Rattle.std.proofs.lemmas.Bool.{cases_Bool}
use Rattle.std.proofs.lemmas.Int.{clamps, ints}
use Rattle.std.proofs.lemmas.List.Elements.{All-head, All-map, All-tail, All-weaker}
use Rattle.tt_scan_edges.specs.declared.edge.Edge.{Edge}
use Rattle.tt_scan_gaps.specs.Boxes.{EdgeWithin, HoldsEdges, columns_between, columns_in, greatest_x, least_x, reached, rows_in}
use Rattle.tt_scan_gaps.specs.Crossings.{gap_at, line_from}
use Rattle.tt_scan_gaps.specs.Dots.{asks, has_dot, is_dot, is_dot_box}
use Rattle.tt_scan_gaps.specs.Seen.{turned_round}
use Rattle.tt_scan_gaps.specs.declared.extent.Extents.{Extents}
use Rattle.tt_scan_gaps.specs.declared.mark.Columns.{Columns}
use Rattle.tt_scan_dropouts.specs.Dropouts.{columns_of_rules, edges_of, is_bridged, is_dotted, is_dropout, is_inked, rows_of_rules}
use Rattle.tt_scan_dropouts.specs.declared.boxed.BoxedRules.{BoxedRules}
use Rattle.tt_scan_gaps.proofs.Lines.{floor_high, floor_low}
use Rattle.tt_scan_dropouts.proofs.InBox.{IsColumnOf, LiesInBox, LiesInExtents, bridged_in_box, greatest_first, least_first}
use Rattle.tt_scan_dropouts.proofs.Leaves.{all_parts}

-- the columns that are reached have those of the box

pub first_reached : (dots : Bool) (b : Columns) → b.first ≤ℤ b.last → IsColumnOf (reached dots b) b.first
first_reached true b order = record { first = omega (arith, ints); last = omega (arith, ints, order) }
first_reached false b order = record { first = omega (arith, ints); last = order }

pub last_reached : (dots : Bool) (b : Columns) → b.first ≤ℤ b.last → IsColumnOf (reached dots b) b.last
last_reached true b order = record { first = omega (arith, ints, order); last = omega (arith, ints) }
last_reached false b order = record { first = order; last = omega (arith, ints) }

column_reached : (dots : Bool) (b : Columns) (c : ℤ) → IsColumnOf b c → IsColumnOf (reached dots b) c
column_reached true b c one = record { first = omega (arith, ints, one.first); last = omega (arith, ints, one.last) }
column_reached false b c one = one

pub box_reached : (rules : BoxedRules) (c j : ℤ) → LiesInExtents rules.extents c j
    → LiesInBox (columns_of_rules rules) (rows_of_rules rules) c j
box_reached rules c j lies = record {
  column = column_reached rules.rules.dots (columns_in rules.extents) c lies.column;
  row = column_reached rules.rules.dots (rows_in rules.extents) j lies.row;
}

-- the middle of a part of an extent

half_low : (n : ℤ) → (pos 16384 *ℤ int_div_euclid n (pos 16384)) ≤ℤ n
half_low (pos a) = omega (arith, ints)
half_low (negsuc a) = omega (arith, ints)

half_high : (n : ℤ) → n <ℤ (pos 16384 *ℤ int_div_euclid n (pos 16384) +ℤ pos 16384)
half_high (pos a) = omega (arith, ints)
half_high (negsuc a) = omega (arith, ints)

pub middle_within : (l r low high : ℤ) → l ≤ℤ low → low ≤ℤ high → high ≤ℤ r
    → IsColumnOf (reached true (columns_between l r)) (int_div_euclid (low +ℤ high) (pos 16384))
middle_within l r low high left order right =
    let m_low = half_low (low +ℤ high) in
    let m_high = half_high (low +ℤ high) in
    let l_low = floor_low (l +ℤ pos 4095) in
    let l_high = floor_high (l +ℤ pos 4095) in
    let r_low = floor_low (r -ℤ pos 4096) in
    let r_high = floor_high (r -ℤ pos 4096) in
    let from : (line_from l -ℤ pos 1) ≤ℤ int_div_euclid (low +ℤ high) (pos 16384) = omega (arith, ints) in
    let to : int_div_euclid (low +ℤ high) (pos 16384) ≤ℤ (gap_at r +ℤ pos 1) = omega (arith, ints) in
    elim (cases_Bool (int_le (line_from l) (gap_at r))) [
      | inl some ↦ rw some (record { first = from; last = to })
      | inr none ↦
          let apart : gap_at r <ℤ line_from l = grind (arith, ints, none) in
          elim (cases_Bool (int_le (pos 16384 *ℤ line_from l) (l +ℤ r))) [
            | inl nearer ↦ rw (none, nearer) (record { first = from; last = omega (arith, ints, apart, to) })
            | inr other ↦ rw (none, other) (record { first = omega (arith, ints, apart, from); last = to })
          ]
    ]

-- the ends of edges of a box

least_above : (l x : ℤ) (es : List Edge) → l ≤ℤ x → All (λ e. l ≤ℤ int_min e.ax e.bx) es → l ≤ℤ least_x x es
least_above l x [] low all = low
least_above l x (e ∷ es) low all =
    let one = All-head (λ e. l ≤ℤ int_min e.ax e.bx) e es all in
    least_above l (int_min x (int_min e.ax e.bx)) es (omega (arith, ints, clamps, low, one))
    (All-tail (λ e. l ≤ℤ int_min e.ax e.bx) e es all)

greatest_below : (r x : ℤ) (es : List Edge) → x ≤ℤ r → All (λ e. int_max e.ax e.bx ≤ℤ r) es → greatest_x x es ≤ℤ r
greatest_below r x [] high all = high
greatest_below r x (e ∷ es) high all =
    let one = All-head (λ e. int_max e.ax e.bx ≤ℤ r) e es all in
    greatest_below r (int_max x (int_max e.ax e.bx)) es (omega (arith, ints, clamps, high, one))
    (All-tail (λ e. int_max e.ax e.bx ≤ℤ r) e es all)

-- the middle of the ends of edges, by columns
ends_middle : (l r : ℤ) (x : ℤ) (es : List Edge) → l ≤ℤ x → x ≤ℤ r → All (λ e. l ≤ℤ int_min e.ax e.bx) es
    → All (λ e. int_max e.ax e.bx ≤ℤ r) es
    → IsColumnOf (reached true (columns_between l r)) (int_div_euclid (least_x x es +ℤ greatest_x x es) (pos 16384))
ends_middle l r x es low high lefts rights =
    let first = least_first x es in
    let last = greatest_first x es in
    middle_within l r (least_x x es) (greatest_x x es) (least_above l x es low lefts) (omega (arith, ints, first, last))
    (greatest_below r x es high rights)

-- a dot

is_the_middle : (box asking at : Bool) → (box && (not asking && at)) ≡ true → at ≡ true
is_the_middle true false at is = is
is_the_middle true true at is = absurd cc
is_the_middle false asking at is = absurd cc

both_are : (a b c d : ℤ) → (int_eq a c && int_eq b d) ≡ true → (a ≡ c) × (b ≡ d)
both_are a b c d is = (grind (arith, ints, is), grind (arith, ints, is))

-- a dot lies in a box that holds its edges, or next to the box
pub dot_within : (b : Extents) (stubs : Bool) (es : List Edge) (c j : ℤ) → HoldsEdges b es → is_dot stubs es c j ≡ true
    → LiesInBox (reached true (columns_in b)) (reached true (rows_in b)) c j
unfolding is_dot
dot_within b stubs [] c j held is = absurd cc
dot_within b stubs (e ∷ es) c j held is =
    let all : List Edge = e ∷ es in
    let box : Extents = record {
      across = record { low = least_x e.ax all; high = greatest_x e.ax all };
      up = record { low = least_x e.ay (map turned_round all); high = greatest_x e.ay (map turned_round all) };
    } in
    let mid_x : ℤ = int_div_euclid (least_x e.ax all +ℤ greatest_x e.ax all) (pos 16384) in
    let mid_y : ℤ = int_div_euclid (least_x e.ay (map turned_round all) +ℤ greatest_x e.ay (map turned_round all)) (pos 16384) in
    let at = both_are mid_x mid_y c j (is_the_middle (is_dot_box box) (asks stubs all) (int_eq mid_x c && int_eq mid_y j) is) in
    let P = EdgeWithin b.across.low b.across.high b.up.low b.up.high in
    let one = All-head P e es held in
    let lefts = All-weaker P (λ e. b.across.low ≤ℤ int_min e.ax e.bx) (λ e h. h.left) all held in
    let rights = All-weaker P (λ e. int_max e.ax e.bx ≤ℤ b.across.high) (λ e h. h.right) all held in
    let bottoms = All-map (λ e. b.up.low ≤ℤ int_min e.ax e.bx) turned_round all
    (All-weaker P (λ e. b.up.low ≤ℤ int_min e.ay e.by) (λ e h. h.bottom) all held) in
    let tops = All-map (λ e. int_max e.ax e.bx ≤ℤ b.up.high) turned_round all
    (All-weaker P (λ e. int_max e.ay e.by ≤ℤ b.up.high) (λ e h. h.top) all held) in
    let left = one.left in
    let right = one.right in
    let bottom = one.bottom in
    let top = one.top in
    record {
      column = rw at.0 at (ends_middle b.across.low b.across.high e.ax all (omega (arith, ints, clamps, left))
          (omega (arith, ints, clamps, right)) lefts rights);
      row = rw at.1 at (ends_middle b.up.low b.up.high e.ay (map turned_round all) (omega (arith, ints, clamps, bottom))
          (omega (arith, ints, clamps, top)) bottoms tops);
    }

one_of_them : (P : List Edge → Type 0) (p : List Edge → Bool) (cs : List (List Edge)) → All P cs → list_any p cs ≡ true
    → (es : List Edge) × (p es ≡ true) × P es
one_of_them P p [] h is = absurd cc
one_of_them P p (es ∷ cs) h is = elim (cases_Bool (p es)) [
  | inl here ↦ (es, here, All-head P es cs h)
  | inr out ↦ one_of_them P p cs (All-tail P es cs h) (rw out at is)
]

has_dot_within : (b : Extents) (stubs : Bool) (contours : List (List Edge)) (c j : ℤ) → HoldsEdges b (edges_of contours)
    → has_dot stubs contours c j ≡ true
    → LiesInBox (reached true (columns_in b)) (reached true (rows_in b)) c j
has_dot_within b stubs contours c j held is =
    let parts = all_parts (EdgeWithin b.across.low b.across.high b.up.low b.up.high) (λ es. es) contours held in
    let one = one_of_them (HoldsEdges b) (λ es. is_dot stubs es c j) contours parts is in
    dot_within b stubs one.0 c j one.2 one.1

drawn : (dots white dot : Bool) → (dots && (white && dot)) ≡ true → (dots ≡ true) × (dot ≡ true)
drawn true true dot is = (refl, is)
drawn true false dot is = absurd cc
drawn false white dot is = absurd cc

one_of_two : (a b : Bool) → (a || b) ≡ true → (a ≡ true) ⊎ (b ≡ true)
one_of_two true b is = inl refl
one_of_two false b is = inr is

pub dropout_reached : (rules : BoxedRules) (contours : List (List Edge)) (c j : ℤ) → HoldsEdges rules.extents (edges_of contours)
    → is_dropout rules contours c j ≡ true → LiesInBox (columns_of_rules rules) (rows_of_rules rules) c j
dropout_reached rules contours c j held is =
    elim (one_of_two (is_bridged rules contours c j) (is_dotted rules contours c j) is) [
      | inl bridged ↦ box_reached rules c j (bridged_in_box rules contours c j held bridged)
      | inr dotted ↦
          let both = drawn rules.rules.dots (not (is_inked contours c j)) (has_dot rules.rules.stubs contours c j) dotted in
          rw both.0 (has_dot_within rules.extents rules.rules.stubs contours c j held both.1)
    ]
