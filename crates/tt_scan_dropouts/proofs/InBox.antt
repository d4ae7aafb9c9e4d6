-- The dropouts of an outline lie in its box, so they need be sought there alone.
use Rattle.std.proofs.Common.{◌≡◌, refl, sym, ◌∙◌, ap, Bool, true, false, ◌&&◌, ◌||◌, List, [], ◌∷◌, ◌++◌, map, filter, if◌then◌else◌, inl, inr, ◌⊎◌, arith}
use Rattle.std.specs.Prelude.{ℤ, pos, ◌+ℤ◌, ◌-ℤ◌, ◌*ℤ◌, ◌≤ℤ◌, ◌<ℤ◌, int_le, All}
use Rattle.std.specs.Int.{int_max, int_min}
use Rattle.std.specs.Ordering.{int_eq}
use Rattle.std.proofs.lemmas.Bool.{cases_Bool}
use Rattle.std.proofs.lemmas.Int.{clamps, ints}
use Rattle.std.proofs.lemmas.List.{map-append}
use Rattle.std.proofs.lemmas.List.Elements.{All-cons, All-head, All-nil, All-tail, All-weaker}
use Rattle.tt_scan_edges.specs.declared.edge.Edge.{Edge}
use Rattle.tt_scan_gaps.specs.Crossings.{centre, gap_at, line_from}
use Rattle.tt_scan_gaps.specs.Boxes.{EdgeWithin, HoldsEdges, columns_between, columns_in, columns_of, extents_turned, greatest_x, least_x, rows_in}
use Rattle.tt_scan_gaps.specs.Seen.{turned_round}
use Rattle.tt_scan_dropouts.specs.Dropouts.{edges_of, is_added_by_columns, is_added_by_rows, is_bridged, is_inked, outline_turned}
use Rattle.tt_scan_gaps.specs.Gaps.{asked, boxed, gap_marks, in_gap, is_added, is_asked, is_free, leans_right, some_asks}
use Rattle.tt_scan_gaps.specs.Walk.{marks}
use Rattle.tt_scan_gaps.specs.declared.mark.Columns.{Columns}
use Rattle.tt_scan_gaps.specs.declared.mark.Mark.{Mark}
use Rattle.tt_scan_gaps.specs.declared.extent.Extents.{Extents}
use Rattle.tt_scan_gaps.specs.declared.mark.Rules.{Rules}
use Rattle.tt_scan_dropouts.specs.declared.boxed.BoxedRules.{BoxedRules}
use Rattle.tt_scan_gaps.proofs.Bounds.{EdgeLeaves, IsWithin, edge_leaves_within}
use Rattle.tt_scan_dropouts.proofs.Leaves.{outline_leaves}
use Rattle.tt_scan_gaps.proofs.Lines.{floor_high, floor_low}

-- the least and the greatest x of edge ends

pub least_first : (x : ℤ) (es : List Edge) → least_x x es ≤ℤ x
least_first x [] = omega (arith, ints)
least_first x (e ∷ es) = let rest = least_first (int_min x (int_min e.ax e.bx)) es in omega (arith, ints, clamps)

least_of_all : (x : ℤ) (es : List Edge) → All (λ e. least_x x es ≤ℤ int_min e.ax e.bx) es
least_of_all x [] = All-nil _
least_of_all x (e ∷ es) =
    let first = least_first (int_min x (int_min e.ax e.bx)) es in
    All-cons (λ f. least_x x (e ∷ es) ≤ℤ int_min f.ax f.bx) e es (omega (arith, ints, clamps, first))
    (least_of_all (int_min x (int_min e.ax e.bx)) es)

pub greatest_first : (x : ℤ) (es : List Edge) → x ≤ℤ greatest_x x es
greatest_first x [] = omega (arith, ints)
greatest_first x (e ∷ es) = let rest = greatest_first (int_max x (int_max e.ax e.bx)) es in omega (arith, ints, clamps)

greatest_of_all : (x : ℤ) (es : List Edge) → All (λ e. int_max e.ax e.bx ≤ℤ greatest_x x es) es
greatest_of_all x [] = All-nil _
greatest_of_all x (e ∷ es) =
    let first = greatest_first (int_max x (int_max e.ax e.bx)) es in
    All-cons (λ f. int_max f.ax f.bx ≤ℤ greatest_x x (e ∷ es)) e es (omega (arith, ints, clamps, first))
    (greatest_of_all (int_max x (int_max e.ax e.bx)) es)

all_of_map : {X Y : Type 0} (P : Y → Type 0) (f : X → Y) (xs : List X) → All P (map f xs) → All (λ x. P (f x)) xs
all_of_map P f [] h = All-nil (λ x. P (f x))
all_of_map P f (x ∷ xs) h =
    All-cons (λ x. P (f x)) x xs (All-head P (f x) (map f xs) h) (all_of_map P f xs (All-tail P (f x) (map f xs) h))

-- the edges of an outline lie in its box
pub edges_within : (x y : ℤ) (es : List Edge) → All (EdgeWithin (least_x x es) (greatest_x x es)
    (least_x y (map turned_round es)) (greatest_x y (map turned_round es))) es
edges_within x y es =
    let low = all_of_map (λ e. least_x y (map turned_round es) ≤ℤ int_min e.ax e.bx) turned_round es
    (least_of_all y (map turned_round es)) in
    let high = all_of_map (λ e. int_max e.ax e.bx ≤ℤ greatest_x y (map turned_round es)) turned_round es
    (greatest_of_all y (map turned_round es)) in
    λ k d less. record {
      left = least_of_all x es k d less;
      right = greatest_of_all x es k d less;
      bottom = low k d less;
      top = high k d less;
    }

-- a pixel of a row that goes through the box

pub record IsColumnOf (b : Columns) (c : ℤ) : Type 0 where
  pub first : b.first ≤ℤ c
  pub last : c ≤ℤ b.last

-- some mark of a gap that needs a pixel
asking : (P : Mark → Type 0) (p : Mark → Bool) (ms : List Mark) → All P ms → some_asks (filter p ms) ≡ true
    → (m : Mark) × (p m ≡ true) × P m
asking P p [] h some = absurd cc
asking P p (m ∷ ms) h some = elim (cases_Bool (p m)) [
  | inl here ↦ (m, here, All-head P m ms h)
  | inr out ↦ asking P p ms (All-tail P m ms h) (rw out at some)
]

-- a gap that reaches into the columns
pub record IsGapOf (b : Columns) (c : ℤ) : Type 0 where
  pub order : b.first ≤ℤ b.last
  pub first : b.first ≤ℤ (c +ℤ pos 1)
  pub last : c ≤ℤ b.last

gap_within : (l r c : ℤ) → l <ℤ centre (c +ℤ pos 1) → centre c ≤ℤ r → IsGapOf (columns_between l r) c
gap_within l r c low high =
    let l_low = floor_low (l +ℤ pos 4095) in
    let r_high = floor_high (r -ℤ pos 4096) in
    let from : line_from l ≤ℤ (c +ℤ pos 1) = omega (arith, ints) in
    let to : c ≤ℤ gap_at r = omega (arith, ints) in
    elim (cases_Bool (int_le (line_from l) (gap_at r))) [
      | inl some ↦ rw some (record { order = grind (arith, ints, some); first = from; last = to })
      | inr none ↦
          let apart : gap_at r <ℤ line_from l = grind (arith, ints, none) in
          elim (cases_Bool (int_le (pos 16384 *ℤ line_from l) (l +ℤ r))) [
            | inl right ↦ rw (none, right) (record {
              order = omega (arith, ints);
              first = from;
              last = omega (arith, ints, apart, to);
            })
            | inr left ↦ rw (none, left) (record {
              order = omega (arith, ints);
              first = omega (arith, ints, apart, from);
              last = to;
            })
          ]
    ]

-- a gap of a box's columns takes a pixel in these columns
boxed_within : (b : Columns) (c p : ℤ) (right : Bool) → IsGapOf b c
    → int_eq (boxed b c (if right then c +ℤ pos 1 else c)) p ≡ true → IsColumnOf b p
boxed_within b c p true gap is = record { first = grind (arith, ints); last = grind (arith, ints) }
boxed_within b c p false gap is = record { first = grind (arith, ints); last = grind (arith, ints) }

pub line_within : (b t j : ℤ) → b ≤ℤ centre j → centre j ≤ℤ t → IsColumnOf (columns_between b t) j
line_within b t j low high =
    let b_low = floor_low (b +ℤ pos 4095) in
    let t_high = floor_high (t -ℤ pos 4096) in
    let from : line_from b ≤ℤ j = omega (arith, ints) in
    let to : j ≤ℤ gap_at t = omega (arith, ints) in
    let some : int_le (line_from b) (gap_at t) ≡ true = grind (arith, ints, from, to) in
    rw some (record { first = from; last = to })

-- a pixel lies in a box, by its columns and its rows
pub record LiesInBox (columns rows : Columns) (c j : ℤ) : Type 0 where
  pub column : IsColumnOf columns c
  pub row : IsColumnOf rows j

-- a gap with a mark that needs a pixel reaches into every box with the gap's marks, on a line of the box
pub asks_within : (l r b t : ℤ) (ms : List Mark) (j c : ℤ) → All (λ m. IsWithin l r b t m.at) ms
    → some_asks (gap_marks ms j c) ≡ true → IsGapOf (columns_between l r) c × IsColumnOf (columns_between b t) j
asks_within l r b t ms j c h some =
    let mark = asking (λ m. IsWithin l r b t m.at) (in_gap j c) ms h some in
    let line : mark.0.at.line ≡ j = grind (arith, ints, mark.1) in
    let gap : mark.0.at.gap ≡ c = grind (arith, ints, mark.1) in (
      gap_within l r c (rw gap at mark.2.left) (rw gap at mark.2.right),
      line_within b t j (rw line at mark.2.bottom) (rw line at mark.2.top),
    )

-- the pixel that a gap needs lies in every box with the gap's marks
asked_within : (rules : Rules) (l r b t : ℤ) (ms : List Mark) (black : ℤ → ℤ → Bool) (j c p : ℤ)
    → All (λ m. IsWithin l r b t m.at) ms → is_asked (asked rules (columns_between l r) ms black j c) p ≡ true
    → LiesInBox (columns_between l r) (columns_between b t) p j
asked_within rules l r b t ms black j c p h is = elim (cases_Bool (is_free black c j && some_asks (gap_marks ms j c))) [
  | inl both ↦
      let some : some_asks (gap_marks ms j c) ≡ true = grind (arith, both) in
      let lies = asks_within l r b t ms j c h some in
      record {
        column = boxed_within (columns_between l r) c p (rules.smart && leans_right (gap_marks ms j c)) lies.0 (rw both at is);
        row = lies.1;
      }
  | inr none ↦ absurd (grind (arith, none, is))
]

added_within : (rules : Rules) (l r b t : ℤ) (ms : List Mark) (black : ℤ → ℤ → Bool) (p j : ℤ)
    → All (λ m. IsWithin l r b t m.at) ms → is_added rules (columns_between l r) ms black p j ≡ true
    → LiesInBox (columns_between l r) (columns_between b t) p j
added_within rules l r b t ms black p j h is =
    elim (cases_Bool (is_asked (asked rules (columns_between l r) ms black j p) p)) [
      | inl here ↦ asked_within rules l r b t ms black j p p h here
      | inr other ↦ asked_within rules l r b t ms black j (p -ℤ pos 1) p h (grind (arith, other, is))
    ]

pub outline_within : (l r b t : ℤ) (stubs : Bool) (contours : List (List Edge))
    → All (EdgeWithin l r b t) (edges_of contours)
    → All (λ m. IsWithin l r b t m.at) (marks stubs contours)
outline_within l r b t stubs contours h = outline_leaves (IsWithin l r b t) stubs contours
    (All-weaker (EdgeWithin l r b t) (EdgeLeaves (IsWithin l r b t)) (edge_leaves_within l r b t) (edges_of contours) h)

-- the box of a glyph has a pixel
abbrev pub LiesInExtents : Extents → ℤ → ℤ → Type 0
LiesInExtents b c j = LiesInBox (columns_in b) (rows_in b) c j

-- the pixels that a pass over the rows of an outline adds lie in a box that holds its edges
pub added_in_box : (rules : Rules) (b : Extents) (contours : List (List Edge)) (black : ℤ → ℤ → Bool) (p j : ℤ)
    → HoldsEdges b (edges_of contours) → is_added rules (columns_in b) (marks rules.stubs contours) black p j ≡ true
    → LiesInExtents b p j
added_in_box rules b contours black p j held is =
    added_within rules b.across.low b.across.high b.up.low b.up.high (marks rules.stubs contours) black p j
    (outline_within b.across.low b.across.high b.up.low b.up.high rules.stubs contours held) is

-- the box of edges has a pixel
abbrev pub LiesInBoxOf : List Edge → ℤ → ℤ → Type 0
LiesInBoxOf es c j = LiesInBox (columns_of es) (columns_of (map turned_round es)) c j

-- the edges of the turned outline are the turned edges, and turned again the edges

pub edges_turned : (contours : List (List Edge)) → edges_of (outline_turned contours) ≡ map turned_round (edges_of contours)
edges_turned [] = refl
edges_turned (es ∷ contours) =
    ap (λ rest. map turned_round es ++ rest) (edges_turned contours)
    ∙ sym (map-append turned_round es (edges_of contours))

pub turned_twice : (es : List Edge) → map turned_round (map turned_round es) ≡ es
turned_twice [] = refl
turned_twice (e ∷ es) = ap (λ rest. e ∷ rest) (turned_twice es)

-- edges turned lie in the turned box
pub held_turned : (b : Extents) (es : List Edge) → HoldsEdges b es → HoldsEdges (extents_turned b) (map turned_round es)
held_turned b [] held = All-nil (EdgeWithin b.up.low b.up.high b.across.low b.across.high)
held_turned b (e ∷ es) held =
    let one = All-head (EdgeWithin b.across.low b.across.high b.up.low b.up.high) e es held in
    let rest = All-tail (EdgeWithin b.across.low b.across.high b.up.low b.up.high) e es held in
    All-cons (EdgeWithin b.up.low b.up.high b.across.low b.across.high) (turned_round e) (map turned_round es)
    (record { left = one.bottom; right = one.top; bottom = one.left; top = one.right }) (held_turned b es rest)

-- a dropout lies in the box

by_rows_in_box : (rules : BoxedRules) (contours : List (List Edge)) (c j : ℤ) → HoldsEdges rules.extents (edges_of contours)
    → is_added_by_rows rules contours c j ≡ true → LiesInExtents rules.extents c j
by_rows_in_box rules contours c j held is =
    added_in_box rules.rules rules.extents contours (is_inked contours) c j held is

by_columns_in_box : (rules : BoxedRules) (contours : List (List Edge)) (c j : ℤ) → HoldsEdges rules.extents (edges_of contours)
    → is_added_by_columns rules contours c j ≡ true → LiesInExtents rules.extents c j
by_columns_in_box rules contours c j held is =
    let turned : HoldsEdges (extents_turned rules.extents) (edges_of (outline_turned contours)) =
    rw (edges_turned contours) (held_turned rules.extents (edges_of contours) held) in
    let at = added_in_box rules.rules (extents_turned rules.extents) (outline_turned contours)
    (λ j c. is_inked contours c j || is_added_by_rows rules contours c j) j c turned is in
    record { column = at.row; row = at.column }

one_of_two : (a b : Bool) → (a || b) ≡ true → (a ≡ true) ⊎ (b ≡ true)
one_of_two true b is = inl refl
one_of_two false b is = inr is

pub bridged_in_box : (rules : BoxedRules) (contours : List (List Edge)) (c j : ℤ) → HoldsEdges rules.extents (edges_of contours)
    → is_bridged rules contours c j ≡ true → LiesInExtents rules.extents c j
bridged_in_box rules contours c j held is =
    elim (one_of_two (is_added_by_rows rules contours c j) (is_added_by_columns rules contours c j) is) [
      | inl rows ↦ by_rows_in_box rules contours c j held rows
      | inr columns ↦ by_columns_in_box rules contours c j held columns
    ]
