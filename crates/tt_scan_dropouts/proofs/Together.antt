-- The two passes together: the pixels that they add in a window are those of the passes there, if the black pixels of the
-- box up to five pixels round the window are known, and those next to the box.
use Rattle.std.proofs.Common.{◌≡◌, refl, sym, ap, ap₂, ◌∙◌, Bool, true, false, not, ◌&&◌, ◌||◌, List, arith}
use Rattle.std.specs.Prelude.{ℕ, ℤ, pos, ◌+ℤ◌, ◌-ℤ◌, ◌≤ℤ◌, ◌<ℤ◌, int_le, int_lt}
use Rattle.std.proofs.lemmas.Int.{ints}
use Rattle.tt_scan_edges.specs.declared.edge.Edge.{Edge}
use Rattle.tt_scan_gaps.specs.Boxes.{HoldsEdges, columns_in, extents_turned, rows_in}
use Rattle.tt_scan_gaps.specs.Dots.{has_dot}
use Rattle.tt_scan_gaps.specs.declared.extent.Extents.{Extents}
use Rattle.tt_scan_dropouts.specs.Dropouts.{edges_of, is_added_by_columns, is_added_by_rows, is_bridged, is_dropout, is_inked, outline_turned, row_adds, rules_turned}
use Rattle.tt_scan_gaps.specs.Gaps.{free_marks, is_added}
use Rattle.tt_scan_gaps.specs.Walk.{marks}
use Rattle.tt_scan_dropouts.specs.Windows.{has, widened}
use Rattle.tt_scan_gaps.specs.declared.mark.Columns.{Columns}
use Rattle.tt_scan_gaps.specs.declared.mark.Mark.{Mark}
use Rattle.tt_scan_gaps.specs.declared.mark.Rules.{Rules}
use Rattle.tt_scan_dropouts.specs.declared.boxed.BoxedRules.{BoxedRules}
use Rattle.tt_scan_dropouts.specs.declared.window.Window.{Window}
use Rattle.tt_scan_dropouts.proofs.FreeMarks.{added_kept}
use Rattle.tt_scan_dropouts.proofs.InBox.{IsColumnOf, IsGapOf, asks_within, edges_turned, held_turned, outline_within}
use Rattle.tt_scan_dropouts.proofs.Locality.{added_alike}

-- a pass by the sorted marks in free gaps adds the pixels that a pass by all marks adds
pub free_marks_add : (rules : Rules) (b : Columns) (contours : List (List Edge)) (black adds : ℤ → ℤ → Bool) (free sorted : List Mark)
    → free ≡ free_marks black (marks rules.stubs contours)
    → ((rules : Rules) (b : Columns) (black : ℤ → ℤ → Bool) (p j : ℤ)
    → is_added rules b sorted black p j ≡ is_added rules b free black p j)
    → ((p j : ℤ) → adds p j ≡ is_added rules b sorted black p j)
    → (p j : ℤ) → adds p j ≡ is_added rules b (marks rules.stubs contours) black p j
free_marks_add rules b contours black adds free sorted is same by p j =
    by p j ∙ same rules b black p j ∙ ap (λ ms. is_added rules b ms black p j) is
    ∙ added_kept rules b black (marks rules.stubs contours) p j

-- a pixel lies in a window, by its four sides
pub record LiesIn (w : Window) (c j : ℤ) : Type 0 where
  pub left : w.left ≤ℤ c
  pub right : c <ℤ (w.left +ℤ pos w.width)
  pub bottom : w.bottom ≤ℤ j
  pub top : j <ℤ (w.bottom +ℤ pos w.height)

pub lies_in : (w : Window) (c j : ℤ) → has w c j ≡ true → LiesIn w c j
lies_in w c j is = record {
  left = grind (arith, ints);
  right = grind (arith, ints);
  bottom = grind (arith, ints);
  top = grind (arith, ints);
}

pub has_it : (w : Window) (c j : ℤ) → LiesIn w c j → has w c j ≡ true
has_it w c j h =
    let left : int_le w.left c ≡ true = grind (arith, ints, h.left) in
    let right : int_lt c (w.left +ℤ pos w.width) ≡ true = grind (arith, ints, h.right) in
    let bottom : int_le w.bottom j ≡ true = grind (arith, ints, h.bottom) in
    let top : int_lt j (w.bottom +ℤ pos w.height) ≡ true = grind (arith, ints, h.top) in
    rw (left, right, bottom, top) refl

-- no further than five pixels off
near : (w : Window) (c j d k : ℤ) → LiesIn w c j
    → (c -ℤ pos 5) ≤ℤ d → d ≤ℤ (c +ℤ pos 5) → (j -ℤ pos 5) ≤ℤ k → k ≤ℤ (j +ℤ pos 5)
    → has (widened 5 w) d k ≡ true
near w c j d k h left right bottom top = has_it (widened 5 w) d k (record {
  left = omega (arith, ints, h.left, left);
  right = omega (arith, ints, h.right, right);
  bottom = omega (arith, ints, h.bottom, bottom);
  top = omega (arith, ints, h.top, top);
})

-- a pixel of the window lies in a wider one
pub wider : (n : ℕ) (w : Window) (c j : ℤ) → has w c j ≡ true → has (widened n w) c j ≡ true
wider n w c j is =
    let h = lies_in w c j is in
    has_it (widened n w) c j (record {
      left = omega (arith, ints, h.left);
      right = omega (arith, ints, h.right);
      bottom = omega (arith, ints, h.bottom);
      top = omega (arith, ints, h.top);
    })

-- a column, or a row, that is one of a box, or is next to the box
pub record IsNear (b : Columns) (c : ℤ) : Type 0 where
  pub order : b.first ≤ℤ b.last
  pub first : b.first ≤ℤ (c +ℤ pos 1)
  pub last : c ≤ℤ (b.last +ℤ pos 1)

pub record LiesNear (b : Extents) (c j : ℤ) : Type 0 where
  pub column : IsNear (columns_in b) c
  pub row : IsNear (rows_in b) j

-- the facts about a glyph in a window that both passes use
pub record Passes (rules : BoxedRules) (contours : List (List Edge)) (w : Window)
    (inked after rows columns : ℤ → ℤ → Bool) : Type 0 where
  pub held : HoldsEdges rules.extents (edges_of contours)
  pub ink : (c j : ℤ) → has (widened 5 w) c j ≡ true → LiesNear rules.extents c j → inked c j ≡ is_inked contours c j
  pub by_rows : (c j : ℤ) → rows c j ≡ row_adds rules contours inked c j
  pub also : (c j : ℤ) → after c j ≡ (inked c j || rows c j)
  pub by_columns : (p j : ℤ) → columns p j ≡ row_adds (rules_turned rules) (outline_turned contours) (λ q k. after k q) p j

-- the two pixels of a gap of a box
left_near : (b : Columns) (c : ℤ) → IsGapOf b c → IsNear b c
left_near b c gap = record {
  order = gap.order;
  first = gap.first;
  last = omega (arith, ints, gap.last);
}

right_near : (b : Columns) (c : ℤ) → IsGapOf b c → IsNear b (c +ℤ pos 1)
right_near b c gap = record {
  order = gap.order;
  first = omega (arith, ints, gap.first);
  last = omega (arith, ints, gap.last);
}

line_near : (b : Columns) (c : ℤ) → IsColumnOf b c → IsNear b c
line_near b c one = record {
  order = omega (arith, ints, one.first, one.last);
  first = omega (arith, ints, one.first);
  last = omega (arith, ints, one.last);
}

module _ {rules : BoxedRules} {contours : List (List Edge)} {w : Window} {inked after rows columns : ℤ → ℤ → Bool}
    (h : Passes rules contours w inked after rows columns) (c j : ℤ) (in_it : LiesIn w c j) where
  rows_are : (k : ℤ) → (j -ℤ pos 5) ≤ℤ k → k ≤ℤ (j +ℤ pos 5) → rows c k ≡ is_added_by_rows rules contours c k
  rows_are k low high = h.by_rows c k
      ∙ added_alike rules.rules (columns_in rules.extents) (marks rules.rules.stubs contours) inked (is_inked contours) c k
      (λ d left right some.
      let b = rules.extents in
      let lies = asks_within b.across.low b.across.high b.up.low b.up.high (marks rules.rules.stubs contours) k d
      (outline_within b.across.low b.across.high b.up.low b.up.high rules.rules.stubs contours h.held) some in
      let row = line_near (rows_in b) k lies.1 in
      ap₂ (λ a b. not a && not b)
      (h.ink d k (near w c j d k in_it left (omega (arith, ints, right)) low high)
      (record { column = left_near (columns_in b) d lies.0; row = row }))
      (h.ink (d +ℤ pos 1) k (near w c j (d +ℤ pos 1) k in_it (omega (arith, ints, left)) (omega (arith, ints, right)) low high)
      (record { column = right_near (columns_in b) d lies.0; row = row })))

  after_is : (k : ℤ) → (j -ℤ pos 5) ≤ℤ k → k ≤ℤ (j +ℤ pos 5) → LiesNear rules.extents c k
      → after c k ≡ (is_inked contours c k || is_added_by_rows rules contours c k)
  after_is k low high close = h.also c k
      ∙ ap₂ (λ a b. a || b) (h.ink c k (near w c j c k in_it (omega (arith, ints)) (omega (arith, ints)) low high) close)
      (rows_are k low high)

  columns_are : columns j c ≡ is_added_by_columns rules contours c j
  columns_are = h.by_columns j c
      ∙ added_alike rules.rules (rows_in rules.extents) (marks rules.rules.stubs (outline_turned contours))
      (λ q k. after k q) (λ q k. is_inked contours k q || is_added_by_rows rules contours k q) j c
      (λ k low high some.
      let b = rules.extents in
      let turned : HoldsEdges (extents_turned b) (edges_of (outline_turned contours)) =
      rw (edges_turned contours) (held_turned b (edges_of contours) h.held) in
      let lies = asks_within b.up.low b.up.high b.across.low b.across.high (marks rules.rules.stubs (outline_turned contours)) c k
      (outline_within b.up.low b.up.high b.across.low b.across.high rules.rules.stubs (outline_turned contours) turned) some in
      let column = line_near (columns_in b) c lies.1 in
      ap₂ (λ a b. not a && not b)
      (after_is k low (omega (arith, ints, high)) (record { column = column; row = left_near (rows_in b) k lies.0 }))
      (after_is (k +ℤ pos 1) (omega (arith, ints, low)) (omega (arith, ints, high))
      (record { column = column; row = right_near (rows_in b) k lies.0 })))

  both_are : (rows c j || columns j c) ≡ is_bridged rules contours c j
  both_are = ap₂ (λ a b. a || b) (rows_are j (omega (arith, ints)) (omega (arith, ints))) columns_are

in_window : {rules : BoxedRules} {contours : List (List Edge)} {w : Window} {inked after rows columns : ℤ → ℤ → Bool}
    → Passes rules contours w inked after rows columns → (c j : ℤ) (inside : Bool) → has w c j ≡ inside
    → ((inside && rows c j) || (inside && columns j c)) ≡ (inside && is_bridged rules contours c j)
in_window h c j true is = both_are h c j (lies_in _ c j is)
in_window h c j false is = refl

-- the pixels of the window that either pass adds
pub together : {rules : BoxedRules} {contours : List (List Edge)} {w : Window} {inked after rows columns : ℤ → ℤ → Bool}
    → Passes rules contours w inked after rows columns → (c j : ℤ)
    → ((has w c j && rows c j) || (has w c j && columns j c)) ≡ (has w c j && is_bridged rules contours c j)
together {w = w} h c j = in_window h c j (has w c j) refl

-- and the dots there
with_dots : (inside old dots white dot rows columns bridged ink : Bool) → (inside ≡ true → white ≡ not ink)
    → ((inside && rows) || (inside && columns)) ≡ (inside && bridged)
    → (((old || (inside && (dots && (white && dot)))) || (inside && rows)) || (inside && columns))
    ≡ (old || (inside && (bridged || (dots && (not ink && dot)))))
with_dots true old dots white dot rows columns bridged ink colour both =
    let here = colour refl in grind (arith, here, both)
with_dots false old dots white dot rows columns bridged ink colour both = grind arith

pub all_together : {rules : BoxedRules} {contours : List (List Edge)} {w : Window} {inked after rows columns : ℤ → ℤ → Bool}
    → Passes rules contours w inked after rows columns
    → ((c j : ℤ) → has w c j ≡ true → inked c j ≡ is_inked contours c j) → (old : Bool) (c j : ℤ)
    → (((old || (has w c j && (rules.rules.dots && (not (inked c j) && has_dot rules.rules.stubs contours c j))))
    || (has w c j && rows c j)) || (has w c j && columns j c)) ≡ (old || (has w c j && is_dropout rules contours c j))
all_together {rules = rules} {contours = contours} {w = w} {inked = inked} {rows = rows} {columns = columns} h exact old c j =
    with_dots (has w c j) old rules.rules.dots (not (inked c j)) (has_dot rules.rules.stubs contours c j) (rows c j) (columns j c)
    (is_bridged rules contours c j) (is_inked contours c j) (λ inside. ap not (exact c j inside)) (together h c j)

-- where there are no dropouts, the list is empty
pub nothing_there : (a b : Bool) → b ≡ false → false ≡ (a && b)
nothing_there true b none = sym none
nothing_there false b none = refl
