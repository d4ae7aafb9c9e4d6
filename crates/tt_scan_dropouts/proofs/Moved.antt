-- The pixels of both passes move with their outline.
use Rattle.std.proofs.Common.{◌≡◌, refl, sym, ◌∙◌, ap, ap₂, Bool, not, ◌&&◌, ◌||◌, List, [], ◌∷◌, ◌++◌, arith}
use Rattle.std.specs.Prelude.{ℤ, pos, ◌+ℤ◌, ◌*ℤ◌, map}
use Rattle.std.proofs.lemmas.Int.{ints}
use Rattle.std.proofs.lemmas.List.{map-append}
use Rattle.tt_scan_edges.specs.declared.edge.Edge.{Edge}
use Rattle.tt_scan_edges.specs.Winding.{is_between, is_black, is_zero, lies_on, lies_on_one, side, turned, winding}
use Rattle.tt_scan_gaps.specs.Crossings.{centre}
use Rattle.tt_scan_gaps.specs.Boxes.{columns_in}
use Rattle.tt_scan_gaps.specs.Seen.{turned_round}
use Rattle.tt_scan_dropouts.specs.Dropouts.{edges_of, is_added_by_columns, is_added_by_rows, is_bridged, is_inked, outline_turned, row_adds, rules_turned}
use Rattle.tt_scan_gaps.specs.Gaps.{is_added}
use Rattle.tt_scan_dropouts.specs.Laws.{moved, outline_moved, rules_moved}
use Rattle.tt_scan_gaps.specs.Walk.{marks}
use Rattle.tt_scan_dropouts.specs.declared.boxed.BoxedRules.{BoxedRules}
use Rattle.tt_scan_dropouts.proofs.MovedGaps.{IsMoved, added_moved, between_moved, up_to_moved}
use Rattle.tt_scan_dropouts.proofs.MovedLines.{apart_moved, centre_moved, less_moved}
use Rattle.tt_scan_dropouts.proofs.MovedMarks.{marks_moved}

-- blackness by rules 1 and 2

side_kept : (k m : ℤ) (e : Edge) (x y : ℤ) → side (moved k m e) (x +ℤ pos 8192 *ℤ k) (y +ℤ pos 8192 *ℤ m) ≡ side e x y
side_kept k m e x y =
    rw (
      apart_moved e.bx e.ax (pos 8192 *ℤ k),
      apart_moved y e.ay (pos 8192 *ℤ m),
      apart_moved e.by e.ay (pos 8192 *ℤ m),
      apart_moved x e.ax (pos 8192 *ℤ k),
    ) refl

between_kept : (a b z d : ℤ) → is_between (a +ℤ d) (b +ℤ d) (z +ℤ d) ≡ is_between a b z
between_kept a b z d = grind (arith, ints)

on_kept : (k m : ℤ) (e : Edge) (x y : ℤ)
    → lies_on (moved k m e) (x +ℤ pos 8192 *ℤ k) (y +ℤ pos 8192 *ℤ m) ≡ lies_on e x y
on_kept k m e x y =
    ap (λ z. is_zero z && is_between (e.ax +ℤ pos 8192 *ℤ k) (e.bx +ℤ pos 8192 *ℤ k) (x +ℤ pos 8192 *ℤ k)
    && is_between (e.ay +ℤ pos 8192 *ℤ m) (e.by +ℤ pos 8192 *ℤ m) (y +ℤ pos 8192 *ℤ m)) (side_kept k m e x y)
    ∙ ap₂ (λ a b. is_zero (side e x y) && a && b) (between_kept e.ax e.bx x (pos 8192 *ℤ k))
    (between_kept e.ay e.by y (pos 8192 *ℤ m))

turn_kept : (k m : ℤ) (e : Edge) (x y : ℤ)
    → turned (moved k m e) (x +ℤ pos 8192 *ℤ k) (y +ℤ pos 8192 *ℤ m) ≡ turned e x y
turn_kept k m e x y =
    rw (
      side_kept k m e x y,
      up_to_moved e.ay y (pos 8192 *ℤ m),
      less_moved y e.by (pos 8192 *ℤ m),
      up_to_moved e.by y (pos 8192 *ℤ m),
      less_moved y e.ay (pos 8192 *ℤ m),
    ) refl

on_one_kept : (k m : ℤ) (es : List Edge) (x y : ℤ)
    → lies_on_one (map (moved k m) es) (x +ℤ pos 8192 *ℤ k) (y +ℤ pos 8192 *ℤ m) ≡ lies_on_one es x y
on_one_kept k m [] x y = refl
on_one_kept k m (e ∷ es) x y = ap₂ (λ a b. a || b) (on_kept k m e x y) (on_one_kept k m es x y)

winding_kept : (k m : ℤ) (es : List Edge) (x y : ℤ)
    → winding (map (moved k m) es) (x +ℤ pos 8192 *ℤ k) (y +ℤ pos 8192 *ℤ m) ≡ winding es x y
winding_kept k m [] x y = refl
winding_kept k m (e ∷ es) x y = ap₂ (λ a b. a +ℤ b) (turn_kept k m e x y) (winding_kept k m es x y)

black_kept : (k m : ℤ) (es : List Edge) (x y : ℤ)
    → is_black (map (moved k m) es) (x +ℤ pos 8192 *ℤ k) (y +ℤ pos 8192 *ℤ m) ≡ is_black es x y
black_kept k m es x y = ap₂ (λ a w. a || not (is_zero w)) (on_one_kept k m es x y) (winding_kept k m es x y)

edges_moved : (k m : ℤ) (contours : List (List Edge))
    → edges_of (outline_moved k m contours) ≡ map (moved k m) (edges_of contours)
edges_moved k m [] = refl
edges_moved k m (es ∷ contours) =
    ap (λ rest. map (moved k m) es ++ rest) (edges_moved k m contours)
    ∙ sym (map-append (moved k m) es (edges_of contours))

pub ink_moved : (k m : ℤ) (contours : List (List Edge))
    → IsMoved k m (is_inked contours) (is_inked (outline_moved k m contours))
ink_moved k m contours c j =
    ap (λ es. is_black es (centre (c +ℤ k)) (centre (j +ℤ m))) (edges_moved k m contours)
    ∙ ap₂ (λ x y. is_black (map (moved k m) (edges_of contours)) x y) (centre_moved c k) (centre_moved j m)
    ∙ black_kept k m (edges_of contours) (centre c) (centre j)

-- a pass

adds_moved : (k m : ℤ) (black there : ℤ → ℤ → Bool) → IsMoved k m black there
    → (rules : BoxedRules) (contours : List (List Edge))
    → IsMoved k m (row_adds rules contours black) (row_adds (rules_moved k m rules) (outline_moved k m contours) there)
adds_moved k m black there same rules contours p j =
    ap₂ (λ b ms. is_added rules.rules b ms there (p +ℤ k) (j +ℤ m))
    (between_moved k rules.extents.across.low rules.extents.across.high) (marks_moved k m rules.rules.stubs contours)
    ∙ added_moved k m black there same rules.rules (columns_in rules.extents) (marks rules.rules.stubs contours) p j

-- both passes

rows_moved : (k m : ℤ) (rules : BoxedRules) (contours : List (List Edge))
    → IsMoved k m (is_added_by_rows rules contours) (is_added_by_rows (rules_moved k m rules) (outline_moved k m contours))
rows_moved k m rules contours = adds_moved k m (is_inked contours) (is_inked (outline_moved k m contours))
    (ink_moved k m contours) rules contours

pub contour_turned : (k m : ℤ) (es : List Edge)
    → map turned_round (map (moved k m) es) ≡ map (moved m k) (map turned_round es)
contour_turned k m [] = refl
contour_turned k m (e ∷ es) = ap (λ rest. moved m k (turned_round e) ∷ rest) (contour_turned k m es)

turned_moved : (k m : ℤ) (contours : List (List Edge))
    → outline_turned (outline_moved k m contours) ≡ outline_moved m k (outline_turned contours)
turned_moved k m [] = refl
turned_moved k m (es ∷ contours) = ap₂ (λ a b. a ∷ b) (contour_turned k m es) (turned_moved k m contours)

columns_moved : (k m : ℤ) (rules : BoxedRules) (contours : List (List Edge))
    → IsMoved k m (is_added_by_columns rules contours) (is_added_by_columns (rules_moved k m rules) (outline_moved k m contours))
columns_moved k m rules contours c j =
    ap (λ all. row_adds (rules_turned (rules_moved k m rules)) all (λ q p. is_inked (outline_moved k m contours) p q
    || is_added_by_rows (rules_moved k m rules) (outline_moved k m contours) p q) (j +ℤ m) (c +ℤ k)) (turned_moved k m contours)
    ∙ adds_moved m k (λ q p. is_inked contours p q || is_added_by_rows rules contours p q)
    (λ q p. is_inked (outline_moved k m contours) p q || is_added_by_rows (rules_moved k m rules) (outline_moved k m contours) p q)
    (λ q p. ap₂ (λ a b. a || b) (ink_moved k m contours p q) (rows_moved k m rules contours p q))
    (rules_turned rules) (outline_turned contours) j c

pub bridged_moved : (k m : ℤ) (rules : BoxedRules) (contours : List (List Edge))
    → IsMoved k m (is_bridged rules contours) (is_bridged (rules_moved k m rules) (outline_moved k m contours))
bridged_moved k m rules contours c j =
    ap₂ (λ a b. a || b) (rows_moved k m rules contours c j) (columns_moved k m rules contours c j)
