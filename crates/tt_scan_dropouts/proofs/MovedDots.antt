-- Dots move with their outline, and so do all dropouts.
use Rattle.std.proofs.Common.{◌≡◌, refl, ◌∙◌, ap, ap₂, Bool, not, ◌&&◌, ◌||◌, List, [], ◌∷◌, Option, Some, None, arith}
use Rattle.std.specs.Prelude.{ℤ, pos, negsuc, ◌+ℤ◌, ◌*ℤ◌, ◌≤ℤ◌, ◌<ℤ◌, int_le, map}
use Rattle.std.specs.Int.{int_div_euclid, int_max, int_min}
use Rattle.std.specs.Option.{option_map}
use Rattle.std.specs.Ordering.{int_eq}
use Rattle.std.proofs.lemmas.Int.{ints}
use Rattle.tt_scan_edges.specs.declared.edge.Edge.{Edge}
use Rattle.tt_scan_gaps.specs.Boxes.{columns_in, greatest_x, least_x}
use Rattle.tt_scan_gaps.specs.Dots.{are_two, asks, asks_by_rows, ends_box, has_dot, is_dot, is_dot_box, is_dot_in, length_of, middle}
use Rattle.tt_scan_gaps.specs.Gaps.{some_asks}
use Rattle.tt_scan_gaps.specs.Seen.{turned_round}
use Rattle.tt_scan_gaps.specs.Walk.{contour_marks}
use Rattle.tt_scan_gaps.specs.declared.extent.Extent.{Extent}
use Rattle.tt_scan_gaps.specs.declared.extent.Extents.{Extents}
use Rattle.tt_scan_gaps.specs.declared.mark.Columns.{Columns}
use Rattle.tt_scan_dropouts.specs.Laws.{DropoutsMoved, extent_moved, extents_moved, moved, outline_moved}
use Rattle.tt_scan_dropouts.proofs.Moved.{bridged_moved, contour_turned, ink_moved}
use Rattle.tt_scan_dropouts.proofs.MovedGaps.{asks_kept, between_moved, columns_moved, greatest_x_moved, least_x_moved}
use Rattle.tt_scan_dropouts.proofs.MovedLines.{apart_moved}
use Rattle.tt_scan_dropouts.proofs.MovedMarks.{contour_marks_moved, equal_moved}

-- whether a contour needs a pixel

by_rows_moved : (k m : ℤ) (stubs : Bool) (es : List Edge) → asks_by_rows stubs (map (moved k m) es) ≡ asks_by_rows stubs es
by_rows_moved k m stubs es = ap some_asks (contour_marks_moved k m stubs es) ∙ asks_kept k m (contour_marks stubs es)

asks_moved : (k m : ℤ) (stubs : Bool) (es : List Edge) → asks stubs (map (moved k m) es) ≡ asks stubs es
asks_moved k m stubs es =
    ap₂ (λ a b. a || b) (by_rows_moved k m stubs es)
    (ap (asks_by_rows stubs) (contour_turned k m es) ∙ by_rows_moved m k stubs (map turned_round es))

-- the box of a contour

abbrev extent_of : ℤ → ℤ → Extent
extent_of low high = record { low = low; high = high }

abbrev box_by : Extent → Extent → Option Extents
box_by across up = Some (record { across = across; up = up })

ends_extent_moved : (k m x : ℤ) (es : List Edge)
    → extent_of (least_x (x +ℤ pos 8192 *ℤ k) (map (moved k m) es)) (greatest_x (x +ℤ pos 8192 *ℤ k) (map (moved k m) es))
    ≡ extent_moved k (extent_of (least_x x es) (greatest_x x es))
ends_extent_moved k m x es = ap₂ extent_of (least_x_moved k m x es) (greatest_x_moved k m x es)

box_moved : (k m : ℤ) (es : List Edge) → ends_box (map (moved k m) es) ≡ option_map (extents_moved k m) (ends_box es)
box_moved k m [] = refl
box_moved k m (e ∷ es) =
    let y : ℤ = e.ay +ℤ pos 8192 *ℤ m in
    ap₂ box_by (ends_extent_moved k m e.ax (e ∷ es))
    (ap (λ ts. extent_of (least_x y ts) (greatest_x y ts)) (contour_turned k m (e ∷ es))
    ∙ ends_extent_moved m k e.ay (map turned_round (e ∷ es)))

two_kept : (k : ℤ) (b : Columns) → are_two (columns_moved k b) ≡ are_two b
two_kept k b = ap (λ d. int_le d (pos 1)) (apart_moved b.last b.first k)

two_moved : (k : ℤ) (e : Extent)
    → are_two (columns_in (record { across = extent_moved k e; up = e })) ≡ are_two (columns_in (record { across = e; up = e }))
two_moved k e = ap are_two (between_moved k e.low e.high) ∙ two_kept k (columns_in (record { across = e; up = e }))

length_kept : (k : ℤ) (e : Extent) → length_of (extent_moved k e) ≡ length_of e
length_kept k e = apart_moved e.high e.low (pos 8192 *ℤ k)

dot_box_kept : (k m : ℤ) (b : Extents) → is_dot_box (extents_moved k m b) ≡ is_dot_box b
dot_box_kept k m b =
    ap₂ (λ p q. p && q) (ap₂ (λ p q. p && q) (two_moved k b.across) (two_moved m b.up))
    (ap₂ (λ w h. int_le (pos 3072) (int_max w h) && int_le (pos 1024) (int_min w h)) (length_kept k b.across) (length_kept m b.up))

half_low : (n : ℤ) → (pos 16384 *ℤ int_div_euclid n (pos 16384)) ≤ℤ n
half_low (pos a) = omega (arith, ints)
half_low (negsuc a) = omega (arith, ints)

half_high : (n : ℤ) → n <ℤ (pos 16384 *ℤ int_div_euclid n (pos 16384) +ℤ pos 16384)
half_high (pos a) = omega (arith, ints)
half_high (negsuc a) = omega (arith, ints)

middle_moved : (k : ℤ) (e : Extent) → middle (extent_moved k e) ≡ middle e +ℤ k
middle_moved k e =
    let there : ℤ = (e.low +ℤ pos 8192 *ℤ k) +ℤ (e.high +ℤ pos 8192 *ℤ k) in
    let low = half_low (e.low +ℤ e.high) in
    let high = half_high (e.low +ℤ e.high) in
    let there_low = half_low there in
    let there_high = half_high there in
    omega (arith, ints, low, high, there_low, there_high)

middle_at : (k : ℤ) (e : Extent) (c : ℤ) → int_eq (middle (extent_moved k e)) (c +ℤ k) ≡ int_eq (middle e) c
middle_at k e c = ap (λ n. int_eq n (c +ℤ k)) (middle_moved k e) ∙ equal_moved (middle e) c k

-- dots

dot_in_moved : (k m : ℤ) (box : Option Extents) (asking : Bool) (c j : ℤ)
    → is_dot_in (option_map (extents_moved k m) box) asking (c +ℤ k) (j +ℤ m) ≡ is_dot_in box asking c j
dot_in_moved k m None asking c j = refl
dot_in_moved k m (Some b) asking c j =
    ap₂ (λ p q. p && (not asking && q)) (dot_box_kept k m b)
    (ap₂ (λ p q. p && q) (middle_at k b.across c) (middle_at m b.up j))

dot_moved : (k m : ℤ) (stubs : Bool) (es : List Edge) (c j : ℤ)
    → is_dot stubs (map (moved k m) es) (c +ℤ k) (j +ℤ m) ≡ is_dot stubs es c j
unfolding is_dot
dot_moved k m stubs es c j =
    ap₂ (λ box asking. is_dot_in box asking (c +ℤ k) (j +ℤ m)) (box_moved k m es) (asks_moved k m stubs es)
    ∙ dot_in_moved k m (ends_box es) (asks stubs es) c j

has_dot_moved : (k m : ℤ) (stubs : Bool) (contours : List (List Edge)) (c j : ℤ)
    → has_dot stubs (outline_moved k m contours) (c +ℤ k) (j +ℤ m) ≡ has_dot stubs contours c j
has_dot_moved k m stubs [] c j = refl
has_dot_moved k m stubs (es ∷ contours) c j =
    ap₂ (λ a b. a || b) (dot_moved k m stubs es c j) (has_dot_moved k m stubs contours c j)

pub dropouts_move : DropoutsMoved
dropouts_move rules contours k m c j =
    ap₂ (λ a b. a || b) (bridged_moved k m rules contours c j)
    (ap₂ (λ ink dot. rules.rules.dots && (not ink && dot)) (ink_moved k m contours c j)
    (has_dot_moved k m rules.rules.stubs contours c j))
