-- The box of black pixels in near columns and lines is near.
use Rattle.std.proofs.Common.{ℕ, zero, suc, ◌^◌, ◌<◌, Bool, true, false, if◌then◌else◌, List, Option, None, Some, ℤ, pos, neg_ℤ, ◌+ℤ◌, ◌≤ℤ◌, ◌<ℤ◌, All, arith}
use Rattle.std.specs.Prelude.{IfSome, unsigned_abs}
use Rattle.std.proofs.lemmas.Int.{clamps, ints}
use Rattle.tt_scan_edges.specs.Winding.{EdgeFits}
use Rattle.tt_scan_edges.specs.declared.edge.Edge.{Edge}
use Rattle.tt_scan_gaps.specs.Boxes.{ExtentsFit}
use Rattle.tt_scan_gaps.specs.declared.mark.Columns.{Columns}
use Rattle.tt_scan_dropouts.specs.declared.boxed.BoxedRules.{BoxedRules}
use Rattle.tt_scan_ink.proofs.Near.{columns_near, lines_near, reached_near}
use Rattle.tt_bitmap.specs.Inks.{joined}
use Rattle.tt_scan_ink.specs.Ink.{count_of, dropouts_ink, edges_ink, ink_in, line_ink, lines_ink, pixel_box}
use Rattle.tt_scan_ink.specs.Least.{AreNear, IsNear}
use Rattle.tt_bitmap.specs.declared.ink.LeastBox.{LeastBox}

pub joined_near : (a b : Option LeastBox) → IfSome a IsNear → IfSome b IsNear → IfSome (joined a b) IsNear
joined_near None b is also = also
joined_near (Some a) None is also = is
joined_near (Some a) (Some b) is also = record {
  left = let x = is.left in let y = also.left in omega (arith, ints, clamps, x, y);
  bottom = let x = is.bottom in let y = also.bottom in omega (arith, ints, clamps, x, y);
  right = let x = is.right in let y = also.right in omega (arith, ints, clamps, x, y);
  top = let x = is.top in let y = also.top in omega (arith, ints, clamps, x, y);
}

pixel_near : (black : Bool) (c j : ℤ) → unsigned_abs c < 2 ^ 18 → unsigned_abs j < 2 ^ 18
    → IfSome (if black then Some (pixel_box c j) else None) IsNear
pixel_near true c j across up = record { left = across; bottom = up; right = across; top = up }
pixel_near false c j across up = tt

line_near : (black : ℤ → ℤ → Bool) (j c : ℤ) (n : ℕ) → unsigned_abs j < 2 ^ 18 → neg_ℤ (pos (2 ^ 18)) <ℤ c
    → (c +ℤ pos n) ≤ℤ pos (2 ^ 18) → IfSome (line_ink black j c n) IsNear
line_near black j c zero up low high = tt
line_near black j c (suc n) up low high =
    joined_near (if black c j then Some (pixel_box c j) else None) (line_ink black j (c +ℤ pos 1) n)
    (pixel_near (black c j) c j (omega (arith, ints, low, high)) up)
    (line_near black j (c +ℤ pos 1) n up (omega (arith, ints, low)) (omega (arith, ints, high)))

rows_near : (black : ℤ → ℤ → Bool) (columns : Columns) (j : ℤ) (n : ℕ) → AreNear columns → neg_ℤ (pos (2 ^ 18)) <ℤ j
    → (j +ℤ pos n) ≤ℤ pos (2 ^ 18) → IfSome (lines_ink black columns j n) IsNear
rows_near black columns j zero near low high = tt
rows_near black columns j (suc n) near low high =
    let first = near.first in
    let last = near.last in
    let order = near.order in
    joined_near (line_ink black j columns.first (count_of columns)) (lines_ink black columns (j +ℤ pos 1) n)
    (line_near black j columns.first (count_of columns) (omega (arith, ints, low, high)) (omega (arith, ints, first))
    (omega (arith, ints, first, last, order)))
    (rows_near black columns (j +ℤ pos 1) n near (omega (arith, ints, low)) (omega (arith, ints, high)))

ink_near : (black : ℤ → ℤ → Bool) (columns rows : Columns) → AreNear columns → AreNear rows
    → IfSome (ink_in black columns rows) IsNear
unfolding ink_in
ink_near black columns rows across up =
    let first = up.first in
    let last = up.last in
    let order = up.order in
    rows_near black columns rows.first (count_of rows) across (omega (arith, ints, first))
    (omega (arith, ints, first, last, order))

pub edges_near : (es : List Edge) → All EdgeFits es → IfSome (edges_ink es) IsNear
edges_near es fits = ink_near _ _ _ (columns_near es fits) (lines_near es fits)

pub dropouts_near : (rules : BoxedRules) (contours : List (List Edge)) → ExtentsFit rules.extents
    → IfSome (dropouts_ink rules contours) IsNear
dropouts_near rules contours fits = let near = reached_near rules.rules.dots rules.extents fits in ink_near _ _ _ near.0 near.1
