-- The least box of the black pixels of a glyph is that of its edges and its dropouts.
use Rattle.std.proofs.Common.{◌≡◌, refl, ℕ, ℤ, Bool, List, length, Option, None, Some, arith}
use Rattle.std.specs.Prelude.{IfSome}
use Rattle.std.proofs.lemmas.Int.{clamps, ints}
use Rattle.tt_bitmap.specs.Inks.{IsInk, IsNear, joined}
use Rattle.tt_bitmap.specs.declared.ink.LeastBox.{LeastBox}
use Rattle.tt_glyph_pixels.specs.Shown.{AreClosed, is_filled, shows}
use Rattle.tt_picture.specs.Ink.{filled_ink, ink_by}
use Rattle.tt_scan.specs.Contours.{AreEnds, contours_at}
use Rattle.tt_scan_dropouts.proofs.Outlines as outlines
use Rattle.tt_scan_dropouts.specs.Dropouts.{edges_of, is_dropout, is_inked}
use Rattle.tt_scan_dropouts.specs.declared.boxed.BoxedRules.{BoxedRules}
use Rattle.tt_scan_edges.specs.Winding.{is_black}
use Rattle.tt_scan_edges.specs.declared.edge.Edge.{Edge}
use Rattle.tt_scan_gaps.specs.Boxes.{IsBoxOf}
use Rattle.tt_scan_gaps.specs.Crossings.{centre}
use Rattle.tt_scan_ink.proofs.Held.{dropouts_held, edges_held}
use Rattle.tt_scan_ink.proofs.Together.{ink_alike, joined_is, one_ink}
use Rattle.tt_scan_ink.specs.Ink.{dropouts_ink, edges_ink}
use Rattle.tt_scan_ink.specs.Least as least

edges_inked : (es : List Edge) → AreClosed es → IsInk (λ c j. is_black es (centre c) (centre j)) (edges_ink es)
edges_inked es closed =
    let (contours, round, whole) = closed in
    let all : IsInk (λ (c : ℤ) (j : ℤ). is_black es (centre c) (centre j)) (edges_ink (edges_of contours)) =
    ink_alike (is_inked contours) (λ (c : ℤ) (j : ℤ). is_black es (centre c) (centre j)) (edges_ink (edges_of contours))
    (λ c j. rw whole refl) (edges_held contours round) in
    rw whole at all

filled_inked : (filled : Option BoxedRules) (es : List Edge) (ends : List ℕ) → IfSome filled (λ rules. IsBoxOf rules.extents es)
    → IfSome filled (λ rules. AreEnds (length es) ends)
    → IsInk (λ c j. is_filled filled (contours_at es ends) c j) (filled_ink filled (contours_at es ends))
filled_inked None es ends boxed are = λ c j. refl
filled_inked (Some rules) es ends boxed are =
    ink_alike (is_dropout rules (contours_at es ends)) (λ (c : ℤ) (j : ℤ). is_filled (Some rules) (contours_at es ends) c j)
    (dropouts_ink rules (contours_at es ends)) (λ c j. refl)
    (dropouts_held rules (contours_at es ends) (rw (outlines.edges_at es ends are) boxed.held))

-- a bitmap with the pixels of closed contours, where the box of the dropout rules holds the edges
pub shown_ink : (filled : Option BoxedRules) (es : List Edge) (ends : List ℕ) (black : ℤ → ℤ → Bool) (ink : Option LeastBox)
    → AreClosed es → IfSome filled (λ rules. IsBoxOf rules.extents es) → IfSome filled (λ rules. AreEnds (length es) ends)
    → ((c j : ℤ) → black c j ≡ shows es (contours_at es ends) filled c j) → IsInk black ink
    → ink ≡ ink_by es (contours_at es ends) filled
shown_ink filled es ends black ink closed boxed are shown least =
    one_ink black ink (ink_by es (contours_at es ends) filled) least
    (joined_is (λ (c : ℤ) (j : ℤ). is_black es (centre c) (centre j)) (λ (c : ℤ) (j : ℤ). is_filled filled (contours_at es ends) c j)
    black (edges_ink es) (filled_ink filled (contours_at es ends)) shown (edges_inked es closed) (filled_inked filled es ends boxed are))

-- such a box is near: those of edges and of dropouts are nearer

pub nearer : (ink : Option LeastBox) → IfSome ink least.IsNear → IfSome ink IsNear
nearer None near = tt
nearer (Some b) near = record {
  left = let x = near.left in omega (arith, x);
  bottom = let x = near.bottom in omega (arith, x);
  right = let x = near.right in omega (arith, x);
  top = let x = near.top in omega (arith, x);
}

pub joined_near : (a b : Option LeastBox) → IfSome a IsNear → IfSome b IsNear → IfSome (joined a b) IsNear
joined_near None b is also = also
joined_near (Some a) None is also = is
joined_near (Some a) (Some b) is also = record {
  left = let x = is.left in let y = also.left in omega (arith, ints, clamps, x, y);
  bottom = let x = is.bottom in let y = also.bottom in omega (arith, ints, clamps, x, y);
  right = let x = is.right in let y = also.right in omega (arith, ints, clamps, x, y);
  top = let x = is.top in let y = also.top in omega (arith, ints, clamps, x, y);
}
