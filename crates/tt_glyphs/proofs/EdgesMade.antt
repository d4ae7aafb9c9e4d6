-- The edges of an outline lie in its box, which is that of its dropout rules, and are those of closed contours. The box of
-- their ink is near.
use Rattle.std.proofs.Common.{◌≡◌, List, get_or, Option, None, Some, arith}
use Rattle.std.proofs.lemmas.Int.{clamps, ints}
use Rattle.std.specs.Prelude.{All, IfSome, pos}
use Rattle.tt_arc.proofs.Closed.{all_closed}
use Rattle.tt_arc.specs.Laws.{ContoursJoined}
use Rattle.tt_arc.specs.declared.rule.ChordRule.{ChordRule}
use Rattle.tt_fit.specs.outline.Outline.{Outline}
use Rattle.tt_glyph_pixels.specs.Shown.{AreClosed}
use Rattle.tt_picture.specs.Ink.{ink_by}
use Rattle.tt_picture.specs.Shapes.{contours_of, edges_at, offset_at}
use Rattle.tt_scan.specs.Contours.{IsClosed}
use Rattle.tt_scan_dropouts.specs.declared.boxed.BoxedRules.{BoxedRules}
use Rattle.tt_scan_edges.specs.Winding.{EdgeFits}
use Rattle.tt_scan_edges.specs.declared.edge.Edge.{Edge}
use Rattle.tt_scan_gaps.specs.Boxes.{EdgeWithin, ExtentsFit, IsBoxOf}
use Rattle.tt_scan_gaps.specs.declared.extent.Extents.{Extents}
use Rattle.tt_scan_ink.proofs.NearInk.{dropouts_near, edges_near, joined_near}
use Rattle.tt_scan_ink.specs.Ink.{dropouts_ink, edges_ink}
use Rattle.tt_scan_ink.specs.Least.{IsNear}

-- the edges of a box within the limits are within them too
edge_fits : (b : Extents) (e : Edge) → ExtentsFit b → EdgeWithin b.across.low b.across.high b.up.low b.up.high e → EdgeFits e
edge_fits b e fits held =
    let left = held.left in
    let right = held.right in
    let bottom = held.bottom in
    let top = held.top in
    let west = fits.across.low in
    let east = fits.across.high in
    let south = fits.up.low in
    let north = fits.up.high in
    record {
      ax = omega (arith, ints, clamps, left, right, west, east);
      ay = omega (arith, ints, clamps, bottom, top, south, north);
      bx = omega (arith, ints, clamps, left, right, west, east);
      by = omega (arith, ints, clamps, bottom, top, south, north);
    }

pub edges_fit : (b : Extents) (es : List Edge) → IsBoxOf b es → All EdgeFits es
edges_fit b es box = λ k d below. edge_fits b (get_or es k d) box.fits (box.held k d below)

-- the box of the dropout rules holds them too
pub boxed_as : (filled : Option BoxedRules) (b : Extents) (es : List Edge) → IfSome filled (λ rules. rules.extents ≡ b) → IsBoxOf b es
    → IfSome filled (λ rules. IsBoxOf rules.extents es)
boxed_as None b es same box = tt
boxed_as (Some rules) b es same box = rw same box

-- the contours are closed
pub contours_round : (filled : Option BoxedRules) (way : ChordRule) (o : Outline) (cs : List (List Edge))
    → IfSome filled (λ rules. cs ≡ contours_of way 0 o) → IfSome filled (λ rules. All IsClosed cs)
contours_round None way o cs contours = tt
contours_round (Some rules) way o cs contours = rw contours (all_closed way o.points o.ends (offset_at 0 o) (pos 0))

pub contours_close : ContoursJoined → (way : ChordRule) (o : Outline) (es : List Edge) → es ≡ edges_at way 0 o → AreClosed es
contours_close joined way o es edges =
    let from = offset_at 0 o in
    rw edges (contours_of way 0 o, all_closed way o.points o.ends from (pos 0), joined way o.points o.ends from (pos 0))

-- the box of the ink
pub ink_near : (filled : Option BoxedRules) (es : List Edge) (cs : List (List Edge)) → All EdgeFits es
    → IfSome filled (λ rules. IsBoxOf rules.extents es) → IfSome (ink_by es cs filled) IsNear
ink_near None es cs fits boxed = joined_near (edges_ink es) None (edges_near es fits) tt
ink_near (Some rules) es cs fits boxed =
    joined_near (edges_ink es) (dropouts_ink rules cs) (edges_near es fits) (dropouts_near rules cs boxed.fits)
