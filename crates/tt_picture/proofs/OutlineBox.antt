-- The box of an outline's points.
use Rattle.std.proofs.Common.{◌≡◌, ap, ◌≤◌, Bool, ℤ, pos, ◌-ℤ◌, unsigned_abs, List, [], ◌∷◌, map, Option, None, Some, arith}
use Rattle.std.specs.Prelude.{All, IfSome}
use Rattle.std.proofs.lemmas.Int.{clamps, ints}
use Rattle.std.proofs.lemmas.List.Elements.{All-head, All-tail}
use Rattle.tt_arc.proofs.PointsBox.{box_holds_edges}
use Rattle.tt_arc.specs.Bounds.{box_at, box_from, box_with, points_box}
use Rattle.tt_arc.specs.Chords.{edge_end_of, moved}
use Rattle.tt_arc.specs.declared.rule.ChordRule.{ChordRule}
use Rattle.tt_core.specs.Limits.{coordinate_limit}
use Rattle.tt_fit.specs.declared.dropouts.DropoutRules.{DropoutRules}
use Rattle.tt_fit.specs.outline.Outline.{IsOutline, IsPoint, Outline}
use Rattle.tt_picture.specs.Shapes.{edges_at, extents_of, offset_at, origin_of, rules_for}
use Rattle.tt_scan_dropouts.specs.declared.boxed.BoxedRules.{BoxedRules}
use Rattle.tt_scan_gaps.specs.Boxes.{ExtentsFit, IsBoxOf}
use Rattle.tt_scan_gaps.specs.declared.extent.Extents.{Extents}

-- the points of an outline that is moved to the left end of the line are within the limits

at_fits : (o : ℤ) (p : ℤ × ℤ × Bool) → unsigned_abs o ≤ coordinate_limit → IsPoint p
    → ExtentsFit (box_at (edge_end_of (moved (pos 0 -ℤ o) (pos 0) p)))
at_fits o p near is = record {
  across = record { low = omega (arith, ints, near, is.0); high = omega (arith, ints, near, is.0) };
  up = record { low = omega (arith, ints, is.1); high = omega (arith, ints, is.1) };
}

with_fits : (o : ℤ) (b : Extents) (p : ℤ × ℤ × Bool) → unsigned_abs o ≤ coordinate_limit → ExtentsFit b → IsPoint p
    → ExtentsFit (box_with (edge_end_of (moved (pos 0 -ℤ o) (pos 0) p)) b)
with_fits o b p near fits is = record {
  across = record {
    low = omega (arith, ints, clamps, near, is.0, fits.across.low);
    high = omega (arith, ints, clamps, near, is.0, fits.across.high);
  };
  up = record {
    low = omega (arith, ints, clamps, is.1, fits.up.low);
    high = omega (arith, ints, clamps, is.1, fits.up.high);
  };
}

from_fits : (o : ℤ) (b : Extents) (ps : List (ℤ × ℤ × Bool)) → unsigned_abs o ≤ coordinate_limit → ExtentsFit b → All IsPoint ps
    → ExtentsFit (box_from b (map (moved (pos 0 -ℤ o) (pos 0)) ps))
from_fits o b [] near fits all = fits
from_fits o b (p ∷ ps) near fits all =
    from_fits o (box_with (edge_end_of (moved (pos 0 -ℤ o) (pos 0) p)) b) ps near
    (with_fits o b p near fits (All-head IsPoint p ps all)) (All-tail IsPoint p ps all)

points_fit : (o : ℤ) (ps : List (ℤ × ℤ × Bool)) → unsigned_abs o ≤ coordinate_limit → All IsPoint ps
    → ExtentsFit (points_box ps (pos 0 -ℤ o) (pos 0))
points_fit o [] near all = record {
  across = record { low = omega (arith, ints); high = omega (arith, ints) };
  up = record { low = omega (arith, ints); high = omega (arith, ints) };
}
points_fit o (p ∷ ps) near all =
    from_fits o (box_at (edge_end_of (moved (pos 0 -ℤ o) (pos 0) p))) ps near (at_fits o p near (All-head IsPoint p ps all))
    (All-tail IsPoint p ps all)

-- so is the box of an outline
pub outline_box_fits : (o : Outline) → IsOutline o → ExtentsFit (extents_of o)
outline_box_fits o is = points_fit (origin_of o) o.points is.phantom.left.0 is.coordinates

-- it holds the outline's edges
pub outline_boxed : (way : ChordRule) (o : Outline) → ExtentsFit (extents_of o) → IsBoxOf (extents_of o) (edges_at way 0 o)
outline_boxed way o fits = record { fits = fits; held = box_holds_edges way o.points o.ends (offset_at 0 o) (pos 0) }

-- the dropout rules of an outline have its box
pub rules_boxed : (filled : Option BoxedRules) (rules : Option DropoutRules) (o : Outline) → filled ≡ rules_for (extents_of o) rules
    → IfSome filled (λ boxed. boxed.extents ≡ extents_of o)
rules_boxed None rules o is = tt
rules_boxed (Some boxed) None o is = absurd cc
rules_boxed (Some boxed) (Some rules) o is =
    let same : boxed ≡ record { rules = record { stubs = rules.stubs; smart = rules.smart; dots = rules.dots }; extents = extents_of o } = cc in
    ap (λ (b : BoxedRules). b.extents) same
