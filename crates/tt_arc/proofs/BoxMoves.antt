-- The box of an outline's points moves with the outline.
use Rattle.std.proofs.Common.{◌≡◌, ◌∙◌, refl, ap, ap₂, ℕ, ◌+◌, ◌<◌, ◌≤◌, Bool, ℤ, pos, ◌+ℤ◌, ◌*ℤ◌, List, [], ◌∷◌, length, map, drop, get_or, arith, add-one, drop-cons}
use Rattle.std.proofs.lemmas.List.{drop_all}
use Rattle.std.specs.Int.{int_max, int_min}
use Rattle.std.proofs.lemmas.Int.{clamps, ints}
use Rattle.tt_scan_gaps.specs.declared.extent.Extents.{Extents}
use Rattle.tt_arc.specs.declared.point.PlacedPoint.{PlacedPoint}
use Rattle.tt_arc.specs.Bounds.{BoxMoved, box_at, box_from, box_of, box_with, points_box}
use Rattle.tt_arc.specs.Chords.{edge_end_of, moved}

point_by : (x y : ℤ) → PlacedPoint → PlacedPoint
point_by x y p = record { x = p.x +ℤ x; y = p.y +ℤ y; on = p.on }

abbrev box_by : ℤ → ℤ → Extents → Extents
box_by x y b = record {
  across = record { low = b.across.low +ℤ pos 128 *ℤ x; high = b.across.high +ℤ pos 128 *ℤ x };
  up = record { low = b.up.low +ℤ pos 128 *ℤ y; high = b.up.high +ℤ pos 128 *ℤ y };
}

least_by : (a v d : ℤ) → int_min (a +ℤ pos 128 *ℤ d) (pos 128 *ℤ (v +ℤ d)) ≡ int_min a (pos 128 *ℤ v) +ℤ pos 128 *ℤ d
least_by a v d = omega (arith, ints, clamps)

greatest_by : (a v d : ℤ) → int_max (a +ℤ pos 128 *ℤ d) (pos 128 *ℤ (v +ℤ d)) ≡ int_max a (pos 128 *ℤ v) +ℤ pos 128 *ℤ d
greatest_by a v d = omega (arith, ints, clamps)

with_by : (x y : ℤ) (b : Extents) (p : PlacedPoint)
    → box_with (edge_end_of (point_by x y p)) (box_by x y b) ≡ box_by x y (box_with (edge_end_of p) b)
unfolding point_by
with_by x y b p =
    rw (least_by b.across.low p.x x, greatest_by b.across.high p.x x, least_by b.up.low p.y y, greatest_by b.up.high p.y y) refl

all_by : (x y : ℤ) (b : Extents) (ps : List PlacedPoint) → box_from (box_by x y b) (map (point_by x y) ps) ≡ box_by x y (box_from b ps)
all_by x y b [] = refl
all_by x y b (p ∷ ps) =
    ap (λ a. box_from a (map (point_by x y) ps)) (with_by x y b p) ∙ all_by x y (box_with (edge_end_of p) b) ps

at_by : (x y : ℤ) (p : PlacedPoint) → box_at (edge_end_of (point_by x y p)) ≡ box_by x y (box_at (edge_end_of p))
unfolding point_by
at_by x y p =
    let across : pos 128 *ℤ (p.x +ℤ x) ≡ pos 128 *ℤ p.x +ℤ pos 128 *ℤ x = omega (arith, ints) in
    let up : pos 128 *ℤ (p.y +ℤ y) ≡ pos 128 *ℤ p.y +ℤ pos 128 *ℤ y = omega (arith, ints) in
    rw (across, up) refl

one_by : (dx dy x y : ℤ) (p : ℤ × ℤ × Bool) → moved (dx +ℤ x) (dy +ℤ y) p ≡ point_by x y (moved dx dy p)
unfolding point_by
one_by dx dy x y p =
    let across : p.0 +ℤ (dx +ℤ x) ≡ (p.0 +ℤ dx) +ℤ x = omega (arith, ints) in
    let up : p.1 +ℤ (dy +ℤ y) ≡ (p.1 +ℤ dy) +ℤ y = omega (arith, ints) in
    rw (across, up) refl

points_by : (dx dy x y : ℤ) (ps : List (ℤ × ℤ × Bool)) → map (moved (dx +ℤ x) (dy +ℤ y)) ps ≡ map (point_by x y) (map (moved dx dy) ps)
points_by dx dy x y [] = refl
points_by dx dy x y (p ∷ ps) = ap₂ (λ q qs. q ∷ qs) (one_by dx dy x y p) (points_by dx dy x y ps)

pub box_moved : BoxMoved
box_moved p points dx dy x y =
    ap box_of (points_by dx dy x y (p ∷ points))
    ∙ ap (λ a. box_from a (map (point_by x y) (map (moved dx dy) points))) (at_by x y (moved dx dy p))
    ∙ all_by x y (box_at (edge_end_of (moved dx dy p))) (map (moved dx dy) points)

-- the box point by point, in the order of the code
pub first_boxed : (dx dy : ℤ) (ps : List (ℤ × ℤ × Bool)) (d : ℤ × ℤ × Bool) → 0 < length ps
    → box_from (box_at (edge_end_of (moved dx dy (get_or ps 0 d)))) (map (moved dx dy) (drop 1 ps)) ≡ points_box ps dx dy
first_boxed dx dy [] d some = absurd (omega (arith, some))
first_boxed dx dy (p ∷ ps) d some = refl

pub one_boxed : (dx dy : ℤ) (ps : List (ℤ × ℤ × Bool)) (d : ℤ × ℤ × Bool) (i : ℕ) (b : Extents) → i < length ps
    → box_from (box_with (edge_end_of (moved dx dy (get_or ps i d))) b) (map (moved dx dy) (drop (i + 1) ps))
    ≡ box_from b (map (moved dx dy) (drop i ps))
one_boxed dx dy ps d i b below = rw (add-one, drop-cons ps i d below) refl

pub all_boxed : (dx dy : ℤ) (ps : List (ℤ × ℤ × Bool)) (i : ℕ) (b whole : Extents) → length ps ≤ i
    → box_from b (map (moved dx dy) (drop i ps)) ≡ whole → b ≡ whole
all_boxed dx dy ps i b whole past is = rw (drop_all i ps past) at is
