-- No part of the standard: no instruction on several points adds or removes a point.
use Rattle.std.proofs.Common.{◌≡◌, ℕ, suc, ◌+◌, nat_le, nat_lt, ℤ, unsigned_abs, Bool, true, false, ◌&&◌, if◌then◌else◌, List, [], ◌∷◌, length, reverse, Option, Some, None, Result, Ok, Err, IfOk, ap, refl}
use Rattle.tt_core.specs.declared.fault.Why.{Why}
use Rattle.tt_state.specs.Tolerance.{passes_over, unless_missing}
use Rattle.tt_state.specs.declared.graphics_state.GraphicsState.{GraphicsState}
use Rattle.tt_state.specs.declared.graphics_state.Zone.{Zone}
use Rattle.tt_state.specs.declared.graphics_state.Zone.TheVariants as zone
use Rattle.tt_state.specs.declared.point.Point.{Point}
use Rattle.tt_state.specs.declared.tolerance.Tolerance.{Tolerance}
use Rattle.tt_points_zones.specs.Motions.{direction, moved, moved_along}
use Rattle.tt_points_zones.specs.Points.{point_in, points_in}
use Rattle.tt_points_zones.specs.ZoneNumbers.{zone_of}
use Rattle.tt_points_zones.specs.Shapes.{whatever, through, same, joined, put_one, put}
use Rattle.tt_points_zones.specs.Zones.{ZoneLists, SameShape, KeepsShape, KeepsShapeBefore}
use Rattle.tt_points_loops.specs.declared.deltas.DeltaRange.{DeltaRange}
use Rattle.tt_points_loops.specs.declared.shifting.ReferencePoint.{ReferencePoint}
use Rattle.tt_points_loops.specs.Deltas.{delta_of, move_by, except, pairs_of}
use Rattle.tt_points_loops.specs.Flipping.{flipped, flip, put_on, flip_range}
use Rattle.tt_points_loops.specs.Moving.{align, in_between, interpolate, push}
use Rattle.tt_points_loops.specs.Series.{one_by_one, passing_over, looped, set_back, each_from_to}
use Rattle.tt_points_loops.specs.Shifting.{reference_zone, reference_number, reference, follow, number_in, follow_but, shift, shift_range, follow_in, with_points, contour_in, outline_in, shc, shz}
use Rattle.tt_points_loops.specs.Deltas as deltas
use Rattle.tt_points_loops.specs.Flipping as flipping
use Rattle.tt_points_loops.specs.Moving as moving
use Rattle.tt_points_loops.specs.Shifting as shifting

weaker : (r : Result ZoneLists Why) (a b : ZoneLists) → SameShape a b → KeepsShape b r → KeepsShape a r
weaker (Ok c) a b first second = joined a b c first second
weaker (Err why) a b first second = tt

put_all : (zone : Zone) (ps : List Point) (z : ZoneLists) → length ps ≡ length (points_in zone z)
    → SameShape z (with_points zone ps z)
put_all zone.Twilight ps z many = record { twilight = many; glyph = refl; contours = refl; originals = refl }
put_all zone.Glyph ps z many = record { twilight = refl; glyph = many; contours = refl; originals = refl }

-- the zones unchanged, in place of a refusal that is passed over
instead : (b : Bool) (why : Why) (z : ZoneLists) → KeepsShape z (if b then Ok z else Err why)
instead true why z = same z
instead false why z = tt

pub passed : (t : Tolerance) (z : ZoneLists) (r : Result ZoneLists Why) → KeepsShape z r
    → KeepsShape z (unless_missing t z r)
passed t z (Ok w) kept = kept
passed t z (Err why) kept = instead (passes_over t why) why z

series : {N : Type 0} (step : N → ZoneLists → Result ZoneLists Why)
    → ((n : N) (z : ZoneLists) → KeepsShape z (step n z)) → (ns : List N) (z : ZoneLists)
    → KeepsShape z (one_by_one step ns z)
series step kept [] z = same z
series step kept (n ∷ ns) z =
    through (SameShape z) (SameShape z) (step n z) (one_by_one step ns) (kept n z)
    (λ w here. weaker (one_by_one step ns w) z w here (series step kept ns w))

passing : {N : Type 0} (t : Tolerance) (step : N → ZoneLists → Result ZoneLists Why)
    → ((n : N) (z : ZoneLists) → KeepsShape z (step n z)) → (ns : List N) (z : ZoneLists)
    → KeepsShape z (one_by_one (passing_over t step) ns z)
passing t step kept ns z = series (passing_over t step) (λ n w. passed t w (step n w) (kept n w)) ns z

loop : (t : Tolerance) (step : ℤ → ZoneLists → Result ZoneLists Why)
    → ((n : ℤ) (z : ZoneLists) → KeepsShape z (step n z)) → (points : List ℤ) (z : ZoneLists) (g : GraphicsState)
    → KeepsShapeBefore z (looped t step points z g)
loop t step kept points z g =
    through (SameShape z) (λ u. SameShape z u.0) (one_by_one (passing_over t step) (reverse points) z)
    (λ w. Ok (w, set_back g)) (passing t step kept (reverse points) z) (λ w here. here)

count : (low past : ℕ) (move : ℕ → Point → Result Point Why) (i : ℕ) (ps : List Point)
    → IfOk (each_from_to low past move i ps) (λ qs. length qs ≡ length ps)
count low past move i [] = refl
count low past move i (p ∷ ps) =
    whatever (λ qs. length qs ≡ suc (length ps)) (if nat_le low i && nat_lt i past then move i p else Ok p) _
    (λ q. through (λ qs. length qs ≡ length ps) (λ qs. length qs ≡ suc (length ps))
    (each_from_to low past move (suc i) ps) (λ qs. Ok (q ∷ qs)) (count low past move (suc i) ps)
    (λ qs many. ap suc many))

range : (zone : Zone) (first past : ℕ) (move : ℕ → Point → Result Point Why) (z : ZoneLists)
    → KeepsShape z (follow_in zone first past move z)
range zone first past move z =
    let ps = points_in zone z in
    through (λ qs. length qs ≡ length ps) (SameShape z) (each_from_to first past move 0 ps)
    (λ qs. Ok (with_points zone qs z)) (count first past move 0 ps) (λ qs many. put_all zone qs z many)

shifted_range : (touch : Bool) (which : ReferencePoint) (zone : Zone) (r : ℕ × ℕ) (z : ZoneLists) (g : GraphicsState)
    → KeepsShape z (shift_range touch which zone r z g)
shifted_range touch which zone r z g =
    let but = number_in zone (reference_zone which g) (reference_number which g) in
    whatever (SameShape z) (reference which g z) _ (λ p. range zone (r.0) (r.1) (follow_but but touch g p) z)

flipped_range : (on : Bool) (low high : ℤ) (z : ZoneLists) → KeepsShape z (flip_range on low high z)
flipped_range on low high z =
    whatever (SameShape z) (point_in zone.Glyph high z) _ (λ last.
    whatever (SameShape z) (point_in zone.Glyph low z) _ (λ first.
    range zone.Glyph (unsigned_abs low) (unsigned_abs high + 1) (λ i p. Ok (put_on on p)) z))

moved_by : (d : Option ℤ) (g : GraphicsState) (n : ℤ) (z : ZoneLists) → KeepsShape z (move_by d g n z)
moved_by None g n z = same z
moved_by (Some d) g n z =
    whatever (SameShape z) (point_in g.zp0 n z) _ (λ p.
    whatever (SameShape z) (direction g) _ (λ m. put g.zp0 n z (moved m d p)))

excepted : (t : Tolerance) (range : DeltaRange) (ppem : ℕ) (g : GraphicsState) (pair : ℤ × ℤ) (z : ZoneLists)
    → KeepsShape z (except t range ppem g pair z)
excepted t range ppem g pair z =
    whatever (SameShape z) (delta_of t range (pair.0) ppem g) _ (λ d. moved_by d g (pair.1) z)

aligned : (g : GraphicsState) (n : ℤ) (z : ZoneLists) → KeepsShape z (align g n z)
aligned g n z =
    whatever (SameShape z) (point_in g.zp1 n z) _ (λ p.
    whatever (SameShape z) (point_in g.zp0 g.rp0 z) _ (λ r. put g.zp1 n z (moving.aligned g r p)))

interpolated : (t : Tolerance) (g : GraphicsState) (n : ℤ) (z : ZoneLists) → KeepsShape z (interpolate t g n z)
interpolated t g n z = whatever (SameShape z) (point_in g.zp2 n z) _ (λ p. put g.zp2 n z (in_between t g z p))

pushed : (amount : ℤ) (g : GraphicsState) (n : ℤ) (z : ZoneLists) → KeepsShape z (push amount g n z)
pushed amount g n z = whatever (SameShape z) (point_in g.zp2 n z) _ (λ p. put g.zp2 n z (moved_along g.free amount p))

turned : (n : ℤ) (z : ZoneLists) → KeepsShape z (flip n z)
turned n z = whatever (SameShape z) (point_in zone.Glyph n z) _ (λ p. put_one zone.Glyph n (flipped p) z)

shifted : (g : GraphicsState) (before : Result Point Why) (n : ℤ) (z : ZoneLists) → KeepsShape z (shift g before n z)
shifted g before n z =
    whatever (SameShape z) (point_in g.zp2 n z) _ (λ p.
    whatever (SameShape z) before _ (λ r. put g.zp2 n z (follow true g r p)))

shifted_zone : (which : ReferencePoint) (e : ℤ) (z : ZoneLists) (g : GraphicsState) → KeepsShape z (shz which e z g)
unfolding shz
shifted_zone which e z g =
    whatever (SameShape z) (zone_of e) _ (λ zone. shifted_range false which zone (outline_in zone z) z g)

shifted_contour : (which : ReferencePoint) (c : ℤ) (z : ZoneLists) (g : GraphicsState) → KeepsShape z (shc which c z g)
shifted_contour which c z g =
    whatever (SameShape z) (contour_in g.zp2 c z) _ (λ r. shifted_range true which g.zp2 r z g)

pub record ShapeIsKept (z : ZoneLists) (g : GraphicsState) : Type 0 where
  pub alignrp : (t : Tolerance) (points : List ℤ) → KeepsShapeBefore z (moving.alignrp t points z g)
  pub ip : (t : Tolerance) (points : List ℤ) → KeepsShapeBefore z (moving.ip t points z g)
  pub shpix : (t : Tolerance) (points : List ℤ) (amount : ℤ)
      → KeepsShapeBefore z (moving.shpix t points amount z g)
  pub flippt : (t : Tolerance) (points : List ℤ) → KeepsShapeBefore z (flipping.flippt t points z g)
  pub flip_range : (on : Bool) (low high : ℤ) → KeepsShape z (flipping.flip_range on low high z)
  pub shp : (t : Tolerance) (which : ReferencePoint) (points : List ℤ)
      → KeepsShapeBefore z (shifting.shp t which points z g)
  pub shc : (which : ReferencePoint) (c : ℤ) → KeepsShape z (shifting.shc which c z g)
  pub shz : (which : ReferencePoint) (e : ℤ) → KeepsShape z (shifting.shz which e z g)
  pub deltap : (t : Tolerance) (range : DeltaRange) (ppem : ℕ) (pairs : List ℤ)
      → KeepsShape z (deltas.deltap t range ppem pairs z g)

pub shape_kept : (z : ZoneLists) (g : GraphicsState) → ShapeIsKept z g
shape_kept z g = record {
  alignrp = λ t points. loop t (align g) (aligned g) points z g;
  ip = λ t points. loop t (interpolate t g) (interpolated t g) points z g;
  shpix = λ t points amount. loop t (push amount g) (pushed amount g) points z g;
  flippt = λ t points. loop t flip turned points z g;
  flip_range = λ on low high. flipped_range on low high z;
  shp = λ t which points. loop t (shift g (reference which g z)) (shifted g (reference which g z)) points z g;
  shc = λ which c. shifted_contour which c z g;
  shz = λ which e. shifted_zone which e z g;
  deltap = λ t range ppem pairs.
      passing t (except t range ppem g) (excepted t range ppem g) (reverse (pairs_of pairs)) z;
}
