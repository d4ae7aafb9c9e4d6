-- No part of the standard: no instruction on a single point, or on lines, fails with too few values, since its values
-- are parameters.
use Rattle.std.proofs.Common.{ℤ, ◌-ℤ◌, neg_ℤ, Bool, true, Result, Ok, Err, refl}
use Rattle.tt_core.specs.Outcomes.{◌>>=◌}
use Rattle.tt_core.specs.declared.fault.Why.{Why}
use Rattle.tt_core.specs.declared.fault.Why.TheVariants as why
use Rattle.tt_state.specs.Axes.{pair_of}
use Rattle.tt_state.specs.Loosening.{IsTotal, Enough, enough_after}
use Rattle.tt_state.specs.Vectors.{Pair, along}
use Rattle.tt_state.specs.declared.graphics_state.GraphicsState.{GraphicsState}
use Rattle.tt_state.specs.declared.graphics_state.Zone.{Zone}
use Rattle.tt_state.specs.declared.graphics_state.Zone.TheVariants as zone
use Rattle.tt_state.specs.declared.point.Point.{Point}
use Rattle.tt_state.specs.declared.vector.Vector.{Vector}
use Rattle.tt_points_zones.specs.Total.{enough_of, enough_of_either, point_enough, pushed_total, moved_total, direction_total}
use Rattle.tt_points_zones.specs.Meeting.{met, meeting, limited}
use Rattle.tt_points_zones.specs.Motions.{direction, cur, current_distance, original_distance, put_further, marked, steps, moved}
use Rattle.tt_points_zones.specs.Originals.{distance_by, scale_between}
use Rattle.tt_points_zones.specs.Points.{is_coordinate, point_in, origin}
use Rattle.tt_points_zones.specs.Zones.{ZoneLists}
use Rattle.tt_points_zones.specs.declared.meeting.Place.{Place}
use Rattle.tt_points_zones.specs.declared.motion.Motion.{Motion}
use Rattle.tt_points.specs.declared.distances.Keeping.{Keeping}
use Rattle.tt_points.specs.declared.lines.Ends.{Ends}
use Rattle.tt_points.specs.declared.measuring.Position.{Position}
use Rattle.tt_points.specs.declared.twilight.AlongVector.{AlongVector}
use Rattle.tt_points.specs.declared.twilight.AlongVector.TheVariants as by
use Rattle.tt_points.specs.ControlValues.{set_at, miap_distance, mirp_distance, chosen_from}
use Rattle.tt_points.specs.Distances.{single_width}
use Rattle.tt_points.specs.Lines.{half, line_through, two_points, move_by}
use Rattle.tt_points.specs.Moving.{kept, kept_from, mdap_distance, mdrp_distance}
use Rattle.tt_points.specs.Twilight.{further, placed, placed_in, made}
use Rattle.tt_points.specs.ControlValues as by_value
use Rattle.tt_points.specs.Lines as lines
use Rattle.tt_points.specs.Measuring as measuring
use Rattle.tt_points.specs.Moving as moving

-- moves, with and without a touch
direction_enough : (g : GraphicsState) → Enough (direction g)
direction_enough g = enough_of (direction g) (direction_total g)

moved_enough : (m : Motion) (d : ℤ) (p : Point) → Enough (moved m d p)
moved_enough m d p = enough_of (moved m d p) (moved_total m d p)

made_of : {A B : Type 0} (r : Result A Why) (f : A → B) → IsTotal (r >>= λ a. Ok (f a)) → IsTotal r
made_of (Ok a) f total = record {}
made_of (Err e) f total = total

put_enough : (free : Vector) (by : Pair) (p : Point) → Enough (put_further free by p)
put_enough free by p =
    enough_of (put_further free by p) (made_of (put_further free by p) (marked free true) (pushed_total free by p))

-- a move to a distance from another point
kept_enough : (m : Motion) (d : ℤ) (q r : Point) → Enough (kept m d q r)
unfolding kept
kept_enough m d q r = moved_enough m (d -ℤ current_distance m r q) q

kept_from_enough : (m : Motion) (p d : ℤ) (z : ZoneLists) (g : GraphicsState) → Enough (kept_from m p d z g)
unfolding kept_from
kept_from_enough m p d z g =
    enough_after (point_in g.zp1 p z) _ (point_enough g.zp1 p z) (λ q.
    enough_after (point_in g.zp0 g.rp0 z) _ (point_enough g.zp0 g.rp0 z) (λ r.
    enough_after (kept m d q r) _ (kept_enough m d q r) (λ n. record {})))

chosen_from_enough : (k : Keeping) (m : Motion) (p c : ℤ) (z : ZoneLists) (g : GraphicsState)
    → Enough (chosen_from k m p c z g)
unfolding chosen_from
chosen_from_enough k m p c z g =
    enough_after (point_in g.zp1 p z) _ (point_enough g.zp1 p z) (λ q.
    enough_after (point_in g.zp0 g.rp0 z) _ (point_enough g.zp0 g.rp0 z) (λ r.
    enough_after (kept m (mirp_distance k g (original_distance m r q) c) q r) _
    (kept_enough m (mirp_distance k g (original_distance m r q) c) q r) (λ n. record {})))

-- twilight points
further_enough : (a : AlongVector) (m : Motion) (d : ℤ) (p : Point) → Enough (further a m d p)
further_enough by.Projection m d p = put_enough m.free (steps m d) p
further_enough by.Freedom m d p = put_enough m.free (along (pair_of m.free) d) p

placed_enough : (a : AlongVector) (m : Motion) (d : ℤ) (r p : Point) → Enough (placed a m d r p)
unfolding placed
placed_enough a m d r p = enough_after _ _ (further_enough a m d _) (λ q. record {})

made_enough : (zone : Zone) (a : AlongVector) (m : Motion) (p d : ℤ) (r : Point) (z : ZoneLists)
    → Enough (made zone a m p d r z)
unfolding made
made_enough zone.Twilight a m p d r z =
    enough_after (point_in zone.Twilight p z) _ (point_enough zone.Twilight p z) (λ q.
    enough_after (placed a m d r q) _ (placed_enough a m d r q) (λ n. record {}))
made_enough zone.Glyph a m p d r z = record {}

placed_in_enough : (zone : Zone) (a : AlongVector) (m : Motion) (d : ℤ) (r p : Point) → Enough (placed_in zone a m d r p)
unfolding placed_in
placed_in_enough zone.Twilight a m d r p = placed_enough a m d r p
placed_in_enough zone.Glyph a m d r p = record {}

set_at_enough : (round : Bool) (g : GraphicsState) (m : Motion) (c : ℤ) (q : Point) → Enough (set_at round g m c q)
unfolding set_at
set_at_enough round g m c q = moved_enough m (miap_distance round g (cur m q) c) q

-- the instructions
mdap_enough : (round : Bool) (p : ℤ) (z : ZoneLists) (g : GraphicsState) → Enough (moving.mdap round p z g)
unfolding moving.mdap
mdap_enough round p z g =
    enough_after (point_in g.zp0 p z) _ (point_enough g.zp0 p z) (λ q.
    enough_after (direction g) _ (direction_enough g) (λ m.
    enough_after (moved m (mdap_distance round g (cur m q)) q) _
    (moved_enough m (mdap_distance round g (cur m q)) q) (λ n. record {})))

mdrp_enough : (k : Keeping) (p : ℤ) (z : ZoneLists) (g : GraphicsState) → Enough (moving.mdrp k p z g)
unfolding moving.mdrp
mdrp_enough k p z g =
    enough_after (point_in g.zp1 p z) _ (point_enough g.zp1 p z) (λ q.
    enough_after (point_in g.zp0 g.rp0 z) _ (point_enough g.zp0 g.rp0 z) (λ r.
    enough_after (direction g) _ (direction_enough g) (λ m.
    let d = mdrp_distance k g (distance_by (scale_between g.zp0 g.zp1 z) m r q) in
    enough_after (kept m d q r) _ (kept_enough m d q r) (λ n. record {}))))

msirp_enough : (set_rp0 : Bool) (p d : ℤ) (z : ZoneLists) (g : GraphicsState)
    → Enough (moving.msirp set_rp0 p d z g)
unfolding moving.msirp
msirp_enough set_rp0 p d z g =
    enough_after (point_in g.zp1 p z) _ (point_enough g.zp1 p z) (λ q.
    enough_after (point_in g.zp0 g.rp0 z) _ (point_enough g.zp0 g.rp0 z) (λ r.
    enough_after (direction g) _ (direction_enough g) (λ m.
    enough_after (made g.zp1 by.Projection m p d r z) _ (made_enough g.zp1 by.Projection m p d r z) (λ y.
    enough_after (kept_from m p d y g) _ (kept_from_enough m p d y g) (λ w. record {})))))

miap_enough : (round : Bool) (p c : ℤ) (z : ZoneLists) (g : GraphicsState) → Enough (by_value.miap round p c z g)
unfolding by_value.miap
miap_enough round p c z g =
    enough_after (point_in g.zp0 p z) _ (point_enough g.zp0 p z) (λ q.
    enough_after (direction g) _ (direction_enough g) (λ m.
    enough_after (placed_in g.zp0 by.Freedom m c origin q) _ (placed_in_enough g.zp0 by.Freedom m c origin q) (λ n.
    enough_after (set_at round g m c n) _ (set_at_enough round g m c n) (λ o. record {}))))

mirp_enough : (k : Keeping) (p c : ℤ) (z : ZoneLists) (g : GraphicsState) → Enough (by_value.mirp k p c z g)
unfolding by_value.mirp
mirp_enough k p c z g =
    let d = single_width g c in
    enough_after (point_in g.zp1 p z) _ (point_enough g.zp1 p z) (λ q.
    enough_after (point_in g.zp0 g.rp0 z) _ (point_enough g.zp0 g.rp0 z) (λ r.
    enough_after (direction g) _ (direction_enough g) (λ m.
    enough_after (made g.zp1 by.Freedom m p d r z) _ (made_enough g.zp1 by.Freedom m p d r z) (λ y.
    enough_after (chosen_from k m p d y g) _ (chosen_from_enough k m p d y g) (λ w. record {})))))

gc_enough : (of : Position) (p : ℤ) (z : ZoneLists) (g : GraphicsState) → Enough (measuring.gc of p z g)
unfolding measuring.gc
gc_enough of p z g = enough_after (point_in g.zp2 p z) _ (point_enough g.zp2 p z) (λ q. record {})

md_enough : (between : Position) (p2 p1 : ℤ) (z : ZoneLists) (g : GraphicsState)
    → Enough (measuring.md between p2 p1 z g)
unfolding measuring.md
md_enough between p2 p1 z g =
    enough_after (point_in g.zp1 p1 z) _ (point_enough g.zp1 p1 z) (λ a.
    enough_after (point_in g.zp0 p2 z) _ (point_enough g.zp0 p2 z) (λ b. record {}))

scfs_enough : (p v : ℤ) (z : ZoneLists) (g : GraphicsState) → Enough (measuring.scfs p v z g)
unfolding measuring.scfs
scfs_enough p v z g =
    enough_after (point_in g.zp2 p z) _ (point_enough g.zp2 p z) (λ q.
    enough_after (direction g) _ (direction_enough g) (λ m.
    enough_after (moved m (v -ℤ cur m q) q) _ (moved_enough m (v -ℤ cur m q) q) (λ n. record {})))

utp_enough : (p : ℤ) (z : ZoneLists) (g : GraphicsState) → Enough (measuring.utp p z g)
unfolding measuring.utp
utp_enough p z g = enough_after (point_in g.zp0 p z) _ (point_enough g.zp0 p z) (λ q. record {})

-- on lines
two_points_enough : (p1 p2 : ℤ) (z : ZoneLists) (g : GraphicsState) → Enough (two_points p1 p2 z g)
two_points_enough p1 p2 z g =
    enough_after (point_in g.zp2 p1 z) _ (point_enough g.zp2 p1 z) (λ a.
    enough_after (point_in g.zp1 p2 z) _ (point_enough g.zp1 p2 z) (λ b. record {}))

spvtl_enough : (turned : Bool) (p1 p2 : ℤ) (z : ZoneLists) (g : GraphicsState)
    → Enough (lines.spvtl turned p1 p2 z g)
unfolding lines.spvtl
spvtl_enough turned p1 p2 z g = enough_after (two_points p1 p2 z g) _ (two_points_enough p1 p2 z g) (λ t. record {})

sfvtl_enough : (turned : Bool) (p1 p2 : ℤ) (z : ZoneLists) (g : GraphicsState)
    → Enough (lines.sfvtl turned p1 p2 z g)
unfolding lines.sfvtl
sfvtl_enough turned p1 p2 z g = enough_after (two_points p1 p2 z g) _ (two_points_enough p1 p2 z g) (λ t. record {})

sdpvtl_enough : (turned : Bool) (p1 p2 : ℤ) (z : ZoneLists) (g : GraphicsState)
    → Enough (lines.sdpvtl turned p1 p2 z g)
unfolding lines.sdpvtl
sdpvtl_enough turned p1 p2 z g = enough_after (two_points p1 p2 z g) _ (two_points_enough p1 p2 z g) (λ t. record {})

line_enough : (zone : Zone) (ends : Ends) (z : ZoneLists) → Enough (line_through zone ends z)
line_enough zone ends z =
    enough_after (point_in zone ends.to z) _ (point_enough zone ends.to z) (λ to.
    enough_after (point_in zone ends.from z) _ (point_enough zone ends.from z) (λ from. record {}))

limited_enough : (v : ℤ) → Enough (limited v)
limited_enough v = enough_of_either (is_coordinate v) (Ok v) (Err why.ValueRange) (record {}) refl

met_enough : (a0 a1 b0 b1 : Place) → Enough (met a0 a1 b0 b1)
unfolding met
met_enough a0 a1 b0 b1 =
    let place = meeting a0 a1 b0 b1 in
    enough_after (limited place.x) _ (limited_enough place.x) (λ x.
    enough_after (limited place.y) _ (limited_enough place.y) (λ y. record {}))

isect_enough : (p : ℤ) (a b : Ends) (z : ZoneLists) (g : GraphicsState) → Enough (lines.isect p a b z g)
unfolding lines.isect
isect_enough p a b z g =
    enough_after (line_through g.zp0 b z) _ (line_enough g.zp0 b z) (λ other.
    enough_after (line_through g.zp1 a z) _ (line_enough g.zp1 a z) (λ one.
    enough_after (point_in g.zp2 p z) _ (point_enough g.zp2 p z) (λ q.
    enough_after (met (one.0) (one.1) (other.0) (other.1)) _ (met_enough (one.0) (one.1) (other.0) (other.1))
    (λ place. record {}))))

move_by_enough : (zone : Zone) (p : ℤ) (m : Motion) (d : ℤ) (z : ZoneLists) → Enough (move_by zone p m d z)
unfolding move_by
move_by_enough zone p m d z =
    enough_after (point_in zone p z) _ (point_enough zone p z) (λ q.
    enough_after (moved m d q) _ (moved_enough m d q) (λ r. record {}))

alignpts_enough : (p1 p2 : ℤ) (z : ZoneLists) (g : GraphicsState) → Enough (lines.alignpts p1 p2 z g)
unfolding lines.alignpts
alignpts_enough p1 p2 z g =
    enough_after (point_in g.zp1 p1 z) _ (point_enough g.zp1 p1 z) (λ a.
    enough_after (point_in g.zp0 p2 z) _ (point_enough g.zp0 p2 z) (λ b.
    enough_after (direction g) _ (direction_enough g) (λ m.
    let d = half (current_distance m a b) in
    enough_after (move_by g.zp1 p1 m d z) _ (move_by_enough g.zp1 p1 m d z) (λ y.
    move_by_enough g.zp0 p2 m (neg_ℤ d) y))))

pub record SinglesEnough (z : ZoneLists) (g : GraphicsState) : Type 0 where
  pub mdap : (round : Bool) (p : ℤ) → Enough (moving.mdap round p z g)
  pub mdrp : (k : Keeping) (p : ℤ) → Enough (moving.mdrp k p z g)
  pub msirp : (set_rp0 : Bool) (p d : ℤ) → Enough (moving.msirp set_rp0 p d z g)
  pub miap : (round : Bool) (p c : ℤ) → Enough (by_value.miap round p c z g)
  pub mirp : (k : Keeping) (p c : ℤ) → Enough (by_value.mirp k p c z g)
  pub gc : (of : Position) (p : ℤ) → Enough (measuring.gc of p z g)
  pub md : (between : Position) (p2 p1 : ℤ) → Enough (measuring.md between p2 p1 z g)
  pub scfs : (p v : ℤ) → Enough (measuring.scfs p v z g)
  pub utp : (p : ℤ) → Enough (measuring.utp p z g)
  pub spvtl : (turned : Bool) (p1 p2 : ℤ) → Enough (lines.spvtl turned p1 p2 z g)
  pub sfvtl : (turned : Bool) (p1 p2 : ℤ) → Enough (lines.sfvtl turned p1 p2 z g)
  pub sdpvtl : (turned : Bool) (p1 p2 : ℤ) → Enough (lines.sdpvtl turned p1 p2 z g)
  pub isect : (p : ℤ) (a b : Ends) → Enough (lines.isect p a b z g)
  pub alignpts : (p1 p2 : ℤ) → Enough (lines.alignpts p1 p2 z g)

pub singles_enough : (z : ZoneLists) (g : GraphicsState) → SinglesEnough z g
singles_enough z g = record {
  mdap = λ round p. mdap_enough round p z g;
  mdrp = λ k p. mdrp_enough k p z g;
  msirp = λ set_rp0 p d. msirp_enough set_rp0 p d z g;
  miap = λ round p c. miap_enough round p c z g;
  mirp = λ k p c. mirp_enough k p c z g;
  gc = λ of p. gc_enough of p z g;
  md = λ between p2 p1. md_enough between p2 p1 z g;
  scfs = λ p v. scfs_enough p v z g;
  utp = λ p. utp_enough p z g;
  spvtl = λ turned p1 p2. spvtl_enough turned p1 p2 z g;
  sfvtl = λ turned p1 p2. sfvtl_enough turned p1 p2 z g;
  sdpvtl = λ turned p1 p2. sdpvtl_enough turned p1 p2 z g;
  isect = λ p a b. isect_enough p a b z g;
  alignpts = λ p1 p2. alignpts_enough p1 p2 z g;
}
