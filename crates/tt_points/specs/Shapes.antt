-- No part of the standard: no instruction on single points, or on lines through them, adds or removes a point.
use Rattle.std.proofs.Common.{ℤ, neg_ℤ, Bool, false, ◌-ℤ◌, Result, Ok, Err}
use Rattle.tt_core.specs.Outcomes.{◌>>=◌}
use Rattle.tt_core.specs.declared.fault.Why.{Why}
use Rattle.tt_state.specs.declared.graphics_state.GraphicsState.{GraphicsState}
use Rattle.tt_state.specs.declared.graphics_state.Zone.{Zone}
use Rattle.tt_state.specs.declared.graphics_state.Zone.TheVariants as zone
use Rattle.tt_state.specs.declared.point.Point.{Point}
use Rattle.tt_points_zones.specs.Points.{origin, point_in, with_point}
use Rattle.tt_points_zones.specs.Meeting.{met}
use Rattle.tt_points_zones.specs.Motions.{cur, current_distance, original_distance, direction, marked, moved}
use Rattle.tt_points_zones.specs.Originals.{distance_by, scale_between}
use Rattle.tt_points_zones.specs.Shapes.{whatever, through, same, joined, put_one, put}
use Rattle.tt_points_zones.specs.Zones.{ZoneLists, SameShape, KeepsShape, KeepsShapeBefore}
use Rattle.tt_points_zones.specs.declared.motion.Motion.{Motion}
use Rattle.tt_points.specs.declared.distances.Keeping.{Keeping}
use Rattle.tt_points.specs.ControlValues.{set_at, miap, mirp_distance, chosen_from, mirp}
use Rattle.tt_points.specs.Distances.{single_width}
use Rattle.tt_points.specs.Lines.{line_through, put_to, isect, half, move_by, alignpts}
use Rattle.tt_points.specs.Measuring.{scfs, utp}
use Rattle.tt_points.specs.Moving.{kept, referred, mdap_distance, mdap, kept_from, msirp, mdrp_distance, mdrp}
use Rattle.tt_points.specs.Twilight.{settled_in, placed, placed_in, made}
use Rattle.tt_points.specs.declared.lines.Ends.{Ends}
use Rattle.tt_points.specs.declared.twilight.AlongVector.{AlongVector}
use Rattle.tt_points.specs.declared.twilight.AlongVector.TheVariants as along
use Rattle.tt_points.specs.ControlValues as by_value
use Rattle.tt_points.specs.Lines as lines
use Rattle.tt_points.specs.Measuring as measuring
use Rattle.tt_points.specs.Moving as moving

-- a point replaced, beside a new graphics state
put_before : (g : GraphicsState) (zone : Zone) (n : ℤ) (z : ZoneLists) (r : Result Point Why)
    → KeepsShapeBefore z (r >>= λ q. Ok (with_point zone n q z, g))
put_before g zone n z (Ok q) = put_one zone n q z
put_before g zone n z (Err why) = tt

-- zones with the shape before the instruction
abbrev Before : ZoneLists → ZoneLists × GraphicsState → Type 0
Before z t = SameShape z t.0

-- two changes, followed by a graphics state
twice : (g : GraphicsState) (z : ZoneLists) (r : Result ZoneLists Why) (f : ZoneLists → Result ZoneLists Why)
    → KeepsShape z r → ((y : ZoneLists) → KeepsShape y (f y))
    → KeepsShapeBefore z (r >>= λ y. f y >>= λ w. Ok (w, g))
twice g z r f once again =
    through (SameShape z) (Before z) r (λ y. f y >>= λ w. Ok (w, g)) once
    (λ y here. through (SameShape y) (Before z) (f y) (λ w. Ok (w, g)) (again y) (λ w next. joined z y w here next))

made_kept : (zone : Zone) (by : AlongVector) (m : Motion) (p d : ℤ) (r : Point) (z : ZoneLists)
    → KeepsShape z (made zone by m p d r z)
unfolding made
made_kept zone.Twilight by m p d r z =
    whatever (SameShape z) (point_in zone.Twilight p z) _ (λ q. put zone.Twilight p z (placed by m d r q))
made_kept zone.Glyph by m p d r z = same z

kept_from_kept : (m : Motion) (p d : ℤ) (g : GraphicsState) (z : ZoneLists) → KeepsShape z (kept_from m p d z g)
unfolding kept_from
kept_from_kept m p d g z =
    whatever (SameShape z) (point_in g.zp1 p z) _ (λ q.
    whatever (SameShape z) (point_in g.zp0 g.rp0 z) _ (λ r. put g.zp1 p z (kept m d q r)))

chosen_from_kept : (k : Keeping) (m : Motion) (p c : ℤ) (g : GraphicsState) (z : ZoneLists)
    → KeepsShape z (chosen_from k m p c z g)
unfolding chosen_from
chosen_from_kept k m p c g z =
    whatever (SameShape z) (point_in g.zp1 p z) _ (λ q.
    whatever (SameShape z) (point_in g.zp0 g.rp0 z) _ (λ r.
    put g.zp1 p z (kept m (mirp_distance k g (original_distance m r q) c) q r)))

mdap_kept : (round : Bool) (p : ℤ) (z : ZoneLists) (g : GraphicsState) → KeepsShapeBefore z (mdap round p z g)
unfolding mdap
mdap_kept round p z g =
    whatever (Before z) (point_in g.zp0 p z) _ (λ q.
    whatever (Before z) (direction g) _ (λ m.
    put_before (record g { rp0 = p; rp1 = p }) g.zp0 p z (moved m (mdap_distance round g (cur m q)) q)))

mdrp_kept : (k : Keeping) (p : ℤ) (z : ZoneLists) (g : GraphicsState) → KeepsShapeBefore z (mdrp k p z g)
unfolding mdrp
mdrp_kept k p z g =
    whatever (Before z) (point_in g.zp1 p z) _ (λ q.
    whatever (Before z) (point_in g.zp0 g.rp0 z) _ (λ r.
    whatever (Before z) (direction g) _ (λ m.
    put_before (referred k.set_rp0 p g) g.zp1 p z
    (kept m (mdrp_distance k g (distance_by (scale_between g.zp0 g.zp1 z) m r q)) q r))))

msirp_kept : (set_rp0 : Bool) (p d : ℤ) (z : ZoneLists) (g : GraphicsState) → KeepsShapeBefore z (msirp set_rp0 p d z g)
unfolding msirp
msirp_kept set_rp0 p d z g =
    whatever (Before z) (point_in g.zp1 p z) _ (λ q.
    whatever (Before z) (point_in g.zp0 g.rp0 z) _ (λ r.
    whatever (Before z) (direction g) _ (λ m.
    twice (referred set_rp0 p g) z (made g.zp1 along.Projection m p d r z) (λ y. kept_from m p d y g)
    (made_kept g.zp1 along.Projection m p d r z) (kept_from_kept m p d g))))

miap_kept : (round : Bool) (p c : ℤ) (z : ZoneLists) (g : GraphicsState) → KeepsShapeBefore z (miap round p c z g)
unfolding miap
miap_kept round p c z g =
    whatever (Before z) (point_in g.zp0 p z) _ (λ q.
    whatever (Before z) (direction g) _ (λ m.
    whatever (Before z) (placed_in g.zp0 along.Freedom m c origin q) _ (λ n.
    put_before (record g { rp0 = p; rp1 = p }) g.zp0 p z (set_at round g m c n))))

mirp_kept : (k : Keeping) (p c : ℤ) (z : ZoneLists) (g : GraphicsState) → KeepsShapeBefore z (mirp k p c z g)
unfolding mirp
mirp_kept k p c z g =
    whatever (Before z) (point_in g.zp1 p z) _ (λ q.
    whatever (Before z) (point_in g.zp0 g.rp0 z) _ (λ r.
    whatever (Before z) (direction g) _ (λ m.
    twice (referred k.set_rp0 p g) z (made g.zp1 along.Freedom m p (single_width g c) r z)
    (λ y. chosen_from k m p (single_width g c) y g)
    (made_kept g.zp1 along.Freedom m p (single_width g c) r z) (chosen_from_kept k m p (single_width g c) g))))

scfs_kept : (p v : ℤ) (z : ZoneLists) (g : GraphicsState) → KeepsShape z (scfs p v z g)
unfolding scfs
scfs_kept p v z g =
    whatever (SameShape z) (point_in g.zp2 p z) _ (λ q.
    whatever (SameShape z) (direction g) _ (λ m.
    whatever (SameShape z) (moved m (v -ℤ cur m q) q) _ (λ n. put_one g.zp2 p (settled_in g.zp2 n) z)))

utp_kept : (p : ℤ) (z : ZoneLists) (g : GraphicsState) → KeepsShape z (utp p z g)
unfolding utp
utp_kept p z g = whatever (SameShape z) (point_in g.zp0 p z) _ (λ q. put_one g.zp0 p (marked g.free false q) z)

isect_kept : (p : ℤ) (a b : Ends) (z : ZoneLists) (g : GraphicsState) → KeepsShape z (isect p a b z g)
unfolding isect
isect_kept p a b z g =
    whatever (SameShape z) (line_through g.zp0 b z) _ (λ other.
    whatever (SameShape z) (line_through g.zp1 a z) _ (λ one.
    whatever (SameShape z) (point_in g.zp2 p z) _ (λ q.
    whatever (SameShape z) (met (one.0) (one.1) (other.0) (other.1)) _ (λ place.
    put_one g.zp2 p (put_to place q) z))))

move_by_kept : (zone : Zone) (p : ℤ) (m : Motion) (d : ℤ) (z : ZoneLists) → KeepsShape z (move_by zone p m d z)
unfolding move_by
move_by_kept zone p m d z = whatever (SameShape z) (point_in zone p z) _ (λ q. put zone p z (moved m d q))

-- a change after another
joined_to : (z y : ZoneLists) (r : Result ZoneLists Why) → SameShape z y → KeepsShape y r → KeepsShape z r
joined_to z y (Ok w) here next = joined z y w here next
joined_to z y (Err why) here next = tt

after : (z : ZoneLists) (r : Result ZoneLists Why) (f : ZoneLists → Result ZoneLists Why)
    → KeepsShape z r → ((y : ZoneLists) → KeepsShape y (f y)) → KeepsShape z (r >>= f)
after z r f once again =
    through (SameShape z) (SameShape z) r f once (λ y here. joined_to z y (f y) here (again y))

alignpts_kept : (p1 p2 : ℤ) (z : ZoneLists) (g : GraphicsState) → KeepsShape z (alignpts p1 p2 z g)
unfolding alignpts
alignpts_kept p1 p2 z g =
    whatever (SameShape z) (point_in g.zp1 p1 z) _ (λ a.
    whatever (SameShape z) (point_in g.zp0 p2 z) _ (λ b.
    whatever (SameShape z) (direction g) _ (λ m.
    after z (move_by g.zp1 p1 m (half (current_distance m a b)) z) _
    (move_by_kept g.zp1 p1 m (half (current_distance m a b)) z)
    (move_by_kept g.zp0 p2 m (neg_ℤ (half (current_distance m a b)))))))

pub record ShapeIsKept (z : ZoneLists) (g : GraphicsState) : Type 0 where
  pub mdap : (round : Bool) (p : ℤ) → KeepsShapeBefore z (moving.mdap round p z g)
  pub mdrp : (k : Keeping) (p : ℤ) → KeepsShapeBefore z (moving.mdrp k p z g)
  pub msirp : (set_rp0 : Bool) (p d : ℤ) → KeepsShapeBefore z (moving.msirp set_rp0 p d z g)
  pub miap : (round : Bool) (p c : ℤ) → KeepsShapeBefore z (by_value.miap round p c z g)
  pub mirp : (k : Keeping) (p c : ℤ) → KeepsShapeBefore z (by_value.mirp k p c z g)
  pub scfs : (p v : ℤ) → KeepsShape z (measuring.scfs p v z g)
  pub utp : (p : ℤ) → KeepsShape z (measuring.utp p z g)
  pub isect : (p : ℤ) (a b : Ends) → KeepsShape z (lines.isect p a b z g)
  pub alignpts : (p1 p2 : ℤ) → KeepsShape z (lines.alignpts p1 p2 z g)

pub shape_kept : (z : ZoneLists) (g : GraphicsState) → ShapeIsKept z g
shape_kept z g = record {
  mdap = λ round p. mdap_kept round p z g;
  mdrp = λ k p. mdrp_kept k p z g;
  msirp = λ set_rp0 p d. msirp_kept set_rp0 p d z g;
  miap = λ round p c. miap_kept round p c z g;
  mirp = λ k p c. mirp_kept k p c z g;
  scfs = λ p v. scfs_kept p v z g;
  utp = λ p. utp_kept p z g;
  isect = λ p a b. isect_kept p a b z g;
  alignpts = λ p1 p2. alignpts_kept p1 p2 z g;
}
