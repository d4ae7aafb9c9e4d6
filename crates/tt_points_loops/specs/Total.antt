-- No part of the standard: no instruction on several points is refused for too few values. A tolerant machine never
-- refuses an instruction on points or pairs in turn for a missing thing.
use Rattle.std.proofs.Common.{◌≡◌, ℕ, suc, ◌+◌, nat_le, nat_lt, ℤ, pos, int_lt, unsigned_abs, slice_get, ◌-ℤ◌, Bool, true, false, ◌&&◌, ◌||◌, if◌then◌else◌, List, [], ◌∷◌, length, reverse, Option, Some, None, Result, Ok, Err, refl}
use Rattle.std.specs.Option.{ok_or}
use Rattle.std.specs.Ordering.{int_eq}
use Rattle.tt_core.specs.Outcomes.{◌>>=◌}
use Rattle.tt_core.specs.declared.fault.Why.{Why}
use Rattle.tt_core.specs.declared.fault.Why.TheVariants as why
use Rattle.tt_core.specs.declared.halves.Halves.{Halves}
use Rattle.tt_core.specs.declared.scaling.Scale.{Scale}
use Rattle.tt_state.specs.Loosening.{IsTotal, Enough, total_after, enough_after, total_passed_over, is_short}
use Rattle.tt_state.specs.Tolerance.{is_missing}
use Rattle.tt_state.specs.Vectors.{along}
use Rattle.tt_state.specs.Axes.{pair_of}
use Rattle.tt_state.specs.declared.graphics_state.GraphicsState.{GraphicsState}
use Rattle.tt_state.specs.declared.graphics_state.Zone.{Zone}
use Rattle.tt_state.specs.declared.graphics_state.Zone.TheVariants as zone
use Rattle.tt_state.specs.declared.point.Point.{Point}
use Rattle.tt_state.specs.declared.tolerance.Tolerance.TheVariants as tolerance
use Rattle.tt_points_zones.specs.Motions.{direction, current_distance, steps, moved, moved_along, offset}
use Rattle.tt_points_zones.specs.Points.{points_in, point_in, with_point}
use Rattle.tt_points_zones.specs.Total.{direction_total, either, enough_of, enough_of_either, found, further_total, moved_total, point_enough, pushed_total}
use Rattle.tt_points_zones.specs.ZoneNumbers.{zone_of}
use Rattle.tt_points_zones.specs.Zones.{ZoneLists}
use Rattle.tt_points_zones.specs.declared.motion.Motion.{Motion}
use Rattle.tt_points_loops.specs.declared.deltas.DeltaRange.{DeltaRange}
use Rattle.tt_points_loops.specs.declared.shifting.ReferencePoint.{ReferencePoint}
use Rattle.tt_points_loops.specs.Deltas.{delta_of, move_by, except, pairs_of}
use Rattle.tt_points_loops.specs.Flipping.{flip, put_on, flip_range}
use Rattle.tt_points_loops.specs.Moving.{aligned, align, interpolated, kept_between, scale_among, other_end, in_between, interpolate, push}
use Rattle.tt_points_loops.specs.Series.{one_by_one, passing_over, looped, set_back, each_from_to}
use Rattle.tt_points_loops.specs.Shifting.{reference_zone, reference_number, reference, moved_as, shifted_as, follow, number_in, is_but, follow_but, shift, shift_range, contour_in, outline_in, shc, shz}
use Rattle.tt_points_loops.specs.Deltas as deltas
use Rattle.tt_points_loops.specs.Flipping as flipping
use Rattle.tt_points_loops.specs.Moving as moving
use Rattle.tt_points_loops.specs.Shifting as shifting

-- nor is it refused for a missing thing
not_missing : (missing short : Bool) → (missing || short) ≡ false → missing ≡ false
not_missing false short never = refl
not_missing true short never = absurd cc

pub there_of : {A : Type 0} (r : Result A Why) (e : Why) → IsTotal r → r ≡ Err e → is_missing e ≡ false
there_of (Ok a) e total is = absurd cc
there_of (Err f) e total is =
    let same : e ≡ f = cc in
    rw same (not_missing (is_missing f) (is_short f) total)

follow_total : (touch : Bool) (g : GraphicsState) (r p : Point) → IsTotal (follow touch g r p)
follow_total touch g r p =
    total_after (direction g) _ (direction_total g) (λ m.
    either touch (moved_as m r p) (shifted_as m r p) (moved_total m (offset m r) p)
    (further_total m.free (steps m (offset m r)) p))

follow_but_total : (but : Option ℕ) (touch : Bool) (g : GraphicsState) (r : Point) (i : ℕ) (p : Point)
    → IsTotal (follow_but but touch g r i p)
follow_but_total but touch g r i p =
    either (is_but but i) (Ok p) (follow touch g r p) (record {}) (follow_total touch g r p)

-- the points of a range
each_total : (low past : ℕ) (move : ℕ → Point → Result Point Why) → ((i : ℕ) (p : Point) → IsTotal (move i p))
    → (i : ℕ) (ps : List Point) → IsTotal (each_from_to low past move i ps)
each_total low past move total i [] = record {}
each_total low past move total i (p ∷ ps) =
    total_after (if nat_le low i && nat_lt i past then move i p else Ok p) _
    (either (nat_le low i && nat_lt i past) (move i p) (Ok p) (total i p) (record {}))
    (λ q. total_after (each_from_to low past move (suc i) ps) _ (each_total low past move total (suc i) ps)
    (λ qs. record {}))

pub followed_total : (first past : ℕ) (but : Option ℕ) (touch : Bool) (g : GraphicsState) (r : Point) (ps : List Point)
    → IsTotal (each_from_to first past (follow_but but touch g r) 0 ps)
followed_total first past but touch g r ps =
    each_total first past (follow_but but touch g r) (follow_but_total but touch g r) 0 ps

-- steps one after another, and loops
series : {N S : Type 0} (step : N → S → Result S Why) → ((n : N) (s : S) → IsTotal (step n s)) → (ns : List N) (s : S)
    → IsTotal (one_by_one step ns s)
series step total [] s = record {}
series step total (n ∷ ns) s =
    total_after (step n s) (one_by_one step ns) (total n s) (λ t. series step total ns t)

pub passing : {N S : Type 0} (step : N → S → Result S Why) → ((n : N) (s : S) → Enough (step n s)) → (ns : List N)
    → (s : S) → IsTotal (one_by_one (passing_over tolerance.Tolerant step) ns s)
passing step enough ns s =
    series (passing_over tolerance.Tolerant step) (λ n w. total_passed_over w (step n w) (enough n w)) ns s

loop : (step : ℤ → ZoneLists → Result ZoneLists Why) → ((n : ℤ) (z : ZoneLists) → Enough (step n z))
    → (points : List ℤ) (z : ZoneLists) (g : GraphicsState) → IsTotal (looped tolerance.Tolerant step points z g)
loop step enough points z g =
    total_after (one_by_one (passing_over tolerance.Tolerant step) (reverse points) z) (λ w. Ok (w, set_back g))
    (passing step enough (reverse points) z) (λ w. record {})

-- a point replaced
pub put_enough : (zone : Zone) (n : ℤ) (z : ZoneLists) (r : Result Point Why) → Enough r
    → Enough (r >>= λ q. Ok (with_point zone n q z))
put_enough zone n z r enough = enough_after r (λ q. Ok (with_point zone n q z)) enough (λ q. record {})

pub by_vectors_total : {A : Type 0} (g : GraphicsState) (f : Motion → Result A Why) → ((m : Motion) → IsTotal (f m))
    → IsTotal (direction g >>= f)
by_vectors_total g f total = total_after (direction g) f (direction_total g) total

-- the instructions
align_enough : (g : GraphicsState) (n : ℤ) (z : ZoneLists) → Enough (align g n z)
align_enough g n z =
    enough_after (point_in g.zp1 n z) _ (point_enough g.zp1 n z) (λ p.
    enough_after (point_in g.zp0 g.rp0 z) _ (point_enough g.zp0 g.rp0 z) (λ r.
    put_enough g.zp1 n z (aligned g r p) (enough_of (aligned g r p)
    (by_vectors_total g (λ m. moved m (pos 0 -ℤ current_distance m r p) p)
    (λ m. moved_total m (pos 0 -ℤ current_distance m r p) p)))))

kept_enough : (by : Halves) (s : Option Scale) (g : GraphicsState) (a b p : Point)
    → Enough (kept_between by s g a b p)
kept_enough by s g a b p =
    enough_of (kept_between by s g a b p)
    (by_vectors_total g (λ m. moved m (interpolated by s m a b p -ℤ current_distance m a p) p)
    (λ m. moved_total m (interpolated by s m a b p -ℤ current_distance m a p) p))

other_end_enough : (g : GraphicsState) (z : ZoneLists) (a : Point) → Enough (other_end tolerance.Tolerant g z a)
other_end_enough g z a =
    enough_of (other_end tolerance.Tolerant g z a)
    (total_passed_over a (point_in g.zp1 g.rp2 z) (point_enough g.zp1 g.rp2 z))

interpolate_enough : (g : GraphicsState) (n : ℤ) (z : ZoneLists) → Enough (interpolate tolerance.Tolerant g n z)
interpolate_enough g n z =
    enough_after (point_in g.zp2 n z) _ (point_enough g.zp2 n z) (λ p.
    put_enough g.zp2 n z (in_between tolerance.Tolerant g z p)
    (enough_after (point_in g.zp0 g.rp1 z) _ (point_enough g.zp0 g.rp1 z) (λ a.
    enough_after (other_end tolerance.Tolerant g z a) _ (other_end_enough g z a) (λ b.
    kept_enough z.originals.halves (scale_among g z) g a b p))))

push_enough : (amount : ℤ) (g : GraphicsState) (n : ℤ) (z : ZoneLists) → Enough (push amount g n z)
push_enough amount g n z =
    enough_after (point_in g.zp2 n z) _ (point_enough g.zp2 n z) (λ p.
    put_enough g.zp2 n z (moved_along g.free amount p)
    (enough_of (moved_along g.free amount p) (pushed_total g.free (along (pair_of g.free) amount) p)))

flip_enough : (n : ℤ) (z : ZoneLists) → Enough (flip n z)
flip_enough n z = enough_after (point_in zone.Glyph n z) _ (point_enough zone.Glyph n z) (λ p. record {})

shift_enough : (g : GraphicsState) (before : Result Point Why) → Enough before → (n : ℤ) (z : ZoneLists)
    → Enough (shift g before n z)
shift_enough g before enough n z =
    enough_after (point_in g.zp2 n z) _ (point_enough g.zp2 n z) (λ p.
    enough_after before _ enough (λ r.
    put_enough g.zp2 n z (follow true g r p) (enough_of (follow true g r p) (follow_total true g r p))))

shift_range_enough : (touch : Bool) (which : ReferencePoint) (zone : Zone) (r : ℕ × ℕ) (z : ZoneLists)
    (g : GraphicsState) → Enough (shift_range touch which zone r z g)
shift_range_enough touch which zone r z g =
    let but = number_in zone (reference_zone which g) (reference_number which g) in
    enough_after (reference which g z) _ (point_enough (reference_zone which g) (reference_number which g) z) (λ p.
    enough_after (each_from_to (r.0) (r.1) (follow_but but touch g p) 0 (points_in zone z)) _
    (enough_of (each_from_to (r.0) (r.1) (follow_but but touch g p) 0 (points_in zone z))
    (followed_total (r.0) (r.1) but touch g p (points_in zone z))) (λ ps. record {}))

contour_enough : (zone : Zone) (c : ℤ) (z : ZoneLists) → Enough (contour_in zone c z)
contour_enough zone.Twilight c z =
    enough_of_either (int_eq c (pos 0)) (Ok (0, length z.twilight)) (Err why.ContourRange) (record {}) refl
contour_enough zone.Glyph c z =
    enough_of_either (int_lt c (pos 0)) (Err why.ContourRange)
    (ok_or (slice_get z.contours (unsigned_abs c)) why.ContourRange) refl
    (found (slice_get z.contours (unsigned_abs c)) why.ContourRange refl)

shc_enough : (which : ReferencePoint) (c : ℤ) (z : ZoneLists) (g : GraphicsState) → Enough (shc which c z g)
shc_enough which c z g =
    enough_after (contour_in g.zp2 c z) _ (contour_enough g.zp2 c z) (λ r. shift_range_enough true which g.zp2 r z g)

pub zone_enough : (e : ℤ) → Enough (zone_of e)
zone_enough e =
    enough_of_either (int_eq e (pos 0)) (Ok zone.Twilight)
    (if int_eq e (pos 1) then Ok zone.Glyph else Err why.ZoneRange) (record {})
    (enough_of_either (int_eq e (pos 1)) (Ok zone.Glyph) (Err why.ZoneRange) (record {}) refl)

shz_enough : (which : ReferencePoint) (e : ℤ) (z : ZoneLists) (g : GraphicsState) → Enough (shz which e z g)
unfolding shz
shz_enough which e z g =
    enough_after (zone_of e) _ (zone_enough e) (λ zone. shift_range_enough false which zone (outline_in zone z) z g)

flip_range_enough : (on : Bool) (low high : ℤ) (z : ZoneLists) → Enough (flip_range on low high z)
flip_range_enough on low high z =
    let first = unsigned_abs low in
    let past = unsigned_abs high + 1 in
    enough_after (point_in zone.Glyph high z) _ (point_enough zone.Glyph high z) (λ l.
    enough_after (point_in zone.Glyph low z) _ (point_enough zone.Glyph low z) (λ f.
    enough_after (each_from_to first past (λ i p. Ok (put_on on p)) 0 z.glyph) _
    (enough_of (each_from_to first past (λ i p. Ok (put_on on p)) 0 z.glyph)
    (each_total first past (λ i p. Ok (put_on on p)) (λ i p. record {}) 0 z.glyph)) (λ ps. record {})))

move_by_enough : (d : Option ℤ) (g : GraphicsState) (n : ℤ) (z : ZoneLists) → Enough (move_by d g n z)
move_by_enough None g n z = record {}
move_by_enough (Some d) g n z =
    enough_after (point_in g.zp0 n z) _ (point_enough g.zp0 n z) (λ p.
    enough_after (direction g) _ (enough_of (direction g) (direction_total g)) (λ m.
    put_enough g.zp0 n z (moved m d p) (enough_of (moved m d p) (moved_total m d p))))

except_enough : (range : DeltaRange) (ppem : ℕ) (g : GraphicsState) (pair : ℤ × ℤ) (z : ZoneLists)
    → Enough (except tolerance.Tolerant range ppem g pair z)
except_enough range ppem g pair z =
    enough_after (delta_of tolerance.Tolerant range (pair.0) ppem g) (λ d. move_by d g (pair.1) z) (record {})
    (λ d. move_by_enough d g (pair.1) z)

pub record SeveralTotal (z : ZoneLists) (g : GraphicsState) : Type 0 where
  pub alignrp : (points : List ℤ) → IsTotal (moving.alignrp tolerance.Tolerant points z g)
  pub ip : (points : List ℤ) → IsTotal (moving.ip tolerance.Tolerant points z g)
  pub shpix : (points : List ℤ) (amount : ℤ) → IsTotal (moving.shpix tolerance.Tolerant points amount z g)
  pub flippt : (points : List ℤ) → IsTotal (flipping.flippt tolerance.Tolerant points z g)
  pub shp : (which : ReferencePoint) (points : List ℤ) → IsTotal (shifting.shp tolerance.Tolerant which points z g)
  pub deltap : (range : DeltaRange) (ppem : ℕ) (pairs : List ℤ)
      → IsTotal (deltas.deltap tolerance.Tolerant range ppem pairs z g)
  pub flip_range : (on : Bool) (low high : ℤ) → Enough (flipping.flip_range on low high z)
  pub shc : (which : ReferencePoint) (c : ℤ) → Enough (shifting.shc which c z g)
  pub shz : (which : ReferencePoint) (e : ℤ) → Enough (shifting.shz which e z g)

pub several_total : (z : ZoneLists) (g : GraphicsState) → SeveralTotal z g
several_total z g = record {
  alignrp = λ points. loop (align g) (align_enough g) points z g;
  ip = λ points. loop (interpolate tolerance.Tolerant g) (interpolate_enough g) points z g;
  shpix = λ points amount. loop (push amount g) (push_enough amount g) points z g;
  flippt = λ points. loop flip flip_enough points z g;
  shp = λ which points.
      loop (shift g (reference which g z))
      (shift_enough g (reference which g z) (point_enough (reference_zone which g) (reference_number which g) z))
      points z g;
  deltap = λ range ppem pairs.
      passing (except tolerance.Tolerant range ppem g) (except_enough range ppem g) (reverse (pairs_of pairs)) z;
  flip_range = λ on low high. flip_range_enough on low high z;
  shc = λ which c. shc_enough which c z g;
  shz = λ which e. shz_enough which e z g;
}
