-- No part of the standard: the whole instruction set changes no result of an instruction on several points, except for
-- the refusals of the profile.
use Rattle.std.proofs.Common.{ℕ, suc, nat_le, nat_lt, ℤ, pos, ◌-ℤ◌, Bool, true, false, ◌&&◌, if◌then◌else◌, List, [], ◌∷◌, reverse, Option, Some, None, Result, Ok, refl}
use Rattle.tt_core.specs.Outcomes.{◌>>=◌}
use Rattle.tt_core.specs.declared.fault.Why.{Why}
use Rattle.tt_state.specs.declared.graphics_state.GraphicsState.{GraphicsState}
use Rattle.tt_state.specs.declared.graphics_state.Zone.{Zone}
use Rattle.tt_state.specs.declared.point.Point.{Point}
use Rattle.tt_state.specs.declared.tolerance.Tolerance.{Tolerance}
use Rattle.tt_points_zones.specs.Motions.{current_distance, moved}
use Rattle.tt_points_zones.specs.Points.{points_in, point_in, with_point}
use Rattle.tt_points_zones.specs.WithAll.{with_all, StaysSame, StaysBeside, beside, same, chained, after, by_vectors, passed_over}
use Rattle.tt_points_zones.specs.ZoneNumbers.{zone_of}
use Rattle.tt_points_zones.specs.Zones.{ZoneLists}
use Rattle.tt_points_loops.specs.declared.deltas.DeltaRange.{DeltaRange}
use Rattle.tt_points_loops.specs.declared.shifting.ReferencePoint.{ReferencePoint}
use Rattle.tt_points_loops.specs.declared.shifting.ReferencePoint.TheVariants as by
use Rattle.tt_points_loops.specs.Deltas.{delta_of, move_by, except, pairs_of}
use Rattle.tt_points_loops.specs.Flipping.{flip}
use Rattle.tt_points_loops.specs.Moving.{aligned, align, interpolated, scale_among, other_end, in_between, interpolate, push}
use Rattle.tt_points_loops.specs.Series.{one_by_one, passing_over, looped, set_back, each_from_to}
use Rattle.tt_points_loops.specs.Shifting.{reference, moved_as, shifted_as, follow, number_in, is_but, follow_but, shift, shift_range, follow_in, with_points, contour_in, outline_in, shc, shz}
use Rattle.tt_points_loops.specs.Deltas as deltas
use Rattle.tt_points_loops.specs.Flipping as flipping
use Rattle.tt_points_loops.specs.Moving as moving
use Rattle.tt_points_loops.specs.Shifting as shifting

-- a point replaced
put : (zone : Zone) (n : ℤ) (z : ZoneLists) (r with : Result Point Why) → StaysSame r with
    → StaysSame (r >>= λ q. Ok (with_point zone n q z)) (with >>= λ q. Ok (with_point zone n q z))
put zone n z r with stays =
    chained (λ q. q) (λ w. w) r with (λ q. Ok (with_point zone n q z)) (λ q. Ok (with_point zone n q z)) stays
    (λ q. refl)

-- steps one after another, and loops
series : {N S : Type 0} (step all : N → S → Result S Why) → ((n : N) (s : S) → StaysSame (step n s) (all n s))
    → (ns : List N) (s : S) → StaysSame (one_by_one step ns s) (one_by_one all ns s)
series step all stays [] s = refl
series step all stays (n ∷ ns) s =
    chained (λ t. t) (λ t. t) (step n s) (all n s) (one_by_one step ns) (one_by_one all ns) (stays n s)
    (λ t. series step all stays ns t)

passing : {N S : Type 0} (t : Tolerance) (step all : N → S → Result S Why)
    → ((n : N) (s : S) → StaysSame (step n s) (all n s)) → (ns : List N) (s : S)
    → StaysSame (one_by_one (passing_over t step) ns s) (one_by_one (passing_over t all) ns s)
passing t step all stays ns s =
    series (passing_over t step) (passing_over t all)
    (λ n w. passed_over (λ a. a) t w (step n w) (all n w) (stays n w)) ns s

loop : (t : Tolerance) (step all : ℤ → ZoneLists → Result ZoneLists Why)
    → ((n : ℤ) (z : ZoneLists) → StaysSame (step n z) (all n z)) → (points : List ℤ) (z : ZoneLists) (g : GraphicsState)
    → StaysBeside (looped t step points z g) (looped t all points z (with_all g))
loop t step all stays points z g =
    chained (λ w. w) beside (one_by_one (passing_over t step) (reverse points) z)
    (one_by_one (passing_over t all) (reverse points) z) (λ w. Ok (w, set_back g)) (λ w. Ok (w, set_back (with_all g)))
    (passing t step all stays (reverse points) z) (λ w. refl)

-- the points of a range
chosen : (b : Bool) (p : Point) (move all : Result Point Why) → StaysSame move all
    → StaysSame (if b then move else Ok p) (if b then all else Ok p)
chosen true p move all stays = stays
chosen false p move all stays = refl

unless : (b : Bool) (p : Point) (move all : Result Point Why) → StaysSame move all
    → StaysSame (if b then Ok p else move) (if b then Ok p else all)
unless true p move all stays = refl
unless false p move all stays = stays

each : (low past : ℕ) (move all : ℕ → Point → Result Point Why)
    → ((i : ℕ) (p : Point) → StaysSame (move i p) (all i p)) → (i : ℕ) (ps : List Point)
    → StaysSame (each_from_to low past move i ps) (each_from_to low past all i ps)
each low past move all stays i [] = refl
each low past move all stays i (p ∷ ps) =
    chained (λ q. q) (λ qs. qs) (if nat_le low i && nat_lt i past then move i p else Ok p)
    (if nat_le low i && nat_lt i past then all i p else Ok p)
    (λ q. each_from_to low past move (suc i) ps >>= λ qs. Ok (q ∷ qs))
    (λ q. each_from_to low past all (suc i) ps >>= λ qs. Ok (q ∷ qs))
    (chosen (nat_le low i && nat_lt i past) p (move i p) (all i p) (stays i p))
    (λ q. chained (λ qs. qs) (λ qs. qs) (each_from_to low past move (suc i) ps) (each_from_to low past all (suc i) ps)
    (λ qs. Ok (q ∷ qs)) (λ qs. Ok (q ∷ qs)) (each low past move all stays (suc i) ps) (λ qs. refl))

range : (zone : Zone) (first past : ℕ) (move all : ℕ → Point → Result Point Why)
    → ((i : ℕ) (p : Point) → StaysSame (move i p) (all i p)) → (z : ZoneLists)
    → StaysSame (follow_in zone first past move z) (follow_in zone first past all z)
range zone first past move all stays z =
    chained (λ qs. qs) (λ w. w) (each_from_to first past move 0 (points_in zone z))
    (each_from_to first past all 0 (points_in zone z)) (λ qs. Ok (with_points zone qs z))
    (λ qs. Ok (with_points zone qs z)) (each first past move all stays 0 (points_in zone z)) (λ qs. refl)

-- the instructions
aligns : (g : GraphicsState) (n : ℤ) (z : ZoneLists) → StaysSame (align g n z) (align (with_all g) n z)
aligns g n z =
    after (λ w. w) (point_in g.zp1 n z) _ _ (λ p.
    after (λ w. w) (point_in g.zp0 g.rp0 z) _ _ (λ r.
    put g.zp1 n z (aligned g r p) (aligned (with_all g) r p) (by_vectors g (λ m. moved m (pos 0 -ℤ current_distance m r p) p))))

interpolates : (t : Tolerance) (g : GraphicsState) (n : ℤ) (z : ZoneLists)
    → StaysSame (interpolate t g n z) (interpolate t (with_all g) n z)
interpolates t g n z =
    let halves = z.originals.halves in
    let s = scale_among g z in
    after (λ w. w) (point_in g.zp2 n z) _ _ (λ p.
    put g.zp2 n z (in_between t g z p) (in_between t (with_all g) z p)
    (after (λ q. q) (point_in g.zp0 g.rp1 z) _ _ (λ a.
    after (λ q. q) (other_end t g z a) _ _ (λ b.
    by_vectors g (λ m. moved m (interpolated halves s m a b p -ℤ current_distance m a p) p)))))

pushes : (amount : ℤ) (g : GraphicsState) (n : ℤ) (z : ZoneLists)
    → StaysSame (push amount g n z) (push amount (with_all g) n z)
pushes amount g n z = same (push amount g n z)

follows : (touch : Bool) (g : GraphicsState) (r p : Point)
    → StaysSame (follow touch g r p) (follow touch (with_all g) r p)
follows touch g r p = by_vectors g (λ m. if touch then moved_as m r p else shifted_as m r p)

follows_but : (but : Option ℕ) (touch : Bool) (g : GraphicsState) (r : Point) (i : ℕ) (p : Point)
    → StaysSame (follow_but but touch g r i p) (follow_but but touch (with_all g) r i p)
follows_but but touch g r i p =
    unless (is_but but i) p (follow touch g r p) (follow touch (with_all g) r p) (follows touch g r p)

shifts : (g : GraphicsState) (before : Result Point Why) (n : ℤ) (z : ZoneLists)
    → StaysSame (shift g before n z) (shift (with_all g) before n z)
shifts g before n z =
    after (λ w. w) (point_in g.zp2 n z) _ _ (λ p.
    after (λ w. w) before _ _ (λ r.
    put g.zp2 n z (follow true g r p) (follow true (with_all g) r p) (follows true g r p)))

shifts_range : (touch : Bool) (which : ReferencePoint) (zone : Zone) (r : ℕ × ℕ) (z : ZoneLists) (g : GraphicsState)
    → StaysSame (shift_range touch which zone r z g) (shift_range touch which zone r z (with_all g))
shifts_range touch by.Rp1 zone r z g =
    after (λ w. w) (reference by.Rp1 g z) _ _ (λ p.
    range zone (r.0) (r.1) (follow_but (number_in zone g.zp0 g.rp1) touch g p)
    (follow_but (number_in zone g.zp0 g.rp1) touch (with_all g) p)
    (follows_but (number_in zone g.zp0 g.rp1) touch g p) z)
shifts_range touch by.Rp2 zone r z g =
    after (λ w. w) (reference by.Rp2 g z) _ _ (λ p.
    range zone (r.0) (r.1) (follow_but (number_in zone g.zp1 g.rp2) touch g p)
    (follow_but (number_in zone g.zp1 g.rp2) touch (with_all g) p)
    (follows_but (number_in zone g.zp1 g.rp2) touch g p) z)

shp_stays : (t : Tolerance) (which : ReferencePoint) (points : List ℤ) (z : ZoneLists) (g : GraphicsState)
    → StaysBeside (shifting.shp t which points z g) (shifting.shp t which points z (with_all g))
shp_stays t by.Rp1 points z g =
    loop t (shift g (reference by.Rp1 g z)) (shift (with_all g) (reference by.Rp1 g z))
    (shifts g (reference by.Rp1 g z)) points z g
shp_stays t by.Rp2 points z g =
    loop t (shift g (reference by.Rp2 g z)) (shift (with_all g) (reference by.Rp2 g z))
    (shifts g (reference by.Rp2 g z)) points z g

shz_stays : (which : ReferencePoint) (e : ℤ) (z : ZoneLists) (g : GraphicsState)
    → StaysSame (shz which e z g) (shz which e z (with_all g))
unfolding shz
shz_stays which e z g =
    after (λ w. w) (zone_of e) _ _ (λ zone. shifts_range false which zone (outline_in zone z) z g)

shc_stays : (which : ReferencePoint) (c : ℤ) (z : ZoneLists) (g : GraphicsState)
    → StaysSame (shc which c z g) (shc which c z (with_all g))
shc_stays which c z g =
    after (λ w. w) (contour_in g.zp2 c z) _ _ (λ r. shifts_range true which g.zp2 r z g)

moves_by : (d : Option ℤ) (g : GraphicsState) (n : ℤ) (z : ZoneLists)
    → StaysSame (move_by d g n z) (move_by d (with_all g) n z)
moves_by None g n z = refl
moves_by (Some d) g n z =
    after (λ w. w) (point_in g.zp0 n z) _ _ (λ p.
    by_vectors g (λ m. moved m d p >>= λ q. Ok (with_point g.zp0 n q z)))

excepts : (t : Tolerance) (range : DeltaRange) (ppem : ℕ) (g : GraphicsState) (pair : ℤ × ℤ) (z : ZoneLists)
    → StaysSame (except t range ppem g pair z) (except t range ppem (with_all g) pair z)
excepts t range ppem g pair z =
    after (λ w. w) (delta_of t range (pair.0) ppem g) _ _ (λ d. moves_by d g (pair.1) z)

pub record SeveralStay (z : ZoneLists) (g : GraphicsState) : Type 0 where
  pub alignrp : (t : Tolerance) (points : List ℤ)
      → StaysBeside (moving.alignrp t points z g) (moving.alignrp t points z (with_all g))
  pub ip : (t : Tolerance) (points : List ℤ) → StaysBeside (moving.ip t points z g) (moving.ip t points z (with_all g))
  pub shpix : (t : Tolerance) (points : List ℤ) (amount : ℤ)
      → StaysBeside (moving.shpix t points amount z g) (moving.shpix t points amount z (with_all g))
  pub flippt : (t : Tolerance) (points : List ℤ)
      → StaysBeside (flipping.flippt t points z g) (flipping.flippt t points z (with_all g))
  pub shp : (t : Tolerance) (which : ReferencePoint) (points : List ℤ)
      → StaysBeside (shifting.shp t which points z g) (shifting.shp t which points z (with_all g))
  pub shc : (which : ReferencePoint) (c : ℤ)
      → StaysSame (shifting.shc which c z g) (shifting.shc which c z (with_all g))
  pub shz : (which : ReferencePoint) (e : ℤ)
      → StaysSame (shifting.shz which e z g) (shifting.shz which e z (with_all g))
  pub deltap : (t : Tolerance) (range : DeltaRange) (ppem : ℕ) (pairs : List ℤ)
      → StaysSame (deltas.deltap t range ppem pairs z g) (deltas.deltap t range ppem pairs z (with_all g))

pub several_stay : (z : ZoneLists) (g : GraphicsState) → SeveralStay z g
several_stay z g = record {
  alignrp = λ t points. loop t (align g) (align (with_all g)) (aligns g) points z g;
  ip = λ t points. loop t (interpolate t g) (interpolate t (with_all g)) (interpolates t g) points z g;
  shpix = λ t points amount. loop t (push amount g) (push amount (with_all g)) (pushes amount g) points z g;
  flippt = λ t points. loop t flip flip (λ n w. same (flip n w)) points z g;
  shp = λ t which points. shp_stays t which points z g;
  shc = λ which c. shc_stays which c z g;
  shz = λ which e. shz_stays which e z g;
  deltap = λ t range ppem pairs.
      passing t (except t range ppem g) (except t range ppem (with_all g)) (excepts t range ppem g)
      (reverse (pairs_of pairs)) z;
}
