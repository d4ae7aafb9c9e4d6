-- An instruction on two points that computes all before it writes gives the same as in two steps.
use Rattle.std.proofs.Common.{◌≡◌, ℤ, neg_ℤ, unsigned_abs, slice_set, Bool, true, false, if◌then◌else◌, List, Result, Ok, Err, ap, refl, rules, ◌∙◌, sym}
use Rattle.std.specs.Ordering.{int_eq}
use Rattle.std.proofs.lemmas.Bool.Decides.{Decides-int_eq}
use Rattle.std.proofs.lemmas.List.{length-set, set-set}
use Rattle.tt_core.specs.Outcomes.{◌>>=◌}
use Rattle.tt_core.specs.declared.fault.Why.{Why}
use Rattle.tt_state.specs.declared.graphics_state.GraphicsState.{GraphicsState}
use Rattle.tt_state.specs.declared.graphics_state.Zone.{Zone}
use Rattle.tt_state.specs.declared.graphics_state.Zone.TheVariants as zone
use Rattle.tt_state.specs.declared.point.Point.{Point}
use Rattle.tt_points_zones.specs.Motions.{current_distance, original_distance, direction, moved}
use Rattle.tt_points_zones.specs.Points.{HasPoint, point_at, point_in, with_point}
use Rattle.tt_points_zones.specs.Zones.{ZoneLists}
use Rattle.tt_points_zones.specs.declared.motion.Motion.{Motion}
use Rattle.tt_points.proofs.Points.{point_at-put, point_at-other}
use Rattle.tt_points.specs.declared.distances.Keeping.{Keeping}
use Rattle.tt_points.specs.ControlValues.{mirp_distance, chosen_from, mirp}
use Rattle.tt_points.specs.Distances.{single_width}
use Rattle.tt_points.specs.Lines.{half, move_by, alignpts}
use Rattle.tt_points.specs.Moving.{kept, referred, kept_from, msirp}
use Rattle.tt_points.specs.Pairs.{seen}
use Rattle.tt_points.specs.Twilight.{made, placed, placed_in}
use Rattle.tt_points.specs.declared.twilight.AlongVector.{AlongVector}
use Rattle.tt_points.specs.declared.twilight.AlongVector.TheVariants as along

pub put_there : (b : Zone) (p : ℤ) (z : ZoneLists) (a q : Point) → point_in b p z ≡ Ok a
    → point_in b p (with_point b p q z) ≡ Ok q
put_there zone.Twilight p z a q is = point_at-put p z.twilight a q is
put_there zone.Glyph p z a q is = point_at-put p z.glyph a q is

-- in one zone: the same point, or another
in_one : (test : Bool) (n p : ℤ) (ps : List Point) (r a q : Point) → int_eq n p ≡ test → point_at n ps ≡ Ok r
    → point_at p ps ≡ Ok a → point_at n (slice_set ps (unsigned_abs p) q) ≡ Ok (if test then q else r)
in_one true n p ps r a q is there was =
    let same : n ≡ p = (Decides-int_eq n p).0 is in
    rw same (point_at-put p ps a q was)
in_one false n p ps r a q is there was = point_at-other n p ps r a q there was is

pub seen_there : (o b : Zone) (n p : ℤ) (z : ZoneLists) (r a q : Point) → point_in o n z ≡ Ok r
    → point_in b p z ≡ Ok a → point_in o n (with_point b p q z) ≡ Ok (seen o n r b p q)
seen_there zone.Twilight zone.Twilight n p z r a q there was = in_one (int_eq n p) n p z.twilight r a q refl there was
seen_there zone.Glyph zone.Glyph n p z r a q there was = in_one (int_eq n p) n p z.glyph r a q refl there was
seen_there zone.Twilight zone.Glyph n p z r a q there was = there
seen_there zone.Glyph zone.Twilight n p z r a q there was = there

same_of : (test : Bool) (n p : ℤ) (ps : List Point) (r q : Point) → int_eq n p ≡ test → point_at n ps ≡ Ok r
    → point_at p ps ≡ Ok q → (if test then q else r) ≡ r
same_of true n p ps r q is there was =
    let one = sym was ∙ ap (λ k. point_at k ps) (sym ((Decides-int_eq n p).0 is)) ∙ there in
    search (rules, one)
same_of false n p ps r q is there was = refl

-- a point that becomes itself is unchanged
seen_same : (o b : Zone) (n p : ℤ) (z : ZoneLists) (r q : Point) → point_in o n z ≡ Ok r → point_in b p z ≡ Ok q
    → seen o n r b p q ≡ r
seen_same zone.Twilight zone.Twilight n p z r q there was = same_of (int_eq n p) n p z.twilight r q refl there was
seen_same zone.Glyph zone.Glyph n p z r q there was = same_of (int_eq n p) n p z.glyph r q refl there was
seen_same zone.Twilight zone.Glyph n p z r q there was = refl
seen_same zone.Glyph zone.Twilight n p z r q there was = refl

put_twice : (b : Zone) (p : ℤ) (z : ZoneLists) (a q : Point)
    → with_point b p q (with_point b p a z) ≡ with_point b p q z
put_twice zone.Twilight p z a q = ap (λ ps. record z { twilight = ps }) (set-set z.twilight (unsigned_abs p) a q)
put_twice zone.Glyph p z a q = ap (λ ps. record z { glyph = ps }) (set-set z.glyph (unsigned_abs p) a q)

-- zones beside a graphics state: given whole, or by the one point that is replaced
abbrev before : GraphicsState → Result ZoneLists Why → Result (ZoneLists × GraphicsState) Why
before g given = given >>= λ z. Ok (z, g)

abbrev pub put_before : Zone → ℤ → ZoneLists → GraphicsState → Result Point Why → Result (ZoneLists × GraphicsState) Why
put_before b p z g given = given >>= λ q. Ok (with_point b p q z, g)

at_once : (b : Zone) (p : ℤ) (z : ZoneLists) (g : GraphicsState) (given : Result Point Why)
    → before g (given >>= λ e. Ok (with_point b p e z)) ≡ put_before b p z g given
at_once b p z g (Ok e) = refl
at_once b p z g (Err why) = refl

put_again : (b : Zone) (p : ℤ) (z : ZoneLists) (a : Point) (g : GraphicsState) (given : Result Point Why)
    → before g (given >>= λ e. Ok (with_point b p e (with_point b p a z))) ≡ put_before b p z g given
put_again b p z a g (Ok e) = ap (λ w. Ok (w, g)) (put_twice b p z a e)
put_again b p z a g (Err why) = refl

-- a point is replaced, and then changed by a function of another point
abbrev two_steps : Zone → Zone → ℤ → ℤ → (Point → Point → Result Point Why) → GraphicsState → Result ZoneLists Why
    → Result (ZoneLists × GraphicsState) Why
two_steps b o p n f g given = given >>= λ y.
    before g (point_in b p y >>= λ q. point_in o n y >>= λ r. f q r >>= λ e. Ok (with_point b p e y))

after_one : (b o : Zone) (p n : ℤ) (z : ZoneLists) (q r : Point) (f : Point → Point → Result Point Why)
    (g : GraphicsState) (given : Result Point Why) → point_in b p z ≡ Ok q → point_in o n z ≡ Ok r
    → two_steps b o p n f g (given >>= λ a. Ok (with_point b p a z))
    ≡ put_before b p z g (given >>= λ a. f a (seen o n r b p a))
after_one b o p n z q r f g (Ok a) was there =
    rw (put_there b p z q a was, seen_there o b n p z r q a there was) (put_again b p z a g (f a (seen o n r b p a)))
after_one b o p n z q r f g (Err why) was there = refl

placed_once : (b o : Zone) (by : AlongVector) (m : Motion) (p d n : ℤ) (z : ZoneLists) (q r : Point)
    (f : Point → Point → Result Point Why) (g : GraphicsState) → point_in b p z ≡ Ok q → point_in o n z ≡ Ok r
    → two_steps b o p n f g (made b by m p d r z)
    ≡ put_before b p z g (placed_in b by m d r q >>= λ a. f a (seen o n r b p a))
unfolding made placed_in
placed_once zone.Twilight o by m p d n z q r f g was there =
    rw was (after_one zone.Twilight o p n z q r f g (placed by m d r q) was there)
placed_once zone.Glyph o by m p d n z q r f g was there =
    rw (seen_same o zone.Glyph n p z r q there was, was, there) (at_once zone.Glyph p z g (f q r))

pub msirp_once : (set_rp0 : Bool) (p d : ℤ) (z : ZoneLists) (g : GraphicsState) (q r : Point) (m : Motion)
    → point_in g.zp1 p z ≡ Ok q → point_in g.zp0 g.rp0 z ≡ Ok r → direction g ≡ Ok m
    → msirp set_rp0 p d z g
    ≡ put_before g.zp1 p z (referred set_rp0 p g)
    (placed_in g.zp1 along.Projection m d r q >>= λ a. kept m d a (seen g.zp0 g.rp0 r g.zp1 p a))
unfolding msirp kept_from
msirp_once set_rp0 p d z g q r m was there way =
    rw (was, there, way)
    (placed_once g.zp1 g.zp0 along.Projection m p d g.rp0 z q r (kept m d) (referred set_rp0 p g) was there)

-- a point moved to the distance from another that a control value gives
abbrev pub chosen_at : Keeping → GraphicsState → Motion → ℤ → Point → Point → Result Point Why
chosen_at k g m c q r = kept m (mirp_distance k g (original_distance m r q) c) q r

pub mirp_once : (k : Keeping) (p c : ℤ) (z : ZoneLists) (g : GraphicsState) (q r : Point) (m : Motion)
    → point_in g.zp1 p z ≡ Ok q → point_in g.zp0 g.rp0 z ≡ Ok r → direction g ≡ Ok m
    → mirp k p c z g
    ≡ put_before g.zp1 p z (referred k.set_rp0 p g)
    (placed_in g.zp1 along.Freedom m (single_width g c) r q >>= λ a.
    chosen_at k g m (single_width g c) a (seen g.zp0 g.rp0 r g.zp1 p a))
unfolding mirp chosen_from
mirp_once k p c z g q r m was there way =
    rw (was, there, way)
    (placed_once g.zp1 g.zp0 along.Freedom m p (single_width g c) g.rp0 z q r
    (chosen_at k g m (single_width g c)) (referred k.set_rp0 p g) was there)

-- ALIGNPTS moves two points by their numbers
second : (b o : Zone) (p n : ℤ) (z : ZoneLists) (q r : Point) (m : Motion) (d : ℤ) (given : Result Point Why)
    → point_in b p z ≡ Ok q → point_in o n z ≡ Ok r
    → ((given >>= λ a. Ok (with_point b p a z)) >>= λ y. move_by o n m d y)
    ≡ (given >>= λ a. moved m d (seen o n r b p a) >>= λ e. Ok (with_point o n e (with_point b p a z)))
unfolding move_by
second b o p n z q r m d (Ok a) was there = rw (seen_there o b n p z r q a there was) refl
second b o p n z q r m d (Err why) was there = refl

pub alignpts_once : (p1 p2 : ℤ) (z : ZoneLists) (g : GraphicsState) (a b : Point) (m : Motion)
    → point_in g.zp1 p1 z ≡ Ok a → point_in g.zp0 p2 z ≡ Ok b → direction g ≡ Ok m
    → alignpts p1 p2 z g
    ≡ (moved m (half (current_distance m a b)) a >>= λ e.
    moved m (neg_ℤ (half (current_distance m a b))) (seen g.zp0 p2 b g.zp1 p1 e) >>= λ h.
    Ok (with_point g.zp0 p2 h (with_point g.zp1 p1 e z)))
unfolding alignpts move_by
alignpts_once p1 p2 z g a b m was there way =
    let d = half (current_distance m a b) in
    rw (was, there, way)
    (second g.zp1 g.zp0 p1 p2 z a b m (neg_ℤ d) (moved m d a) was there)

-- a number with a point has one after another point was replaced
pub still_there : (o b : Zone) (n p : ℤ) (q : Point) (z : ZoneLists) → HasPoint o n z
    → HasPoint o n (with_point b p q z)
still_there zone.Twilight zone.Twilight n p q z has =
    record { sign = has.sign; within = rw (length-set z.twilight (unsigned_abs p) q) has.within }
still_there zone.Glyph zone.Glyph n p q z has =
    record { sign = has.sign; within = rw (length-set z.glyph (unsigned_abs p) q) has.within }
still_there zone.Twilight zone.Glyph n p q z has = record { sign = has.sign; within = has.within }
still_there zone.Glyph zone.Twilight n p q z has = record { sign = has.sign; within = has.within }
