-- A tolerant machine gives the result of a strict one for an instruction on points, unless that is a refusal that
-- tolerance lifts.
use Rattle.std.proofs.Common.{◌≡◌, ℕ, zero, suc, nat_lt, ℤ, pos, negsuc, int_lt, unsigned_abs, slice_get, Bool, true, false, ◌||◌, not, is_ok, if◌then◌else◌, List, [], ◌∷◌, length, take, drop, reverse, Option, Some, None, Result, Ok, Err, ap, refl, arith}
use Rattle.std.proofs.lemmas.List.{length-reverse}
use Rattle.std.specs.Option.{ok_or}
use Rattle.tt_core.specs.Outcomes.{◌>>=◌}
use Rattle.tt_core.specs.declared.fault.Why.{Why}
use Rattle.tt_core.specs.declared.fault.Why.TheVariants as why
use Rattle.tt_state.specs.Loosening.{Loosens, same, chained}
use Rattle.tt_state.specs.Loosening as loosening
use Rattle.tt_state.specs.Tolerance.{unless_missing}
use Rattle.tt_state.specs.declared.graphics_state.GraphicsState.{GraphicsState}
use Rattle.tt_state.specs.declared.graphics_state.Zone.{Zone}
use Rattle.tt_state.specs.declared.point.Point.{Point}
use Rattle.tt_state.specs.declared.tolerance.Tolerance.TheVariants as tolerance
use Rattle.tt_points.specs.declared.distances.Keeping.{Keeping}
use Rattle.tt_points.specs.declared.measuring.Position.{Position}
use Rattle.tt_points.specs.ControlValues as by_value
use Rattle.tt_points.specs.Lines as lines
use Rattle.tt_points.specs.Measuring as measuring
use Rattle.tt_points.specs.Moving as single_moving
use Rattle.tt_points_iup.specs.Interpolation.{iup}
use Rattle.tt_points_loops.specs.declared.deltas.DeltaRange.{DeltaRange}
use Rattle.tt_points_loops.specs.declared.shifting.ReferencePoint.{ReferencePoint}
use Rattle.tt_points_loops.specs.Deltas.{delta_of}
use Rattle.tt_points_loops.specs.Loosened.{SeveralLoosened, passed, passing, delta_loosens}
use Rattle.tt_points_loops.specs.Moving.{align, in_between, interpolate}
use Rattle.tt_points_loops.specs.Series.{one_by_one, passing_over, set_back}
use Rattle.tt_points_loops.specs.Shifting.{reference, reference_number, reference_zone, shift}
use Rattle.tt_points_loops.specs.Deltas as deltas
use Rattle.tt_points_loops.specs.Flipping as flipping
use Rattle.tt_points_loops.specs.Moving as moving
use Rattle.tt_points_loops.specs.Series as series
use Rattle.tt_points_loops.specs.Shifting as shifting
use Rattle.tt_points_zones.specs.Points.{point_in, points_in, has_point}
use Rattle.tt_points_zones.specs.Zones.{ZoneLists}
use Rattle.tt_exec_stack.specs.Stack.{pushed}
use Rattle.tt_exec_points.specs.ControlValues.{change_by, change_pair, changes, popped, deltac}
use Rattle.tt_exec_points.specs.Instruction.{control_value, mirp_value, mirp_by, has_reference, with_values, with_points, on_points}
use Rattle.tt_exec_points.specs.Instruction as is
use Rattle.tt_exec_points.specs.Laws.{PointsAreLoosened}
use Rattle.tt_exec_points.specs.Popping.{Left, after, after_move, nothing_looped, looped, pairs_counted, taken_in_pairs, counted}
use Rattle.tt_exec_points.specs.declared.instruction.OnPoints.TheVariants as instruction
use Rattle.tt_exec_points.specs.declared.lines.OnLines.TheVariants as line
use Rattle.tt_exec_points.specs.declared.measuring.Measuring.TheVariants as measure
use Rattle.tt_exec_points.specs.declared.moving.OnOne.TheVariants as single
use Rattle.tt_exec_points.specs.declared.several.InTurn.TheVariants as turn
use Rattle.tt_exec_points.specs.declared.several.OnRange.TheVariants as ranged

-- the law of the instructions on several points
abbrev Many : Type 0
Many = (z : ZoneLists) (g : GraphicsState) → SeveralLoosened z g

-- a result, or another where something is missing
unless : {A : Type 0} (instead : A) (r : Result A Why)
    → Loosens (unless_missing tolerance.Strict instead r) (unless_missing tolerance.Tolerant instead r)
unless instead r = passed instead r r (same r)

-- on single points
mdap : (round : Bool) (s : List ℤ) (z : ZoneLists) (g : GraphicsState)
    → Loosens (is.mdap tolerance.Strict round s z g) (is.mdap tolerance.Tolerant round s z g)
mdap round (p ∷ s) z g = unless (s, z, g) (after s (single_moving.mdap round p z g))
mdap round [] z g = λ other. refl

mdrp : (k : Keeping) (s : List ℤ) (z : ZoneLists) (g : GraphicsState)
    → Loosens (is.mdrp tolerance.Strict k s z g) (is.mdrp tolerance.Tolerant k s z g)
mdrp k (p ∷ s) z g = unless _ (after s (single_moving.mdrp k p z g))
mdrp k [] z g = λ other. refl

msirp : (set_rp0 : Bool) (s : List ℤ) (z : ZoneLists) (g : GraphicsState)
    → Loosens (is.msirp tolerance.Strict set_rp0 s z g) (is.msirp tolerance.Tolerant set_rp0 s z g)
msirp set_rp0 (d ∷ p ∷ s) z g = unless (s, z, g) (after s (single_moving.msirp set_rp0 p d z g))
msirp set_rp0 (d ∷ []) z g = λ other. refl
msirp set_rp0 [] z g = λ other. refl

miap : (round : Bool) (cvt s : List ℤ) (z : ZoneLists) (g : GraphicsState)
    → Loosens (is.miap tolerance.Strict round cvt s z g) (is.miap tolerance.Tolerant round cvt s z g)
miap round cvt (n ∷ p ∷ s) z g = unless _ (after s (is.miap_by round p (control_value n cvt) z g))
miap round cvt (n ∷ []) z g = λ other. refl
miap round cvt [] z g = λ other. refl

-- a strict machine has no control value -1
value : (n : ℤ) (cvt : List ℤ) → Loosens (mirp_value tolerance.Strict n cvt) (mirp_value tolerance.Tolerant n cvt)
value (pos n) cvt = same (control_value (pos n) cvt)
value (negsuc n) cvt = λ other. absurd cc

by : (k : Keeping) (p n : ℤ) (s cvt : List ℤ) (z : ZoneLists) (g : GraphicsState)
    → Loosens (after s (mirp_by k p (mirp_value tolerance.Strict n cvt) z g))
    (after s (mirp_by k p (mirp_value tolerance.Tolerant n cvt) z g))
by k p n s cvt z g =
    chained (mirp_by k p (mirp_value tolerance.Strict n cvt) z g)
    (mirp_by k p (mirp_value tolerance.Tolerant n cvt) z g) _ _
    (chained (mirp_value tolerance.Strict n cvt) (mirp_value tolerance.Tolerant n cvt) _ _ (value n cvt)
    (λ c. same (by_value.mirp k p c z g))) (λ t. refl)

mirp : (k : Keeping) (cvt s : List ℤ) (z : ZoneLists) (g : GraphicsState)
    → Loosens (is.mirp tolerance.Strict k cvt s z g) (is.mirp tolerance.Tolerant k cvt s z g)
mirp k cvt (n ∷ p ∷ s) z g = passed _ _ _ (by k p n s cvt z g)
mirp k cvt (n ∷ []) z g = λ other. refl
mirp k cvt [] z g = λ other. refl

scfs : (s : List ℤ) (z : ZoneLists) (g : GraphicsState)
    → Loosens (is.scfs tolerance.Strict s z g) (is.scfs tolerance.Tolerant s z g)
scfs (v ∷ p ∷ s) z g = unless (s, z, g) (after_move s g (measuring.scfs p v z g))
scfs (v ∷ []) z g = λ other. refl
scfs [] z g = λ other. refl

utp : (s : List ℤ) (z : ZoneLists) (g : GraphicsState)
    → Loosens (is.utp tolerance.Strict s z g) (is.utp tolerance.Tolerant s z g)
utp (p ∷ s) z g = unless (s, z, g) (after_move s g (measuring.utp p z g))
utp [] z g = λ other. refl

gc : (of : Position) (s : List ℤ) (z : ZoneLists) (g : GraphicsState)
    → Loosens (is.gc tolerance.Strict of s z g) (is.gc tolerance.Tolerant of s z g)
gc of (p ∷ s) z g = chained _ _ _ _ (unless (pos 0) (measuring.gc of p z g)) (λ c. same (pushed c s))
gc of [] z g = λ other. refl

md : (between : Position) (s : List ℤ) (z : ZoneLists) (g : GraphicsState)
    → Loosens (is.md tolerance.Strict between s z g) (is.md tolerance.Tolerant between s z g)
md between (p1 ∷ p2 ∷ s) z g =
    chained _ _ _ _ (unless (pos 0) (measuring.md between p2 p1 z g)) (λ d. same (pushed d s))
md between (p1 ∷ []) z g = λ other. refl
md between [] z g = λ other. refl

-- on lines
spvtl : (turned : Bool) (s : List ℤ) (z : ZoneLists) (g : GraphicsState)
    → Loosens (is.spvtl tolerance.Strict turned s z g) (is.spvtl tolerance.Tolerant turned s z g)
spvtl turned (p1 ∷ p2 ∷ s) z g = unless (s, z, g) (is.after_setting s z (lines.spvtl turned p1 p2 z g))
spvtl turned (p1 ∷ []) z g = λ other. refl
spvtl turned [] z g = λ other. refl

sfvtl : (turned : Bool) (s : List ℤ) (z : ZoneLists) (g : GraphicsState)
    → Loosens (is.sfvtl tolerance.Strict turned s z g) (is.sfvtl tolerance.Tolerant turned s z g)
sfvtl turned (p1 ∷ p2 ∷ s) z g = unless (s, z, g) (is.after_setting s z (lines.sfvtl turned p1 p2 z g))
sfvtl turned (p1 ∷ []) z g = λ other. refl
sfvtl turned [] z g = λ other. refl

sdpvtl : (turned : Bool) (s : List ℤ) (z : ZoneLists) (g : GraphicsState)
    → Loosens (is.sdpvtl tolerance.Strict turned s z g) (is.sdpvtl tolerance.Tolerant turned s z g)
sdpvtl turned (p1 ∷ p2 ∷ s) z g = unless (s, z, g) (is.after_setting s z (lines.sdpvtl turned p1 p2 z g))
sdpvtl turned (p1 ∷ []) z g = λ other. refl
sdpvtl turned [] z g = λ other. refl

isect : (s : List ℤ) (z : ZoneLists) (g : GraphicsState)
    → Loosens (is.isect tolerance.Strict s z g) (is.isect tolerance.Tolerant s z g)
isect (b1 ∷ b0 ∷ a1 ∷ a0 ∷ p ∷ s) z g =
    unless (s, z, g) (after_move s g (lines.isect p (is.ends a0 a1) (is.ends b0 b1) z g))
isect (b1 ∷ b0 ∷ a1 ∷ a0 ∷ []) z g = λ other. refl
isect (b1 ∷ b0 ∷ a1 ∷ []) z g = λ other. refl
isect (b1 ∷ b0 ∷ []) z g = λ other. refl
isect (b1 ∷ []) z g = λ other. refl
isect [] z g = λ other. refl

alignpts : (s : List ℤ) (z : ZoneLists) (g : GraphicsState)
    → Loosens (is.alignpts tolerance.Strict s z g) (is.alignpts tolerance.Tolerant s z g)
alignpts (p1 ∷ p2 ∷ s) z g = unless (s, z, g) (after_move s g (lines.alignpts p1 p2 z g))
alignpts (p1 ∷ []) z g = λ other. refl
alignpts [] z g = λ other. refl

-- a missing reference point, after a point that exists or not
none_found : (b : Bool) (o : Option Point)
    → is_ok {E = Why} (if b then Err why.PointRange else ok_or o why.PointRange) ≡ false
    → (if b then Err why.PointRange else ok_or o why.PointRange) ≡ Err why.PointRange
none_found true o none = refl
none_found false None none = refl
none_found false (Some p) none = absurd cc

no_point : (zone : Zone) (n : ℤ) (z : ZoneLists) → has_point zone n z ≡ false → point_in zone n z ≡ Err why.PointRange
no_point zone n z none =
    none_found (int_lt n (pos 0)) (slice_get (points_in zone z) (unsigned_abs n)) none

point_first : (b : Bool) (o : Option Point) (f : Point → Result ZoneLists Why)
    → ((p : Point) → f p ≡ Err why.PointRange)
    → ((if b then Err why.PointRange else ok_or o why.PointRange) >>= f) ≡ Err why.PointRange
point_first true o f refused = refl
point_first false None f refused = refl
point_first false (Some p) f refused = refused p

refused_after : (zone : Zone) (n : ℤ) (z : ZoneLists) (f : Point → Result ZoneLists Why)
    → ((p : Point) → f p ≡ Err why.PointRange) → (point_in zone n z >>= f) ≡ Err why.PointRange
refused_after zone n z f refused =
    point_first (int_lt n (pos 0)) (slice_get (points_in zone z) (unsigned_abs n)) f refused

-- without the reference point a strict machine refuses the first point
without : (step : ℤ → ZoneLists → Result ZoneLists Why) (z : ZoneLists) (g : GraphicsState)
    → ((n : ℤ) → step n z ≡ Err why.PointRange) → (ns rest s : List ℤ) → (ns ≡ [] → rest ≡ s)
    → Loosens (after rest (one_by_one (passing_over tolerance.Strict step) ns z >>= λ w. Ok (w, set_back g)))
    (Ok (nothing_looped s z g))
without step z g refused [] rest s whole = rw (whole refl) refl
without step z g refused (n ∷ ns) rest s whole = rw (refused n) (λ other. absurd cc)

none_reversed : (points : List ℤ) → reverse points ≡ [] → points ≡ []
none_reversed [] none = refl
none_reversed (p ∷ points) none = absurd (omega (arith, ap length none, length-reverse (p ∷ points)))

abbrev Without : (List ℤ → Result (ZoneLists × GraphicsState) Why) → List ℤ → ZoneLists → GraphicsState → Type 0
Without change s z g = (points rest : List ℤ) → (points ≡ [] → rest ≡ s)
    → Loosens (after rest (change points)) (Ok (nothing_looped s z g))

refused_first : (step : ℤ → ZoneLists → Result ZoneLists Why) (s : List ℤ) (z : ZoneLists) (g : GraphicsState)
    → ((n : ℤ) → step n z ≡ Err why.PointRange)
    → Without (λ points. series.looped tolerance.Strict step points z g) s z g
refused_first step s z g refused points rest whole =
    without step z g refused (reverse points) rest s (λ none. whole (none_reversed points none))

-- all points exist, or a strict machine has too few
abbrev pub unless_short : Bool → List ℤ → List ℤ → Result (List ℤ × List ℤ) Why
unless_short short entries rest = (if short then Err why.StackShort else Ok entries) >>= λ points. Ok (points, rest)

of_enough : (short referred : Bool) (entries rest s : List ℤ) (z : ZoneLists) (g : GraphicsState)
    (change loose : List ℤ → Result (ZoneLists × GraphicsState) Why)
    → ((points : List ℤ) → Loosens (change points) (loose points))
    → (referred ≡ false → Without change s z g) → (short ≡ false → entries ≡ [] → rest ≡ s)
    → Loosens (unless_short short entries rest >>= λ p. after (p.1) (change (p.0)))
    (if not referred || short then Ok (nothing_looped s z g)
    else unless_short short entries rest >>= λ p. after (p.1) (loose (p.0)))
of_enough true referred entries rest s z g change loose loosens missing whole = λ other. absurd cc
of_enough false true entries rest s z g change loose loosens missing whole =
    chained (change entries) (loose entries) _ _ (loosens entries) (λ t. refl)
of_enough false false entries rest s z g change loose loosens missing whole =
    missing refl entries rest (whole refl)

-- no points are taken where the loop variable is 0
none_taken : (n : ℕ) (s : List ℤ) → nat_lt (length s) n ≡ false → reverse (take n s) ≡ [] → drop n s ≡ s
none_taken zero s enough none = refl
none_taken (suc n) [] enough none = refl
none_taken (suc n) (e ∷ s) enough none =
    absurd (omega (arith, ap length none, length-reverse (e ∷ take n s)))

loop : (referred : Bool) (s : List ℤ) (z : ZoneLists) (g : GraphicsState)
    (change loose : List ℤ → Result (ZoneLists × GraphicsState) Why)
    → ((points : List ℤ) → Loosens (change points) (loose points)) → (referred ≡ false → Without change s z g)
    → Loosens (looped tolerance.Strict referred s z g change) (looped tolerance.Tolerant referred s z g loose)
loop referred s z g change loose loosens missing =
    of_enough (nat_lt (length s) g.loops) referred (reverse (take g.loops s)) (drop g.loops s) s z g change loose
    loosens missing (none_taken g.loops s)

-- on several points
alignrp : Many → (s : List ℤ) (z : ZoneLists) (g : GraphicsState)
    → Loosens (is.alignrp tolerance.Strict s z g) (is.alignrp tolerance.Tolerant s z g)
alignrp k s z g =
    loop (has_point g.zp0 g.rp0 z) s z g (λ points. moving.alignrp tolerance.Strict points z g)
    (λ points. moving.alignrp tolerance.Tolerant points z g) ((k z g).alignrp) (λ none.
    refused_first (align g) s z g (λ n. refused_after g.zp1 n z _ (λ p. rw (no_point g.zp0 g.rp0 z none) refl)))

ip : Many → (s : List ℤ) (z : ZoneLists) (g : GraphicsState)
    → Loosens (is.ip tolerance.Strict s z g) (is.ip tolerance.Tolerant s z g)
ip k s z g =
    loop (has_point g.zp0 g.rp1 z) s z g (λ points. moving.ip tolerance.Strict points z g)
    (λ points. moving.ip tolerance.Tolerant points z g) ((k z g).ip) (λ none.
    refused_first (interpolate tolerance.Strict g) s z g (λ n.
    refused_after g.zp2 n z _ (λ p. rw (no_point g.zp0 g.rp1 z none) refl)))

no_reference : (which : ReferencePoint) (z : ZoneLists) (g : GraphicsState) → has_reference which z g ≡ false
    → reference which g z ≡ Err why.PointRange
unfolding has_reference
no_reference which z g none = no_point (reference_zone which g) (reference_number which g) z none

shp : Many → (which : ReferencePoint) (s : List ℤ) (z : ZoneLists) (g : GraphicsState)
    → Loosens (is.shp tolerance.Strict which s z g) (is.shp tolerance.Tolerant which s z g)
shp k which s z g =
    loop (has_reference which z g) s z g (λ points. shifting.shp tolerance.Strict which points z g)
    (λ points. shifting.shp tolerance.Tolerant which points z g) ((k z g).shp which) (λ none.
    refused_first (shift g (reference which g z)) s z g (λ n.
    refused_after g.zp2 n z _ (λ p. rw (no_reference which z g none) refl)))

shpix : Many → (s : List ℤ) (z : ZoneLists) (g : GraphicsState)
    → Loosens (is.shpix tolerance.Strict s z g) (is.shpix tolerance.Tolerant s z g)
shpix k (amount ∷ s) z g =
    loop true s z g (λ points. moving.shpix tolerance.Strict points amount z g)
    (λ points. moving.shpix tolerance.Tolerant points amount z g) (λ points. (k z g).shpix points amount)
    (λ none. absurd cc)
shpix k [] z g = λ other. refl

flippt : Many → (s : List ℤ) (z : ZoneLists) (g : GraphicsState)
    → Loosens (is.flippt tolerance.Strict s z g) (is.flippt tolerance.Tolerant s z g)
flippt k s z g =
    loop true s z g (λ points. flipping.flippt tolerance.Strict points z g)
    (λ points. flipping.flippt tolerance.Tolerant points z g) ((k z g).flippt) (λ none. absurd cc)

flip_range : (on : Bool) (s : List ℤ) (z : ZoneLists) (g : GraphicsState)
    → Loosens (is.flip_range tolerance.Strict on s z g) (is.flip_range tolerance.Tolerant on s z g)
flip_range on (high ∷ low ∷ s) z g = unless (s, z, g) (after_move s g (flipping.flip_range on low high z))
flip_range on (high ∷ []) z g = λ other. refl
flip_range on [] z g = λ other. refl

shc : (which : ReferencePoint) (s : List ℤ) (z : ZoneLists) (g : GraphicsState)
    → Loosens (is.shc tolerance.Strict which s z g) (is.shc tolerance.Tolerant which s z g)
shc which (c ∷ s) z g = unless (s, z, g) (after_move s g (shifting.shc which c z g))
shc which [] z g = λ other. refl

shz : (which : ReferencePoint) (s : List ℤ) (z : ZoneLists) (g : GraphicsState)
    → Loosens (is.shz tolerance.Strict which s z g) (is.shz tolerance.Tolerant which s z g)
shz which (e ∷ s) z g = unless (s, z, g) (after_move s g (shifting.shz which e z g))
shz which [] z g = λ other. refl

-- pairs: a strict machine has too few, or all exist
in_pairs : (n : ℕ) (s : List ℤ) (short : Bool) → nat_lt (length s) n ≡ short
    → Loosens (taken_in_pairs tolerance.Strict n s) (taken_in_pairs tolerance.Tolerant n s)
in_pairs n s true is = rw is (λ other. absurd cc)
in_pairs n s false is = rw (is, is) refl

pairs : (s : List ℤ) → Loosens (counted tolerance.Strict s) (counted tolerance.Tolerant s)
pairs s = loosening.after (pairs_counted s) _ _ (λ c. in_pairs (c.0) (c.1) (nat_lt (length (c.1)) (c.0)) refl)

deltap : Many → (range : DeltaRange) (ppem : ℕ) (s : List ℤ) (z : ZoneLists) (g : GraphicsState)
    → Loosens (is.deltap tolerance.Strict range ppem s z g) (is.deltap tolerance.Tolerant range ppem s z g)
deltap k range ppem s z g =
    chained (counted tolerance.Strict s) (counted tolerance.Tolerant s) _ _ (pairs s) (λ c.
    chained (deltas.deltap tolerance.Strict range ppem (c.0) z g)
    (deltas.deltap tolerance.Tolerant range ppem (c.0) z g) _ _
    ((k z g).deltap range ppem (c.0)) (λ w. refl))

changed : (range : DeltaRange) (ppem : ℕ) (g : GraphicsState) (pair : ℤ × ℤ) (cvt : List ℤ)
    → Loosens (change_pair tolerance.Strict range ppem g pair cvt)
    (change_pair tolerance.Tolerant range ppem g pair cvt)
changed range ppem g pair cvt =
    chained (delta_of tolerance.Strict range (pair.0) ppem g) (delta_of tolerance.Tolerant range (pair.0) ppem g) _ _
    (delta_loosens range (pair.0) ppem g) (λ d. same (change_by d (pair.1) cvt))

values : (range : DeltaRange) (ppem : ℕ) (s : List ℤ) (g : GraphicsState) (cvt : List ℤ)
    → Loosens (deltac tolerance.Strict range ppem s g cvt) (deltac tolerance.Tolerant range ppem s g cvt)
values range ppem s g cvt =
    chained (counted tolerance.Strict s) (counted tolerance.Tolerant s) _ _ (pairs s) (λ c.
    chained (changes tolerance.Strict range ppem g (popped (c.0)) cvt)
    (changes tolerance.Tolerant range ppem g (popped (c.0)) cvt) _ _
    (passing (change_pair tolerance.Strict range ppem g) (change_pair tolerance.Tolerant range ppem g)
    (changed range ppem g) (popped (c.0)) cvt) (λ v. refl))

-- the whole result
valued : (cvt : List ℤ) (r loose : Left) → Loosens r loose → Loosens (with_values cvt r) (with_values cvt loose)
valued cvt r loose loosens = chained r loose _ _ loosens (λ t. refl)

told : (z : ZoneLists) (g : GraphicsState) (cvt : List ℤ) (r loose : Result (List ℤ) Why) → Loosens r loose
    → Loosens (with_points z g cvt r) (with_points z g cvt loose)
told z g cvt r loose loosens = chained r loose _ _ loosens (λ s. refl)

pub points_loosened : Many → PointsAreLoosened
points_loosened k (instruction.OnOne single.Utp) ppem s z g cvt = valued cvt _ _ (utp s z g)
points_loosened k (instruction.OnOne (single.Mdap round)) ppem s z g cvt = valued cvt _ _ (mdap round s z g)
points_loosened k (instruction.Iup axis) ppem s z g cvt = same (with_values cvt (after_move s g (iup axis z)))
points_loosened k (instruction.InTurn (turn.Shp which)) ppem s z g cvt = valued cvt _ _ (shp k which s z g)
points_loosened k (instruction.OnRange (ranged.Shc which)) ppem s z g cvt = valued cvt _ _ (shc which s z g)
points_loosened k (instruction.OnRange (ranged.Shz which)) ppem s z g cvt = valued cvt _ _ (shz which s z g)
points_loosened k (instruction.InTurn turn.Shpix) ppem s z g cvt = valued cvt _ _ (shpix k s z g)
points_loosened k (instruction.InTurn turn.Ip) ppem s z g cvt = valued cvt _ _ (ip k s z g)
points_loosened k (instruction.OnOne (single.Msirp set_rp0)) ppem s z g cvt = valued cvt _ _ (msirp set_rp0 s z g)
points_loosened k (instruction.InTurn turn.Alignrp) ppem s z g cvt = valued cvt _ _ (alignrp k s z g)
points_loosened k (instruction.OnOne (single.Miap round)) ppem s z g cvt = valued cvt _ _ (miap round cvt s z g)
points_loosened k (instruction.Measuring (measure.Gc of)) ppem s z g cvt = told z g cvt _ _ (gc of s z g)
points_loosened k (instruction.OnOne single.Scfs) ppem s z g cvt = valued cvt _ _ (scfs s z g)
points_loosened k (instruction.Measuring (measure.Md between)) ppem s z g cvt = told z g cvt _ _ (md between s z g)
points_loosened k (instruction.Deltap range) ppem s z g cvt = valued cvt _ _ (deltap k range ppem s z g)
points_loosened k (instruction.Deltac range) ppem s z g cvt =
    chained (deltac tolerance.Strict range ppem s g cvt) (deltac tolerance.Tolerant range ppem s g cvt) _ _
    (values range ppem s g cvt) (λ t. refl)
points_loosened k (instruction.InTurn turn.Flippt) ppem s z g cvt = valued cvt _ _ (flippt k s z g)
points_loosened k (instruction.OnRange (ranged.Flip on)) ppem s z g cvt = valued cvt _ _ (flip_range on s z g)
points_loosened k (instruction.OnOne (single.Mdrp keeping)) ppem s z g cvt = valued cvt _ _ (mdrp keeping s z g)
points_loosened k (instruction.OnOne (single.Mirp keeping)) ppem s z g cvt = valued cvt _ _ (mirp keeping cvt s z g)
points_loosened k (instruction.OnLines (line.Spvtl turned)) ppem s z g cvt = valued cvt _ _ (spvtl turned s z g)
points_loosened k (instruction.OnLines (line.Sfvtl turned)) ppem s z g cvt = valued cvt _ _ (sfvtl turned s z g)
points_loosened k (instruction.OnLines (line.Sdpvtl turned)) ppem s z g cvt = valued cvt _ _ (sdpvtl turned s z g)
points_loosened k (instruction.OnLines line.Isect) ppem s z g cvt = valued cvt _ _ (isect s z g)
points_loosened k (instruction.OnLines line.Alignpts) ppem s z g cvt = valued cvt _ _ (alignpts s z g)
