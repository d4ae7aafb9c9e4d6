-- With the values that it takes, no instruction on points of a tolerant machine fails with too few values or for a
-- missing thing.
use Rattle.std.proofs.Common.{◌≡◌, ℕ, ◌≤◌, ◌/◌, ◌*◌, nat_le, nat_lt, ℤ, pos, negsuc, int_lt, unsigned_abs, get_or, ◌+ℤ◌, Bool, true, false, ◌||◌, not, if◌then◌else◌, List, [], ◌∷◌, length, take, drop, reverse, Option, Some, None, Result, Ok, Err, refl, arith}
use Rattle.std.proofs.lemmas.Bool.Decides.{nat_tests}
use Rattle.std.specs.List.{list_all}
use Rattle.std.specs.Ordering.{int_eq}
use Rattle.tt_core.specs.Outcomes.{◌>>=◌}
use Rattle.tt_core.specs.declared.fault.Why.{Why}
use Rattle.tt_core.specs.declared.fault.Why.TheVariants as why
use Rattle.tt_state.specs.Loosening.{IsTotal, Enough, total_after, total_passed_over, enough_after}
use Rattle.tt_state.specs.Tolerance.{unless_missing}
use Rattle.tt_state.specs.declared.graphics_state.Axis.{Axis}
use Rattle.tt_state.specs.declared.graphics_state.GraphicsState.{GraphicsState}
use Rattle.tt_state.specs.declared.tolerance.Tolerance.TheVariants as tolerance
use Rattle.tt_points.specs.declared.distances.Keeping.{Keeping}
use Rattle.tt_points.specs.declared.measuring.Position.{Position}
use Rattle.tt_points.specs.Enough.{SinglesEnough}
use Rattle.tt_points.specs.Lines as lines
use Rattle.tt_points.specs.Measuring as measuring
use Rattle.tt_points.specs.Moving as single_moving
use Rattle.tt_points_iup.specs.Interpolation.{along_in, iup, contours, limited, within}
use Rattle.tt_points_loops.specs.declared.deltas.DeltaRange.{DeltaRange}
use Rattle.tt_points_loops.specs.declared.shifting.ReferencePoint.{ReferencePoint}
use Rattle.tt_points_loops.specs.Deltas.{delta_of}
use Rattle.tt_points_loops.specs.Total.{SeveralTotal, passing}
use Rattle.tt_points_zones.specs.Total.{either, enough_of_either}
use Rattle.tt_points_loops.specs.Deltas as deltas
use Rattle.tt_points_loops.specs.Flipping as flipping
use Rattle.tt_points_loops.specs.Moving as moving
use Rattle.tt_points_loops.specs.Shifting as shifting
use Rattle.tt_points_zones.specs.Points.{has_point}
use Rattle.tt_points_zones.specs.Zones.{ZoneLists}
use Rattle.tt_exec_stack.specs.Stack.{is_value, pushed, top}
use Rattle.tt_exec_stack.proofs.Takes.{pushed_total}
use Rattle.tt_exec_state.specs.StoredValues.{place}
use Rattle.tt_exec_points.specs.ControlValues.{value_of, change_by, change_pair, changes, popped, deltac}
use Rattle.tt_exec_points.specs.Instruction.{control_value, mirp_value, has_reference, with_values, with_points}
use Rattle.tt_exec_points.specs.Instruction as is
use Rattle.tt_exec_points.specs.Laws.{PointsAreTotal}
use Rattle.tt_exec_points.specs.Popping.{Left, after, after_move, nothing_looped, looped, pairs_counted, pairs_there, taken_in_pairs, counted}
use Rattle.tt_exec_points.specs.declared.instruction.OnPoints.TheVariants as instruction
use Rattle.tt_exec_points.specs.declared.lines.OnLines.TheVariants as line
use Rattle.tt_exec_points.specs.declared.measuring.Measuring.TheVariants as measure
use Rattle.tt_exec_points.specs.declared.moving.OnOne.TheVariants as single
use Rattle.tt_exec_points.specs.declared.several.InTurn.TheVariants as turn
use Rattle.tt_exec_points.specs.declared.several.OnRange.TheVariants as ranged
use Rattle.tt_exec_laws.proofs.PointsLoosened.{unless_short}

-- the laws of the instructions
abbrev Single : Type 0
Single = (z : ZoneLists) (g : GraphicsState) → SinglesEnough z g

abbrev Many : Type 0
Many = (z : ZoneLists) (g : GraphicsState) → SeveralTotal z g

-- a result, or another in its place
changed : (instead : List ℤ × ZoneLists × GraphicsState) (s : List ℤ) (r : Result (ZoneLists × GraphicsState) Why)
    → Enough r → IsTotal (unless_missing tolerance.Tolerant instead (after s r))
changed instead s r enough = total_passed_over instead (after s r) (enough_after r _ enough (λ t. record {}))

moved : (s : List ℤ) (z : ZoneLists) (g : GraphicsState) (r : Result ZoneLists Why) → Enough r
    → IsTotal (unless_missing tolerance.Tolerant (s, z, g) (after_move s g r))
moved s z g r enough =
    total_passed_over (s, z, g) (after_move s g r) (enough_after r _ enough (λ w. record {}))

set : (s : List ℤ) (z : ZoneLists) (g : GraphicsState) (r : Result GraphicsState Why) → Enough r
    → IsTotal (unless_missing tolerance.Tolerant (s, z, g) (is.after_setting s z r))
set s z g r enough =
    total_passed_over (s, z, g) (is.after_setting s z r) (enough_after r _ enough (λ t. record {}))

-- on single points
mdap : Single → (round : Bool) (s : List ℤ) (z : ZoneLists) (g : GraphicsState) → 1 ≤ length s
    → IsTotal (is.mdap tolerance.Tolerant round s z g)
mdap k round (p ∷ s) z g enough = changed _ s (single_moving.mdap round p z g) ((k z g).mdap round p)
mdap k round [] z g enough = absurd (omega arith)

mdrp : Single → (keeping : Keeping) (s : List ℤ) (z : ZoneLists) (g : GraphicsState) → 1 ≤ length s
    → IsTotal (is.mdrp tolerance.Tolerant keeping s z g)
mdrp k keeping (p ∷ s) z g enough = changed _ s (single_moving.mdrp keeping p z g) ((k z g).mdrp keeping p)
mdrp k keeping [] z g enough = absurd (omega arith)

msirp : Single → (set_rp0 : Bool) (s : List ℤ) (z : ZoneLists) (g : GraphicsState) → 2 ≤ length s
    → IsTotal (is.msirp tolerance.Tolerant set_rp0 s z g)
msirp k set_rp0 (d ∷ p ∷ s) z g enough =
    changed _ s (single_moving.msirp set_rp0 p d z g) ((k z g).msirp set_rp0 p d)
msirp k set_rp0 (d ∷ []) z g enough = absurd (omega arith)
msirp k set_rp0 [] z g enough = absurd (omega arith)

placed : (n : ℤ) (many : ℕ) → Enough (place n many why.CvtRange)
placed n many =
    enough_of_either (int_lt n (pos 0) || nat_le many (unsigned_abs n)) (Err why.CvtRange) (Ok (unsigned_abs n)) refl
    (record {})

value : (n : ℤ) (cvt : List ℤ) → Enough (control_value n cvt)
value n cvt = enough_after (place n (length cvt) why.CvtRange) _ (placed n (length cvt)) (λ i. record {})

miap : Single → (round : Bool) (cvt s : List ℤ) (z : ZoneLists) (g : GraphicsState) → 2 ≤ length s
    → IsTotal (is.miap tolerance.Tolerant round cvt s z g)
miap k round cvt (n ∷ p ∷ s) z g enough =
    changed _ s (is.miap_by round p (control_value n cvt) z g)
    (enough_after (control_value n cvt) _ (value n cvt) (λ c. (k z g).miap round p c))
miap k round cvt (n ∷ []) z g enough = absurd (omega arith)
miap k round cvt [] z g enough = absurd (omega arith)

mirp_enough : (n : ℤ) (cvt : List ℤ) → Enough (mirp_value tolerance.Tolerant n cvt)
mirp_enough n cvt =
    enough_of_either (int_eq n (negsuc 0)) (Ok (pos 0)) (control_value n cvt) (record {}) (value n cvt)

mirp : Single → (keeping : Keeping) (cvt s : List ℤ) (z : ZoneLists) (g : GraphicsState) → 2 ≤ length s
    → IsTotal (is.mirp tolerance.Tolerant keeping cvt s z g)
mirp k keeping cvt (n ∷ p ∷ s) z g enough =
    changed _ s (is.mirp_by keeping p (mirp_value tolerance.Tolerant n cvt) z g)
    (enough_after (mirp_value tolerance.Tolerant n cvt) _ (mirp_enough n cvt) (λ c. (k z g).mirp keeping p c))
mirp k keeping cvt (n ∷ []) z g enough = absurd (omega arith)
mirp k keeping cvt [] z g enough = absurd (omega arith)

scfs : Single → (s : List ℤ) (z : ZoneLists) (g : GraphicsState) → 2 ≤ length s
    → IsTotal (is.scfs tolerance.Tolerant s z g)
scfs k (v ∷ p ∷ s) z g enough = moved s z g (measuring.scfs p v z g) ((k z g).scfs p v)
scfs k (v ∷ []) z g enough = absurd (omega arith)
scfs k [] z g enough = absurd (omega arith)

utp : Single → (s : List ℤ) (z : ZoneLists) (g : GraphicsState) → 1 ≤ length s
    → IsTotal (is.utp tolerance.Tolerant s z g)
utp k (p ∷ s) z g enough = moved s z g (measuring.utp p z g) ((k z g).utp p)
utp k [] z g enough = absurd (omega arith)

measured : (r : Result ℤ Why) (s : List ℤ) → Enough r
    → IsTotal (unless_missing tolerance.Tolerant (pos 0) r >>= λ c. pushed c s)
measured r s enough =
    total_after (unless_missing tolerance.Tolerant (pos 0) r) _ (total_passed_over (pos 0) r enough)
    (λ c. pushed_total c s)

gc : Single → (of : Position) (s : List ℤ) (z : ZoneLists) (g : GraphicsState) → 1 ≤ length s
    → IsTotal (is.gc tolerance.Tolerant of s z g)
gc k of (p ∷ s) z g enough = measured (measuring.gc of p z g) s ((k z g).gc of p)
gc k of [] z g enough = absurd (omega arith)

md : Single → (between : Position) (s : List ℤ) (z : ZoneLists) (g : GraphicsState) → 2 ≤ length s
    → IsTotal (is.md tolerance.Tolerant between s z g)
md k between (p1 ∷ p2 ∷ s) z g enough = measured (measuring.md between p2 p1 z g) s ((k z g).md between p2 p1)
md k between (p1 ∷ []) z g enough = absurd (omega arith)
md k between [] z g enough = absurd (omega arith)

-- on lines
spvtl : Single → (turned : Bool) (s : List ℤ) (z : ZoneLists) (g : GraphicsState) → 2 ≤ length s
    → IsTotal (is.spvtl tolerance.Tolerant turned s z g)
spvtl k turned (p1 ∷ p2 ∷ s) z g enough = set s z g (lines.spvtl turned p1 p2 z g) ((k z g).spvtl turned p1 p2)
spvtl k turned (p1 ∷ []) z g enough = absurd (omega arith)
spvtl k turned [] z g enough = absurd (omega arith)

sfvtl : Single → (turned : Bool) (s : List ℤ) (z : ZoneLists) (g : GraphicsState) → 2 ≤ length s
    → IsTotal (is.sfvtl tolerance.Tolerant turned s z g)
sfvtl k turned (p1 ∷ p2 ∷ s) z g enough = set s z g (lines.sfvtl turned p1 p2 z g) ((k z g).sfvtl turned p1 p2)
sfvtl k turned (p1 ∷ []) z g enough = absurd (omega arith)
sfvtl k turned [] z g enough = absurd (omega arith)

sdpvtl : Single → (turned : Bool) (s : List ℤ) (z : ZoneLists) (g : GraphicsState) → 2 ≤ length s
    → IsTotal (is.sdpvtl tolerance.Tolerant turned s z g)
sdpvtl k turned (p1 ∷ p2 ∷ s) z g enough = set s z g (lines.sdpvtl turned p1 p2 z g) ((k z g).sdpvtl turned p1 p2)
sdpvtl k turned (p1 ∷ []) z g enough = absurd (omega arith)
sdpvtl k turned [] z g enough = absurd (omega arith)

isect : Single → (s : List ℤ) (z : ZoneLists) (g : GraphicsState) → 5 ≤ length s
    → IsTotal (is.isect tolerance.Tolerant s z g)
isect k (b1 ∷ b0 ∷ a1 ∷ a0 ∷ p ∷ s) z g enough =
    moved s z g (lines.isect p (is.ends a0 a1) (is.ends b0 b1) z g) ((k z g).isect p (is.ends a0 a1) (is.ends b0 b1))
isect k (b1 ∷ b0 ∷ a1 ∷ a0 ∷ []) z g enough = absurd (omega arith)
isect k (b1 ∷ b0 ∷ a1 ∷ []) z g enough = absurd (omega arith)
isect k (b1 ∷ b0 ∷ []) z g enough = absurd (omega arith)
isect k (b1 ∷ []) z g enough = absurd (omega arith)
isect k [] z g enough = absurd (omega arith)

alignpts : Single → (s : List ℤ) (z : ZoneLists) (g : GraphicsState) → 2 ≤ length s
    → IsTotal (is.alignpts tolerance.Tolerant s z g)
alignpts k (p1 ∷ p2 ∷ s) z g enough = moved s z g (lines.alignpts p1 p2 z g) ((k z g).alignpts p1 p2)
alignpts k (p1 ∷ []) z g enough = absurd (omega arith)
alignpts k [] z g enough = absurd (omega arith)

-- on several points: nothing is done, or all exist
of_all : (short referred : Bool) (entries rest s : List ℤ) (z : ZoneLists) (g : GraphicsState)
    (change : List ℤ → Result (ZoneLists × GraphicsState) Why) → ((points : List ℤ) → IsTotal (change points))
    → IsTotal (if not referred || short then Ok (nothing_looped s z g)
    else unless_short short entries rest >>= λ p. after (p.1) (change (p.0)))
of_all true true entries rest s z g change total = record {}
of_all true false entries rest s z g change total = record {}
of_all false false entries rest s z g change total = record {}
of_all false true entries rest s z g change total = total_after (change entries) _ (total entries) (λ t. record {})

loop : (referred : Bool) (s : List ℤ) (z : ZoneLists) (g : GraphicsState)
    (change : List ℤ → Result (ZoneLists × GraphicsState) Why) → ((points : List ℤ) → IsTotal (change points))
    → IsTotal (looped tolerance.Tolerant referred s z g change)
loop referred s z g change total =
    of_all (nat_lt (length s) g.loops) referred (reverse (take g.loops s)) (drop g.loops s) s z g change total

alignrp : Many → (s : List ℤ) (z : ZoneLists) (g : GraphicsState) → IsTotal (is.alignrp tolerance.Tolerant s z g)
alignrp k s z g =
    loop (has_point g.zp0 g.rp0 z) s z g (λ points. moving.alignrp tolerance.Tolerant points z g) ((k z g).alignrp)

ip : Many → (s : List ℤ) (z : ZoneLists) (g : GraphicsState) → IsTotal (is.ip tolerance.Tolerant s z g)
ip k s z g = loop (has_point g.zp0 g.rp1 z) s z g (λ points. moving.ip tolerance.Tolerant points z g) ((k z g).ip)

shp : Many → (which : ReferencePoint) (s : List ℤ) (z : ZoneLists) (g : GraphicsState)
    → IsTotal (is.shp tolerance.Tolerant which s z g)
shp k which s z g =
    loop (has_reference which z g) s z g (λ points. shifting.shp tolerance.Tolerant which points z g)
    ((k z g).shp which)

shpix : Many → (s : List ℤ) (z : ZoneLists) (g : GraphicsState) → 1 ≤ length s
    → IsTotal (is.shpix tolerance.Tolerant s z g)
shpix k (amount ∷ s) z g enough =
    loop true s z g (λ points. moving.shpix tolerance.Tolerant points amount z g)
    (λ points. (k z g).shpix points amount)
shpix k [] z g enough = absurd (omega arith)

flippt : Many → (s : List ℤ) (z : ZoneLists) (g : GraphicsState) → IsTotal (is.flippt tolerance.Tolerant s z g)
flippt k s z g = loop true s z g (λ points. flipping.flippt tolerance.Tolerant points z g) ((k z g).flippt)

flip_range : Many → (on : Bool) (s : List ℤ) (z : ZoneLists) (g : GraphicsState) → 2 ≤ length s
    → IsTotal (is.flip_range tolerance.Tolerant on s z g)
flip_range k on (high ∷ low ∷ s) z g enough =
    moved s z g (flipping.flip_range on low high z) ((k z g).flip_range on low high)
flip_range k on (high ∷ []) z g enough = absurd (omega arith)
flip_range k on [] z g enough = absurd (omega arith)

shc : Many → (which : ReferencePoint) (s : List ℤ) (z : ZoneLists) (g : GraphicsState) → 1 ≤ length s
    → IsTotal (is.shc tolerance.Tolerant which s z g)
shc k which (c ∷ s) z g enough = moved s z g (shifting.shc which c z g) ((k z g).shc which c)
shc k which [] z g enough = absurd (omega arith)

shz : Many → (which : ReferencePoint) (s : List ℤ) (z : ZoneLists) (g : GraphicsState) → 1 ≤ length s
    → IsTotal (is.shz tolerance.Tolerant which s z g)
shz k which (e ∷ s) z g enough = moved s z g (shifting.shz which e z g) ((k z g).shz which e)
shz k which [] z g enough = absurd (omega arith)

-- the whole pairs that exist
whole : (many : ℕ) → nat_lt many (many / 2 * 2) ≡ false
whole many = grind (arith, nat_tests)

never_short : (n : ℕ) (s : List ℤ) (short : Bool) → nat_lt (length s) n ≡ short
    → nat_lt (length s) (if short then length s / 2 * 2 else n) ≡ false
never_short n s true is = whole (length s)
never_short n s false is = is

of_top : (n : ℕ) (s : List ℤ) → nat_lt (length s) n ≡ false → IsTotal (top n s)
of_top n s there = rw there (record {})

in_pairs : (n : ℕ) (s : List ℤ) → IsTotal (taken_in_pairs tolerance.Tolerant n s)
in_pairs n s =
    let there = pairs_there tolerance.Tolerant n s in
    total_after (top there s) _ (of_top there s (never_short n s (nat_lt (length s) n) refl)) (λ entries. record {})

pairs : (s : List ℤ) → 1 ≤ length s → IsTotal (counted tolerance.Tolerant s)
pairs (n ∷ s) enough =
    total_after (pairs_counted (n ∷ s)) _
    (either (int_lt n (pos 0)) (Err why.BadArgument) (Ok (2 * unsigned_abs n, s)) refl (record {}))
    (λ c. in_pairs (c.0) (c.1))
pairs [] enough = absurd (omega arith)

deltap : Many → (range : DeltaRange) (ppem : ℕ) (s : List ℤ) (z : ZoneLists) (g : GraphicsState) → 1 ≤ length s
    → IsTotal (is.deltap tolerance.Tolerant range ppem s z g)
deltap k range ppem s z g enough =
    total_after (counted tolerance.Tolerant s) _ (pairs s enough) (λ c.
    total_after (deltas.deltap tolerance.Tolerant range ppem (c.0) z g) _ ((k z g).deltap range ppem (c.0))
    (λ w. record {}))

change_enough : (d : Option ℤ) (n : ℤ) (cvt : List ℤ) → Enough (change_by d n cvt)
change_enough None n cvt = record {}
change_enough (Some d) n cvt =
    enough_after (place n (length cvt) why.CvtRange) _ (placed n (length cvt)) (λ i.
    let v = get_or cvt i (pos 0) +ℤ d in
    enough_after (value_of v) _ (enough_of_either (is_value v) (Ok v) (Err why.ValueRange) (record {}) refl)
    (λ v. record {}))

pair_enough : (range : DeltaRange) (ppem : ℕ) (g : GraphicsState) (pair : ℤ × ℤ) (cvt : List ℤ)
    → Enough (change_pair tolerance.Tolerant range ppem g pair cvt)
pair_enough range ppem g pair cvt =
    enough_after (delta_of tolerance.Tolerant range (pair.0) ppem g) (λ d. change_by d (pair.1) cvt) (record {})
    (λ d. change_enough d (pair.1) cvt)

values : (range : DeltaRange) (ppem : ℕ) (s : List ℤ) (g : GraphicsState) (cvt : List ℤ) → 1 ≤ length s
    → IsTotal (deltac tolerance.Tolerant range ppem s g cvt)
values range ppem s g cvt enough =
    total_after (counted tolerance.Tolerant s) _ (pairs s enough) (λ c.
    total_after (changes tolerance.Tolerant range ppem g (popped (c.0)) cvt) _
    (passing (change_pair tolerance.Tolerant range ppem g) (pair_enough range ppem g) (popped (c.0)) cvt)
    (λ v. record {}))

-- the points between touched ones
interpolated : (axis : Axis) (s : List ℤ) (z : ZoneLists) (g : GraphicsState) → IsTotal (after_move s g (iup axis z))
interpolated axis s z g =
    let ps = contours (along_in axis z) 0 z.contours z.glyph in
    total_after (iup axis z) _
    (total_after (limited axis ps) _
    (either (list_all (within axis) ps) (Ok ps) (Err why.ValueRange) (record {}) refl) (λ qs. record {}))
    (λ w. record {})

-- the whole result
valued : (cvt : List ℤ) (left : Left) → IsTotal left → IsTotal (with_values cvt left)
valued cvt left total = total_after left _ total (λ t. record {})

told : (z : ZoneLists) (g : GraphicsState) (cvt : List ℤ) (r : Result (List ℤ) Why) → IsTotal r
    → IsTotal (with_points z g cvt r)
told z g cvt r total = total_after r _ total (λ s. record {})

pub points_total : Single → Many → PointsAreTotal
points_total one many (instruction.OnOne single.Utp) ppem s z g cvt enough = valued cvt _ (utp one s z g enough)
points_total one many (instruction.OnOne (single.Mdap round)) ppem s z g cvt enough = valued cvt _ (mdap one round s z g enough)
points_total one many (instruction.Iup axis) ppem s z g cvt enough = valued cvt _ (interpolated axis s z g)
points_total one many (instruction.InTurn (turn.Shp which)) ppem s z g cvt enough = valued cvt _ (shp many which s z g)
points_total one many (instruction.OnRange (ranged.Shc which)) ppem s z g cvt enough = valued cvt _ (shc many which s z g enough)
points_total one many (instruction.OnRange (ranged.Shz which)) ppem s z g cvt enough = valued cvt _ (shz many which s z g enough)
points_total one many (instruction.InTurn turn.Shpix) ppem s z g cvt enough = valued cvt _ (shpix many s z g enough)
points_total one many (instruction.InTurn turn.Ip) ppem s z g cvt enough = valued cvt _ (ip many s z g)
points_total one many (instruction.OnOne (single.Msirp set_rp0)) ppem s z g cvt enough =
    valued cvt _ (msirp one set_rp0 s z g enough)
points_total one many (instruction.InTurn turn.Alignrp) ppem s z g cvt enough = valued cvt _ (alignrp many s z g)
points_total one many (instruction.OnOne (single.Miap round)) ppem s z g cvt enough = valued cvt _ (miap one round cvt s z g enough)
points_total one many (instruction.Measuring (measure.Gc of)) ppem s z g cvt enough = told z g cvt _ (gc one of s z g enough)
points_total one many (instruction.OnOne single.Scfs) ppem s z g cvt enough = valued cvt _ (scfs one s z g enough)
points_total one many (instruction.Measuring (measure.Md between)) ppem s z g cvt enough = told z g cvt _ (md one between s z g enough)
points_total one many (instruction.Deltap range) ppem s z g cvt enough =
    valued cvt _ (deltap many range ppem s z g enough)
points_total one many (instruction.Deltac range) ppem s z g cvt enough =
    total_after (deltac tolerance.Tolerant range ppem s g cvt) _ (values range ppem s g cvt enough) (λ t. record {})
points_total one many (instruction.InTurn turn.Flippt) ppem s z g cvt enough = valued cvt _ (flippt many s z g)
points_total one many (instruction.OnRange (ranged.Flip on)) ppem s z g cvt enough =
    valued cvt _ (flip_range many on s z g enough)
points_total one many (instruction.OnOne (single.Mdrp keeping)) ppem s z g cvt enough = valued cvt _ (mdrp one keeping s z g enough)
points_total one many (instruction.OnOne (single.Mirp keeping)) ppem s z g cvt enough =
    valued cvt _ (mirp one keeping cvt s z g enough)
points_total one many (instruction.OnLines (line.Spvtl turned)) ppem s z g cvt enough =
    valued cvt _ (spvtl one turned s z g enough)
points_total one many (instruction.OnLines (line.Sfvtl turned)) ppem s z g cvt enough =
    valued cvt _ (sfvtl one turned s z g enough)
points_total one many (instruction.OnLines (line.Sdpvtl turned)) ppem s z g cvt enough =
    valued cvt _ (sdpvtl one turned s z g enough)
points_total one many (instruction.OnLines line.Isect) ppem s z g cvt enough = valued cvt _ (isect one s z g enough)
points_total one many (instruction.OnLines line.Alignpts) ppem s z g cvt enough = valued cvt _ (alignpts one s z g enough)
