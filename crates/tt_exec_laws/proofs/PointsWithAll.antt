-- The whole instruction set changes no result of an instruction on points, except for the refusals of the profile.
use Rattle.std.proofs.Common.{◌≡◌, ℕ, ℤ, pos, Bool, true, false, ◌&&◌, if◌then◌else◌, List, [], ◌∷◌, Result, Ok, refl}
use Rattle.tt_core.specs.declared.fault.Why.{Why}
use Rattle.tt_state.specs.Tolerance.{is_tolerant, unless_missing}
use Rattle.tt_state.specs.declared.graphics_state.GraphicsState.{GraphicsState}
use Rattle.tt_state.specs.declared.tolerance.Tolerance.{Tolerance}
use Rattle.tt_points.specs.Lines as lines
use Rattle.tt_points.specs.Measuring as measuring
use Rattle.tt_points.specs.Moving as single_moving
use Rattle.tt_points.specs.WithAll.{SinglesStay}
use Rattle.tt_points.specs.declared.distances.Keeping.{Keeping}
use Rattle.tt_points.specs.declared.measuring.Position.{Position}
use Rattle.tt_points_iup.specs.Interpolation.{iup}
use Rattle.tt_points_loops.specs.Deltas as deltas
use Rattle.tt_points_loops.specs.Flipping as flipping
use Rattle.tt_points_loops.specs.Moving as moving
use Rattle.tt_points_loops.specs.Shifting as shifting
use Rattle.tt_points_loops.specs.WithAll.{SeveralStay}
use Rattle.tt_points_loops.specs.declared.deltas.DeltaRange.{DeltaRange}
use Rattle.tt_points_loops.specs.declared.shifting.ReferencePoint.{ReferencePoint}
use Rattle.tt_points_loops.specs.declared.shifting.ReferencePoint.TheVariants as by
use Rattle.tt_points_zones.specs.WithAll.{with_all, Stays, StaysBeside, StaysSame, same, chained, passed_over}
use Rattle.tt_points_zones.specs.WithAll as given
use Rattle.tt_points_zones.specs.Points.{has_point}
use Rattle.tt_points_zones.specs.Zones.{ZoneLists}
use Rattle.tt_exec_stack.specs.Stack.{pushed}
use Rattle.tt_exec_points.specs.ControlValues.{deltac}
use Rattle.tt_exec_points.specs.Instruction.{after_setting, has_reference, with_values, with_points}
use Rattle.tt_exec_points.specs.Instruction as is
use Rattle.tt_exec_points.specs.Popping.{Left, after, after_move, taken, too_little, looped, counted}
use Rattle.tt_exec_points.specs.WithAll.{beside, PointsStay}
use Rattle.tt_exec_points.specs.declared.instruction.OnPoints.TheVariants as instruction
use Rattle.tt_exec_points.specs.declared.lines.OnLines.TheVariants as line
use Rattle.tt_exec_points.specs.declared.measuring.Measuring.TheVariants as measure
use Rattle.tt_exec_points.specs.declared.moving.OnOne.TheVariants as single
use Rattle.tt_exec_points.specs.declared.several.InTurn.TheVariants as turn
use Rattle.tt_exec_points.specs.declared.several.OnRange.TheVariants as ranged

-- the laws of the instructions
abbrev Single : Type 0
Single = (z : ZoneLists) (g : GraphicsState) → SinglesStay z g

abbrev Many : Type 0
Many = (z : ZoneLists) (g : GraphicsState) → SeveralStay z g

-- the graphics state beside the stack and the zones
abbrev third : List ℤ × ZoneLists × GraphicsState → List ℤ × ZoneLists × GraphicsState
third t = (t.0, t.1, with_all t.2)

abbrev StaysThird : Left → Left → Type 0
StaysThird r with = Stays third r with

changed : (s : List ℤ) (r with : Result (ZoneLists × GraphicsState) Why) → StaysBeside r with
    → StaysThird (after s r) (after s with)
changed s r with stays = chained given.beside third r with _ _ stays (λ t. refl)

moved : (s : List ℤ) (g : GraphicsState) (r with : Result ZoneLists Why) → StaysSame r with
    → StaysThird (after_move s g r) (after_move s (with_all g) with)
moved s g r with stays = chained (λ z. z) third r with _ _ stays (λ z. refl)

set : (s : List ℤ) (z : ZoneLists) (r with : Result GraphicsState Why) → Stays with_all r with
    → StaysThird (after_setting s z r) (after_setting s z with)
set s z r with stays = chained with_all third r with _ _ stays (λ g. refl)

passed : (t : Tolerance) (s : List ℤ) (z : ZoneLists) (g : GraphicsState) (r with : Left) → StaysThird r with
    → StaysThird (unless_missing t (s, z, g) r) (unless_missing t (s, z, with_all g) with)
passed t s z g r with stays = passed_over third t (s, z, g) r with stays

either : (b : Bool) (instead : List ℤ × ZoneLists × GraphicsState) (r with : Left) → StaysThird r with
    → StaysThird (if b then Ok instead else r) (if b then Ok (third instead) else with)
either true instead r with stays = refl
either false instead r with stays = stays

loop : (t : Tolerance) (referred : Bool) (s : List ℤ) (z : ZoneLists) (g : GraphicsState)
    (change all : List ℤ → Result (ZoneLists × GraphicsState) Why)
    → ((points : List ℤ) → StaysBeside (change points) (all points))
    → StaysThird (looped t referred s z g change) (looped t referred s z (with_all g) all)
loop t referred s z g change all stays =
    either (is_tolerant t && too_little referred s g) _ _ _
    (given.after third (taken g.loops s) _ _ (λ p. changed p.1 (change p.0) (all p.0) (stays p.0)))

-- on single points
mdap : Single → (t : Tolerance) (round : Bool) (s : List ℤ) (z : ZoneLists) (g : GraphicsState)
    → StaysThird (is.mdap t round s z g) (is.mdap t round s z (with_all g))
mdap k t round (p ∷ s) z g = passed t s z _ _ _ (changed s (single_moving.mdap round p z g) _ ((k z g).mdap round p))
mdap k t round [] z g = λ other. refl

mdrp : Single → (t : Tolerance) (keeping : Keeping) (s : List ℤ) (z : ZoneLists) (g : GraphicsState)
    → StaysThird (is.mdrp t keeping s z g) (is.mdrp t keeping s z (with_all g))
mdrp k t keeping (p ∷ s) z g =
    passed t s z _ _ _ (changed s (single_moving.mdrp keeping p z g) _ ((k z g).mdrp keeping p))
mdrp k t keeping [] z g = λ other. refl

msirp : Single → (t : Tolerance) (set_rp0 : Bool) (s : List ℤ) (z : ZoneLists) (g : GraphicsState)
    → StaysThird (is.msirp t set_rp0 s z g) (is.msirp t set_rp0 s z (with_all g))
msirp k t set_rp0 (d ∷ p ∷ s) z g =
    passed t s z _ _ _ (changed s (single_moving.msirp set_rp0 p d z g) _ ((k z g).msirp set_rp0 p d))
msirp k t set_rp0 (d ∷ []) z g = λ other. refl
msirp k t set_rp0 [] z g = λ other. refl

miap : Single → (t : Tolerance) (round : Bool) (cvt s : List ℤ) (z : ZoneLists) (g : GraphicsState)
    → StaysThird (is.miap t round cvt s z g) (is.miap t round cvt s z (with_all g))
miap k t round cvt (n ∷ p ∷ s) z g =
    passed t s z _ _ _ (changed s (is.miap_by round p (is.control_value n cvt) z g) _
    (given.after given.beside (is.control_value n cvt) _ _ (λ c. (k z g).miap round p c)))
miap k t round cvt (n ∷ []) z g = λ other. refl
miap k t round cvt [] z g = λ other. refl

mirp : Single → (t : Tolerance) (keeping : Keeping) (cvt s : List ℤ) (z : ZoneLists) (g : GraphicsState)
    → StaysThird (is.mirp t keeping cvt s z g) (is.mirp t keeping cvt s z (with_all g))
mirp k t keeping cvt (n ∷ p ∷ s) z g =
    passed t s z _ _ _ (changed s (is.mirp_by keeping p (is.mirp_value t n cvt) z g) _
    (given.after given.beside (is.mirp_value t n cvt) _ _ (λ c. (k z g).mirp keeping p c)))
mirp k t keeping cvt (n ∷ []) z g = λ other. refl
mirp k t keeping cvt [] z g = λ other. refl

scfs : Single → (t : Tolerance) (s : List ℤ) (z : ZoneLists) (g : GraphicsState)
    → StaysThird (is.scfs t s z g) (is.scfs t s z (with_all g))
scfs k t (v ∷ p ∷ s) z g = passed t s z _ _ _ (moved s g (measuring.scfs p v z g) _ ((k z g).scfs p v))
scfs k t (v ∷ []) z g = λ other. refl
scfs k t [] z g = λ other. refl

utp : Single → (t : Tolerance) (s : List ℤ) (z : ZoneLists) (g : GraphicsState)
    → StaysThird (is.utp t s z g) (is.utp t s z (with_all g))
utp k t (p ∷ s) z g = passed t s z _ _ _ (moved s g (measuring.utp p z g) _ ((k z g).utp p))
utp k t [] z g = λ other. refl

gc : Single → (t : Tolerance) (of : Position) (s : List ℤ) (z : ZoneLists) (g : GraphicsState)
    → StaysSame (is.gc t of s z g) (is.gc t of s z (with_all g))
gc k t of (p ∷ s) z g =
    chained (λ c. c) (λ r. r) (unless_missing t (pos 0) (measuring.gc of p z g)) _ _ _
    (passed_over (λ c. c) t (pos 0) (measuring.gc of p z g) _ ((k z g).gc of p)) (λ c. same (pushed c s))
gc k t of [] z g = λ other. refl

md : Single → (t : Tolerance) (between : Position) (s : List ℤ) (z : ZoneLists) (g : GraphicsState)
    → StaysSame (is.md t between s z g) (is.md t between s z (with_all g))
md k t between (p1 ∷ p2 ∷ s) z g =
    chained (λ d. d) (λ r. r) (unless_missing t (pos 0) (measuring.md between p2 p1 z g)) _ _ _
    (passed_over (λ d. d) t (pos 0) (measuring.md between p2 p1 z g) _ ((k z g).md between p2 p1))
    (λ d. same (pushed d s))
md k t between (p1 ∷ []) z g = λ other. refl
md k t between [] z g = λ other. refl

-- on lines
spvtl : Single → (t : Tolerance) (turned : Bool) (s : List ℤ) (z : ZoneLists) (g : GraphicsState)
    → StaysThird (is.spvtl t turned s z g) (is.spvtl t turned s z (with_all g))
spvtl k t turned (p1 ∷ p2 ∷ s) z g =
    passed t s z _ _ _ (set s z (lines.spvtl turned p1 p2 z g) _ ((k z g).spvtl turned p1 p2))
spvtl k t turned (p1 ∷ []) z g = λ other. refl
spvtl k t turned [] z g = λ other. refl

sfvtl : Single → (t : Tolerance) (turned : Bool) (s : List ℤ) (z : ZoneLists) (g : GraphicsState)
    → StaysThird (is.sfvtl t turned s z g) (is.sfvtl t turned s z (with_all g))
sfvtl k t turned (p1 ∷ p2 ∷ s) z g =
    passed t s z _ _ _ (set s z (lines.sfvtl turned p1 p2 z g) _ ((k z g).sfvtl turned p1 p2))
sfvtl k t turned (p1 ∷ []) z g = λ other. refl
sfvtl k t turned [] z g = λ other. refl

sdpvtl : Single → (t : Tolerance) (turned : Bool) (s : List ℤ) (z : ZoneLists) (g : GraphicsState)
    → StaysThird (is.sdpvtl t turned s z g) (is.sdpvtl t turned s z (with_all g))
sdpvtl k t turned (p1 ∷ p2 ∷ s) z g =
    passed t s z _ _ _ (set s z (lines.sdpvtl turned p1 p2 z g) _ ((k z g).sdpvtl turned p1 p2))
sdpvtl k t turned (p1 ∷ []) z g = λ other. refl
sdpvtl k t turned [] z g = λ other. refl

isect : Single → (t : Tolerance) (s : List ℤ) (z : ZoneLists) (g : GraphicsState)
    → StaysThird (is.isect t s z g) (is.isect t s z (with_all g))
isect k t (b1 ∷ b0 ∷ a1 ∷ a0 ∷ p ∷ s) z g =
    passed t s z _ _ _
    (moved s g (lines.isect p (is.ends a0 a1) (is.ends b0 b1) z g) _
    ((k z g).isect p (is.ends a0 a1) (is.ends b0 b1)))
isect k t (b1 ∷ b0 ∷ a1 ∷ a0 ∷ []) z g = λ other. refl
isect k t (b1 ∷ b0 ∷ a1 ∷ []) z g = λ other. refl
isect k t (b1 ∷ b0 ∷ []) z g = λ other. refl
isect k t (b1 ∷ []) z g = λ other. refl
isect k t [] z g = λ other. refl

alignpts : Single → (t : Tolerance) (s : List ℤ) (z : ZoneLists) (g : GraphicsState)
    → StaysThird (is.alignpts t s z g) (is.alignpts t s z (with_all g))
alignpts k t (p1 ∷ p2 ∷ s) z g = passed t s z _ _ _ (moved s g (lines.alignpts p1 p2 z g) _ ((k z g).alignpts p1 p2))
alignpts k t (p1 ∷ []) z g = λ other. refl
alignpts k t [] z g = λ other. refl

-- on several points
alignrp : Many → (t : Tolerance) (s : List ℤ) (z : ZoneLists) (g : GraphicsState)
    → StaysThird (is.alignrp t s z g) (is.alignrp t s z (with_all g))
alignrp k t s z g =
    loop t (has_point g.zp0 g.rp0 z) s z g (λ points. moving.alignrp t points z g)
    (λ points. moving.alignrp t points z (with_all g)) ((k z g).alignrp t)

ip : Many → (t : Tolerance) (s : List ℤ) (z : ZoneLists) (g : GraphicsState)
    → StaysThird (is.ip t s z g) (is.ip t s z (with_all g))
ip k t s z g =
    loop t (has_point g.zp0 g.rp1 z) s z g (λ points. moving.ip t points z g)
    (λ points. moving.ip t points z (with_all g)) ((k z g).ip t)

-- the reference point does not depend on the whole instruction set
referred : (which : ReferencePoint) (z : ZoneLists) (g : GraphicsState)
    → is.has_reference which z (with_all g) ≡ is.has_reference which z g
unfolding has_reference
referred by.Rp1 z g = refl
referred by.Rp2 z g = refl

shp : Many → (t : Tolerance) (which : ReferencePoint) (s : List ℤ) (z : ZoneLists) (g : GraphicsState)
    → StaysThird (is.shp t which s z g) (is.shp t which s z (with_all g))
shp k t which s z g =
    rw (referred which z g)
    (loop t (is.has_reference which z g) s z g (λ points. shifting.shp t which points z g)
    (λ points. shifting.shp t which points z (with_all g)) ((k z g).shp t which))

shpix : Many → (t : Tolerance) (s : List ℤ) (z : ZoneLists) (g : GraphicsState)
    → StaysThird (is.shpix t s z g) (is.shpix t s z (with_all g))
shpix k t (amount ∷ s) z g =
    loop t true s z g (λ points. moving.shpix t points amount z g)
    (λ points. moving.shpix t points amount z (with_all g)) (λ points. (k z g).shpix t points amount)
shpix k t [] z g = λ other. refl

flippt : Many → (t : Tolerance) (s : List ℤ) (z : ZoneLists) (g : GraphicsState)
    → StaysThird (is.flippt t s z g) (is.flippt t s z (with_all g))
flippt k t s z g =
    loop t true s z g (λ points. flipping.flippt t points z g)
    (λ points. flipping.flippt t points z (with_all g)) ((k z g).flippt t)

flip_range : (t : Tolerance) (on : Bool) (s : List ℤ) (z : ZoneLists) (g : GraphicsState)
    → StaysThird (is.flip_range t on s z g) (is.flip_range t on s z (with_all g))
flip_range t on (high ∷ low ∷ s) z g =
    passed t s z _ _ _ (moved s g (flipping.flip_range on low high z) _ (same (flipping.flip_range on low high z)))
flip_range t on (high ∷ []) z g = λ other. refl
flip_range t on [] z g = λ other. refl

shc : Many → (t : Tolerance) (which : ReferencePoint) (s : List ℤ) (z : ZoneLists) (g : GraphicsState)
    → StaysThird (is.shc t which s z g) (is.shc t which s z (with_all g))
shc k t which (c ∷ s) z g = passed t s z _ _ _ (moved s g (shifting.shc which c z g) _ ((k z g).shc which c))
shc k t which [] z g = λ other. refl

shz : Many → (t : Tolerance) (which : ReferencePoint) (s : List ℤ) (z : ZoneLists) (g : GraphicsState)
    → StaysThird (is.shz t which s z g) (is.shz t which s z (with_all g))
shz k t which (e ∷ s) z g = passed t s z _ _ _ (moved s g (shifting.shz which e z g) _ ((k z g).shz which e))
shz k t which [] z g = λ other. refl

deltap : Many → (t : Tolerance) (range : DeltaRange) (ppem : ℕ) (s : List ℤ) (z : ZoneLists) (g : GraphicsState)
    → StaysThird (is.deltap t range ppem s z g) (is.deltap t range ppem s z (with_all g))
deltap k t range ppem s z g =
    given.after third (counted t s) _ _
    (λ c. moved c.1 g (deltas.deltap t range ppem c.0 z g) _ ((k z g).deltap t range ppem c.0))

-- the whole result
valued : (cvt : List ℤ) (r with : Left) → StaysThird r with → Stays beside (with_values cvt r) (with_values cvt with)
valued cvt r with stays = chained third beside r with _ _ stays (λ u. refl)

told : (z : ZoneLists) (g : GraphicsState) (cvt : List ℤ) (r with : Result (List ℤ) Why) → StaysSame r with
    → Stays beside (with_points z g cvt r) (with_points z (with_all g) cvt with)
told z g cvt r with stays = chained (λ s. s) beside r with _ _ stays (λ s. refl)

pub points_stay : Single → Many → PointsStay
points_stay one many t (instruction.OnOne single.Utp) ppem s z g cvt = valued cvt _ _ (utp one t s z g)
points_stay one many t (instruction.OnOne (single.Mdap round)) ppem s z g cvt = valued cvt _ _ (mdap one t round s z g)
points_stay one many t (instruction.Iup axis) ppem s z g cvt =
    valued cvt _ _ (moved s g (iup axis z) _ (same (iup axis z)))
points_stay one many t (instruction.InTurn (turn.Shp which)) ppem s z g cvt = valued cvt _ _ (shp many t which s z g)
points_stay one many t (instruction.OnRange (ranged.Shc which)) ppem s z g cvt = valued cvt _ _ (shc many t which s z g)
points_stay one many t (instruction.OnRange (ranged.Shz which)) ppem s z g cvt = valued cvt _ _ (shz many t which s z g)
points_stay one many t (instruction.InTurn turn.Shpix) ppem s z g cvt = valued cvt _ _ (shpix many t s z g)
points_stay one many t (instruction.InTurn turn.Ip) ppem s z g cvt = valued cvt _ _ (ip many t s z g)
points_stay one many t (instruction.OnOne (single.Msirp set_rp0)) ppem s z g cvt = valued cvt _ _ (msirp one t set_rp0 s z g)
points_stay one many t (instruction.InTurn turn.Alignrp) ppem s z g cvt = valued cvt _ _ (alignrp many t s z g)
points_stay one many t (instruction.OnOne (single.Miap round)) ppem s z g cvt = valued cvt _ _ (miap one t round cvt s z g)
points_stay one many t (instruction.Measuring (measure.Gc of)) ppem s z g cvt = told z g cvt _ _ (gc one t of s z g)
points_stay one many t (instruction.OnOne single.Scfs) ppem s z g cvt = valued cvt _ _ (scfs one t s z g)
points_stay one many t (instruction.Measuring (measure.Md between)) ppem s z g cvt = told z g cvt _ _ (md one t between s z g)
points_stay one many t (instruction.Deltap range) ppem s z g cvt = valued cvt _ _ (deltap many t range ppem s z g)
points_stay one many t (instruction.Deltac range) ppem s z g cvt =
    given.after beside (deltac t range ppem s g cvt) _ _ (λ u. refl)
points_stay one many t (instruction.InTurn turn.Flippt) ppem s z g cvt = valued cvt _ _ (flippt many t s z g)
points_stay one many t (instruction.OnRange (ranged.Flip on)) ppem s z g cvt = valued cvt _ _ (flip_range t on s z g)
points_stay one many t (instruction.OnOne (single.Mdrp keeping)) ppem s z g cvt = valued cvt _ _ (mdrp one t keeping s z g)
points_stay one many t (instruction.OnOne (single.Mirp keeping)) ppem s z g cvt = valued cvt _ _ (mirp one t keeping cvt s z g)
points_stay one many t (instruction.OnLines (line.Spvtl turned)) ppem s z g cvt = valued cvt _ _ (spvtl one t turned s z g)
points_stay one many t (instruction.OnLines (line.Sfvtl turned)) ppem s z g cvt = valued cvt _ _ (sfvtl one t turned s z g)
points_stay one many t (instruction.OnLines (line.Sdpvtl turned)) ppem s z g cvt = valued cvt _ _ (sdpvtl one t turned s z g)
points_stay one many t (instruction.OnLines line.Isect) ppem s z g cvt = valued cvt _ _ (isect one t s z g)
points_stay one many t (instruction.OnLines line.Alignpts) ppem s z g cvt = valued cvt _ _ (alignpts one t s z g)
