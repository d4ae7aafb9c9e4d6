-- No instruction adds or removes a point or a control value.
use Rattle.std.proofs.Common.{◌≡◌, ◌∙◌, ℕ, ℤ, pos, ◌+ℤ◌, Bool, true, false, ◌&&◌, if◌then◌else◌, List, [], ◌∷◌, length, get_or, Option, Some, None, Result, Ok, Err, IfOk, refl, length-set}
use Rattle.tt_core.specs.declared.fault.Why.{Why}
use Rattle.tt_core.specs.declared.fault.Why.TheVariants as why
use Rattle.tt_state.specs.Tolerance.{is_tolerant, passes_over, unless_missing}
use Rattle.tt_state.specs.declared.graphics_state.Axis.{Axis}
use Rattle.tt_state.specs.declared.graphics_state.GraphicsState.{GraphicsState}
use Rattle.tt_state.specs.declared.tolerance.Tolerance.{Tolerance}
use Rattle.tt_points.specs.declared.distances.Keeping.{Keeping}
use Rattle.tt_points_loops.specs.declared.deltas.DeltaRange.{DeltaRange}
use Rattle.tt_points_loops.specs.declared.shifting.ReferencePoint.{ReferencePoint}
use Rattle.tt_points.specs.Lines as lines
use Rattle.tt_points.specs.Measuring as measuring
use Rattle.tt_points.specs.Moving as single_moving
use Rattle.tt_points.specs.Shapes as on_single
use Rattle.tt_points_iup.specs.Interpolation.{iup}
use Rattle.tt_points_loops.specs.Deltas as deltas
use Rattle.tt_points_loops.specs.Flipping as flipping
use Rattle.tt_points_loops.specs.Moving as moving
use Rattle.tt_points_loops.specs.Series.{one_by_one}
use Rattle.tt_points_loops.specs.Shapes as on_many
use Rattle.tt_points.specs.zones.Shapes.{whatever, through, same}
use Rattle.tt_points_loops.specs.Shifting as shifting
use Rattle.tt_points.specs.zones.Points.{has_point}
use Rattle.tt_points.specs.zones.Zones.{ZoneLists, AreContours, SameShape, KeepsShape, KeepsShapeBefore}
use Rattle.tt_exec_state.specs.StoredValues.{place}
use Rattle.tt_exec_points.specs.ControlValues.{value_of, change_by, change_pair, change, changes, popped, deltac}
use Rattle.tt_exec_points.specs.Instruction.{with_values, with_points, on_points}
use Rattle.tt_exec_points.specs.Instruction as is
use Rattle.tt_exec_points.specs.declared.instruction.OnPoints.{OnPoints}
use Rattle.tt_exec_points.specs.declared.instruction.OnPoints.TheVariants as instruction
use Rattle.tt_exec_points.specs.declared.lines.OnLines.TheVariants as line
use Rattle.tt_exec_points.specs.declared.measuring.Measuring.TheVariants as measure
use Rattle.tt_exec_points.specs.declared.moving.OnOne.TheVariants as single
use Rattle.tt_exec_points.specs.declared.several.InTurn.TheVariants as turn
use Rattle.tt_exec_points.specs.declared.several.OnRange.TheVariants as ranged
use Rattle.tt_exec_points.specs.Popping.{Left, after, after_move, taken, too_little, looped, counted}
use Rattle.tt_exec_points.specs.Shapes.{SameSizes}

-- the laws of the instructions
abbrev Single : Type 0
Single = (z : ZoneLists) (g : GraphicsState) → on_single.ShapeIsKept z g

abbrev Many : Type 0
Many = (z : ZoneLists) (g : GraphicsState) → on_many.ShapeIsKept z g

abbrev HasContours : ZoneLists → Type 0
HasContours z = AreContours 0 z.contours (length z.glyph)

abbrev Interpolated : Type 0
Interpolated = (axis : Axis) (z : ZoneLists) → HasContours z → KeepsShape z (iup axis z)

-- the shape of the zones afterwards
abbrev Shaped : ZoneLists → List ℤ × ZoneLists × GraphicsState → Type 0
Shaped z t = SameShape z t.1

abbrev Keeps : ZoneLists → Left → Type 0
Keeps z left = IfOk left (Shaped z)

-- a property of a result and of the one in its place
either : {A : Type 0} (P : A → Type 0) (b : Bool) (instead : A) (r : Result A Why) → P instead → IfOk r P
    → IfOk (if b then Ok instead else r) P
either P true instead r first holds = first
either P false instead r first holds = holds

unless : {A : Type 0} (P : A → Type 0) (t : Tolerance) (instead : A) (r : Result A Why) → P instead → IfOk r P
    → IfOk (unless_missing t instead r) P
unless P t instead (Ok a) first holds = holds
unless P t instead (Err e) first holds = either P (passes_over t e) instead (Err e) first tt

moved : (s : List ℤ) (z : ZoneLists) (r : Result (ZoneLists × GraphicsState) Why) → KeepsShapeBefore z r
    → Keeps z (after s r)
moved s z (Ok t) kept = kept
moved s z (Err why) kept = tt

changed : (s : List ℤ) (g : GraphicsState) (z : ZoneLists) (r : Result ZoneLists Why) → KeepsShape z r
    → Keeps z (after_move s g r)
changed s g z (Ok w) kept = kept
changed s g z (Err why) kept = tt

passed : (t : Tolerance) (s : List ℤ) (z : ZoneLists) (g : GraphicsState) (left : Left) → Keeps z left
    → Keeps z (unless_missing t (s, z, g) left)
passed t s z g left kept = unless (Shaped z) t (s, z, g) left (same z) kept

loop : (t : Tolerance) (referred : Bool) (s : List ℤ) (z : ZoneLists) (g : GraphicsState)
    (change : List ℤ → Result (ZoneLists × GraphicsState) Why)
    → ((points : List ℤ) → KeepsShapeBefore z (change points)) → Keeps z (looped t referred s z g change)
loop t referred s z g change kept =
    either (Shaped z) (is_tolerant t && too_little referred s g) _ _ (same z)
    (whatever (Shaped z) (taken g.loops s) _ (λ p. moved p.1 z (change p.0) (kept p.0)))

-- on single points
mdap : Single → (t : Tolerance) (round : Bool) (s : List ℤ) (z : ZoneLists) (g : GraphicsState)
    → Keeps z (is.mdap t round s z g)
mdap k t round (p ∷ s) z g = passed t s z _ _ (moved s z (single_moving.mdap round p z g) ((k z g).mdap round p))
mdap k t round [] z g = tt

mdrp : Single → (t : Tolerance) (keeping : Keeping) (s : List ℤ) (z : ZoneLists) (g : GraphicsState)
    → Keeps z (is.mdrp t keeping s z g)
mdrp k t keeping (p ∷ s) z g = passed t s z _ _ (moved s z (single_moving.mdrp keeping p z g) ((k z g).mdrp keeping p))
mdrp k t keeping [] z g = tt

msirp : Single → (t : Tolerance) (set_rp0 : Bool) (s : List ℤ) (z : ZoneLists) (g : GraphicsState)
    → Keeps z (is.msirp t set_rp0 s z g)
msirp k t set_rp0 (d ∷ p ∷ s) z g =
    passed t s z _ _ (moved s z (single_moving.msirp set_rp0 p d z g) ((k z g).msirp set_rp0 p d))
msirp k t set_rp0 (d ∷ []) z g = tt
msirp k t set_rp0 [] z g = tt

miap : Single → (t : Tolerance) (round : Bool) (cvt s : List ℤ) (z : ZoneLists) (g : GraphicsState)
    → Keeps z (is.miap t round cvt s z g)
miap k t round cvt (n ∷ p ∷ s) z g =
    passed t s z _ _ (moved s z (is.miap_by round p (is.control_value n cvt) z g)
    (whatever (λ u. SameShape z u.0) (is.control_value n cvt) _ (λ c. (k z g).miap round p c)))
miap k t round cvt (n ∷ []) z g = tt
miap k t round cvt [] z g = tt

mirp : Single → (t : Tolerance) (keeping : Keeping) (cvt s : List ℤ) (z : ZoneLists) (g : GraphicsState)
    → Keeps z (is.mirp t keeping cvt s z g)
mirp k t keeping cvt (n ∷ p ∷ s) z g =
    passed t s z _ _ (moved s z (is.mirp_by keeping p (is.mirp_value t n cvt) z g)
    (whatever (λ u. SameShape z u.0) (is.mirp_value t n cvt) _ (λ c. (k z g).mirp keeping p c)))
mirp k t keeping cvt (n ∷ []) z g = tt
mirp k t keeping cvt [] z g = tt

scfs : Single → (t : Tolerance) (s : List ℤ) (z : ZoneLists) (g : GraphicsState) → Keeps z (is.scfs t s z g)
scfs k t (v ∷ p ∷ s) z g = passed t s z _ _ (changed s g z (measuring.scfs p v z g) ((k z g).scfs p v))
scfs k t (v ∷ []) z g = tt
scfs k t [] z g = tt

utp : Single → (t : Tolerance) (s : List ℤ) (z : ZoneLists) (g : GraphicsState) → Keeps z (is.utp t s z g)
utp k t (p ∷ s) z g = passed t s z _ _ (changed s g z (measuring.utp p z g) ((k z g).utp p))
utp k t [] z g = tt

set : (s : List ℤ) (z : ZoneLists) (r : Result GraphicsState Why) → Keeps z (is.after_setting s z r)
set s z (Ok g) = same z
set s z (Err why) = tt

spvtl : (t : Tolerance) (turned : Bool) (s : List ℤ) (z : ZoneLists) (g : GraphicsState)
    → Keeps z (is.spvtl t turned s z g)
spvtl t turned (p1 ∷ p2 ∷ s) z g = passed t s z _ _ (set s z (lines.spvtl turned p1 p2 z g))
spvtl t turned (p1 ∷ []) z g = tt
spvtl t turned [] z g = tt

sfvtl : (t : Tolerance) (turned : Bool) (s : List ℤ) (z : ZoneLists) (g : GraphicsState)
    → Keeps z (is.sfvtl t turned s z g)
sfvtl t turned (p1 ∷ p2 ∷ s) z g = passed t s z _ _ (set s z (lines.sfvtl turned p1 p2 z g))
sfvtl t turned (p1 ∷ []) z g = tt
sfvtl t turned [] z g = tt

sdpvtl : (t : Tolerance) (turned : Bool) (s : List ℤ) (z : ZoneLists) (g : GraphicsState)
    → Keeps z (is.sdpvtl t turned s z g)
sdpvtl t turned (p1 ∷ p2 ∷ s) z g = passed t s z _ _ (set s z (lines.sdpvtl turned p1 p2 z g))
sdpvtl t turned (p1 ∷ []) z g = tt
sdpvtl t turned [] z g = tt

isect : Single → (t : Tolerance) (s : List ℤ) (z : ZoneLists) (g : GraphicsState) → Keeps z (is.isect t s z g)
isect k t (b1 ∷ b0 ∷ a1 ∷ a0 ∷ p ∷ s) z g =
    passed t s z _ _
    (changed s g z (lines.isect p (is.ends a0 a1) (is.ends b0 b1) z g)
    ((k z g).isect p (is.ends a0 a1) (is.ends b0 b1)))
isect k t (b1 ∷ b0 ∷ a1 ∷ a0 ∷ []) z g = tt
isect k t (b1 ∷ b0 ∷ a1 ∷ []) z g = tt
isect k t (b1 ∷ b0 ∷ []) z g = tt
isect k t (b1 ∷ []) z g = tt
isect k t [] z g = tt

alignpts : Single → (t : Tolerance) (s : List ℤ) (z : ZoneLists) (g : GraphicsState) → Keeps z (is.alignpts t s z g)
alignpts k t (p1 ∷ p2 ∷ s) z g = passed t s z _ _ (changed s g z (lines.alignpts p1 p2 z g) ((k z g).alignpts p1 p2))
alignpts k t (p1 ∷ []) z g = tt
alignpts k t [] z g = tt

-- on several points
alignrp : Many → (t : Tolerance) (s : List ℤ) (z : ZoneLists) (g : GraphicsState) → Keeps z (is.alignrp t s z g)
alignrp k t s z g =
    loop t (has_point g.zp0 g.rp0 z) s z g (λ points. moving.alignrp t points z g) ((k z g).alignrp t)

ip : Many → (t : Tolerance) (s : List ℤ) (z : ZoneLists) (g : GraphicsState) → Keeps z (is.ip t s z g)
ip k t s z g = loop t (has_point g.zp0 g.rp1 z) s z g (λ points. moving.ip t points z g) ((k z g).ip t)

shp : Many → (t : Tolerance) (which : ReferencePoint) (s : List ℤ) (z : ZoneLists) (g : GraphicsState)
    → Keeps z (is.shp t which s z g)
shp k t which s z g =
    loop t (is.has_reference which z g) s z g (λ points. shifting.shp t which points z g) ((k z g).shp t which)

shpix : Many → (t : Tolerance) (s : List ℤ) (z : ZoneLists) (g : GraphicsState) → Keeps z (is.shpix t s z g)
shpix k t (amount ∷ s) z g =
    loop t true s z g (λ points. moving.shpix t points amount z g) (λ points. (k z g).shpix t points amount)
shpix k t [] z g = tt

flippt : Many → (t : Tolerance) (s : List ℤ) (z : ZoneLists) (g : GraphicsState) → Keeps z (is.flippt t s z g)
flippt k t s z g = loop t true s z g (λ points. flipping.flippt t points z g) ((k z g).flippt t)

flip_range : Many → (t : Tolerance) (on : Bool) (s : List ℤ) (z : ZoneLists) (g : GraphicsState)
    → Keeps z (is.flip_range t on s z g)
flip_range k t on (high ∷ low ∷ s) z g =
    passed t s z _ _ (changed s g z (flipping.flip_range on low high z) ((k z g).flip_range on low high))
flip_range k t on (high ∷ []) z g = tt
flip_range k t on [] z g = tt

shc : Many → (t : Tolerance) (which : ReferencePoint) (s : List ℤ) (z : ZoneLists) (g : GraphicsState)
    → Keeps z (is.shc t which s z g)
shc k t which (c ∷ s) z g = passed t s z _ _ (changed s g z (shifting.shc which c z g) ((k z g).shc which c))
shc k t which [] z g = tt

shz : Many → (t : Tolerance) (which : ReferencePoint) (s : List ℤ) (z : ZoneLists) (g : GraphicsState)
    → Keeps z (is.shz t which s z g)
shz k t which (e ∷ s) z g = passed t s z _ _ (changed s g z (shifting.shz which e z g) ((k z g).shz which e))
shz k t which [] z g = tt

deltap : Many → (t : Tolerance) (range : DeltaRange) (ppem : ℕ) (s : List ℤ) (z : ZoneLists) (g : GraphicsState)
    → Keeps z (is.deltap t range ppem s z g)
deltap k t range ppem s z g =
    whatever (Shaped z) (counted t s) _
    (λ c. changed c.1 g z (deltas.deltap t range ppem c.0 z g) ((k z g).deltap t range ppem c.0))

-- the count of control values is unchanged
abbrev AsMany : List ℤ → List ℤ → Type 0
AsMany cvt new = length new ≡ length cvt

change_by_kept : (d : Option ℤ) (n : ℤ) (cvt : List ℤ) → IfOk (change_by d n cvt) (AsMany cvt)
change_by_kept None n cvt = refl
change_by_kept (Some d) n cvt =
    whatever (AsMany cvt) (place n (length cvt) why.CvtRange) _ (λ i.
    whatever (AsMany cvt) (value_of (get_or cvt i (pos 0) +ℤ d)) _ (λ v. length-set cvt i v))

change_kept : (t : Tolerance) (range : DeltaRange) (ppem : ℕ) (g : GraphicsState) (pair : ℤ × ℤ) (cvt : List ℤ)
    → IfOk (change t range ppem g pair cvt) (AsMany cvt)
change_kept t range ppem g pair cvt =
    unless (AsMany cvt) t cvt (change_pair t range ppem g pair cvt) refl
    (whatever (AsMany cvt) (deltas.delta_of t range pair.0 ppem g) _ (λ d. change_by_kept d pair.1 cvt))

further : (r : Result (List ℤ) Why) (a b : List ℤ) → AsMany a b → IfOk r (AsMany b) → IfOk r (AsMany a)
further (Ok c) a b first second = second ∙ first
further (Err why) a b first second = tt

changes_kept : (t : Tolerance) (range : DeltaRange) (ppem : ℕ) (g : GraphicsState) (pairs : List (ℤ × ℤ)) (cvt : List ℤ)
    → IfOk (changes t range ppem g pairs cvt) (AsMany cvt)
changes_kept t range ppem g [] cvt = refl
changes_kept t range ppem g (pair ∷ pairs) cvt =
    through (AsMany cvt) (AsMany cvt) (change t range ppem g pair cvt) (one_by_one (change t range ppem g) pairs)
    (change_kept t range ppem g pair cvt)
    (λ new many. further (changes t range ppem g pairs new) cvt new many (changes_kept t range ppem g pairs new))

deltac_kept : (t : Tolerance) (range : DeltaRange) (ppem : ℕ) (s : List ℤ) (g : GraphicsState) (cvt : List ℤ)
    → IfOk (deltac t range ppem s g cvt) (λ u. AsMany cvt u.1)
deltac_kept t range ppem s g cvt =
    whatever (λ u. AsMany cvt u.1) (counted t s) _ (λ c.
    through (AsMany cvt) (λ u. AsMany cvt u.1) (changes t range ppem g (popped c.0) cvt) (λ v. Ok (c.1, v))
    (changes_kept t range ppem g (popped c.0) cvt) (λ v many. many))

-- the whole result
valued : (z : ZoneLists) (cvt : List ℤ) (left : Left) → Keeps z left → IfOk (with_values cvt left) (SameSizes z cvt)
valued z cvt (Ok t) kept = record { zones = kept; control_values = refl }
valued z cvt (Err why) kept = tt

told : (z : ZoneLists) (g : GraphicsState) (cvt : List ℤ) (r : Result (List ℤ) Why)
    → IfOk (with_points z g cvt r) (SameSizes z cvt)
told z g cvt (Ok s) = record { zones = same z; control_values = refl }
told z g cvt (Err why) = tt

pub sizes_kept : Single → Many → Interpolated → (t : Tolerance) (op : OnPoints) (ppem : ℕ) (s : List ℤ)
    (z : ZoneLists) (g : GraphicsState) (cvt : List ℤ) → HasContours z
    → IfOk (on_points t op ppem s z g cvt) (SameSizes z cvt)
sizes_kept one many i t (instruction.OnOne single.Utp) ppem s z g cvt has = valued z cvt _ (utp one t s z g)
sizes_kept one many i t (instruction.OnOne (single.Mdap round)) ppem s z g cvt has = valued z cvt _ (mdap one t round s z g)
sizes_kept one many i t (instruction.Iup axis) ppem s z g cvt has =
    valued z cvt _ (changed s g z (iup axis z) (i axis z has))
sizes_kept one many i t (instruction.InTurn (turn.Shp which)) ppem s z g cvt has = valued z cvt _ (shp many t which s z g)
sizes_kept one many i t (instruction.OnRange (ranged.Shc which)) ppem s z g cvt has = valued z cvt _ (shc many t which s z g)
sizes_kept one many i t (instruction.OnRange (ranged.Shz which)) ppem s z g cvt has = valued z cvt _ (shz many t which s z g)
sizes_kept one many i t (instruction.InTurn turn.Shpix) ppem s z g cvt has = valued z cvt _ (shpix many t s z g)
sizes_kept one many i t (instruction.InTurn turn.Ip) ppem s z g cvt has = valued z cvt _ (ip many t s z g)
sizes_kept one many i t (instruction.OnOne (single.Msirp set_rp0)) ppem s z g cvt has = valued z cvt _ (msirp one t set_rp0 s z g)
sizes_kept one many i t (instruction.InTurn turn.Alignrp) ppem s z g cvt has = valued z cvt _ (alignrp many t s z g)
sizes_kept one many i t (instruction.OnOne (single.Miap round)) ppem s z g cvt has = valued z cvt _ (miap one t round cvt s z g)
sizes_kept one many i t (instruction.Measuring (measure.Gc of)) ppem s z g cvt has = told z g cvt (is.gc t of s z g)
sizes_kept one many i t (instruction.OnOne single.Scfs) ppem s z g cvt has = valued z cvt _ (scfs one t s z g)
sizes_kept one many i t (instruction.Measuring (measure.Md between)) ppem s z g cvt has = told z g cvt (is.md t between s z g)
sizes_kept one many i t (instruction.Deltap range) ppem s z g cvt has = valued z cvt _ (deltap many t range ppem s z g)
sizes_kept one many i t (instruction.Deltac range) ppem s z g cvt has =
    through (λ u. AsMany cvt u.1) (SameSizes z cvt) (deltac t range ppem s g cvt) (λ u. Ok (u.0, z, g, u.1))
    (deltac_kept t range ppem s g cvt) (λ u count. record { zones = same z; control_values = count })
sizes_kept one many i t (instruction.InTurn turn.Flippt) ppem s z g cvt has = valued z cvt _ (flippt many t s z g)
sizes_kept one many i t (instruction.OnRange (ranged.Flip on)) ppem s z g cvt has =
    valued z cvt _ (flip_range many t on s z g)
sizes_kept one many i t (instruction.OnOne (single.Mdrp keeping)) ppem s z g cvt has = valued z cvt _ (mdrp one t keeping s z g)
sizes_kept one many i t (instruction.OnOne (single.Mirp keeping)) ppem s z g cvt has = valued z cvt _ (mirp one t keeping cvt s z g)
sizes_kept one many i t (instruction.OnLines (line.Spvtl turned)) ppem s z g cvt has = valued z cvt _ (spvtl t turned s z g)
sizes_kept one many i t (instruction.OnLines (line.Sfvtl turned)) ppem s z g cvt has = valued z cvt _ (sfvtl t turned s z g)
sizes_kept one many i t (instruction.OnLines (line.Sdpvtl turned)) ppem s z g cvt has = valued z cvt _ (sdpvtl t turned s z g)
sizes_kept one many i t (instruction.OnLines line.Isect) ppem s z g cvt has = valued z cvt _ (isect one t s z g)
sizes_kept one many i t (instruction.OnLines line.Alignpts) ppem s z g cvt has = valued z cvt _ (alignpts one t s z g)
