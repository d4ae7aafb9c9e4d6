-- Apple TrueType Reference Manual, "Instruction set": the instructions that move or measure points, and those that
-- change control values by exceptions. The stack has its top first. The effects on points are in tt_points,
-- tt_points_loops and tt_points_iup, by the same names.
use Rattle.std.specs.Prelude.{◌≡◌, ℕ, ℤ, pos, negsuc, Bool, true, false, ◌&&◌, if◌then◌else◌, List, [], ◌∷◌, length, get_or, Result, Ok, Err, refl}
use Rattle.std.specs.Ordering.{int_eq}
use Rattle.tt_core.specs.Outcomes.{◌>>=◌}
use Rattle.tt_core.specs.declared.fault.Why.{Why}
use Rattle.tt_core.specs.declared.fault.Why.TheVariants as why
use Rattle.tt_state.specs.GraphicsState.{default_state}
use Rattle.tt_state.specs.Vectors.{project, along}
use Rattle.tt_state.specs.declared.graphics_state.GraphicsState.{GraphicsState}
use Rattle.tt_state.specs.Tolerance.{is_tolerant, unless_missing}
use Rattle.tt_state.specs.declared.tolerance.Tolerance.{Tolerance}
use Rattle.tt_state.specs.declared.tolerance.Tolerance.TheVariants as tolerance
use Rattle.tt_points_iup.specs.Interpolation.{iup}
use Rattle.tt_points_loops.specs.declared.deltas.DeltaRange.{DeltaRange}
use Rattle.tt_points_loops.specs.declared.shifting.ReferencePoint.{ReferencePoint}
use Rattle.tt_points_loops.specs.Deltas as deltas
use Rattle.tt_points_loops.specs.Flipping as flipping
use Rattle.tt_points_loops.specs.Moving as moving
use Rattle.tt_points_loops.specs.Shifting as shifting
use Rattle.tt_points.specs.declared.distances.Keeping.{Keeping}
use Rattle.tt_points.specs.declared.lines.Ends.{Ends}
use Rattle.tt_points.specs.declared.measuring.Position.{Position}
use Rattle.tt_points.specs.declared.measuring.Position.TheVariants as position
use Rattle.tt_points.specs.ControlValues as by_value
use Rattle.tt_points.specs.Lines as lines
use Rattle.tt_points.specs.Measuring as measuring
use Rattle.tt_points.specs.Moving as single_moving
use Rattle.tt_points.specs.ControlValues.{chosen_from, mirp_distance}
use Rattle.tt_points.specs.Distances.{keeping, single_width}
use Rattle.tt_points.specs.Moving.{kept, referred, zero_and, zero_and_touched}
use Rattle.tt_points.specs.Twilight.{made}
use Rattle.tt_points.specs.zones.Motions.{direction}
use Rattle.tt_points.specs.zones.Points.{has_point}
use Rattle.tt_points.specs.zones.Zones.{ZoneLists}
use Rattle.tt_exec_stack.specs.Stack.{pushed}
use Rattle.tt_exec_state.specs.StoredValues.{place}
use Rattle.tt_exec_points.specs.ControlValues.{deltac}
use Rattle.tt_exec_points.specs.Popping.{Left, after, after_move, looped, counted}
use Rattle.tt_exec_points.specs.declared.instruction.OnPoints.{OnPoints}
use Rattle.tt_exec_points.specs.declared.instruction.OnPoints.TheVariants as instruction
use Rattle.tt_exec_points.specs.declared.lines.OnLines.{OnLines}
use Rattle.tt_exec_points.specs.declared.lines.OnLines.TheVariants as line
use Rattle.tt_exec_points.specs.declared.measuring.Measuring.{Measuring}
use Rattle.tt_exec_points.specs.declared.measuring.Measuring.TheVariants as measure
use Rattle.tt_exec_points.specs.declared.moving.OnOne.{OnOne}
use Rattle.tt_exec_points.specs.declared.moving.OnOne.TheVariants as single
use Rattle.tt_exec_points.specs.declared.several.InTurn.{InTurn}
use Rattle.tt_exec_points.specs.declared.several.InTurn.TheVariants as turn
use Rattle.tt_exec_points.specs.declared.several.OnRange.{OnRange}
use Rattle.tt_exec_points.specs.declared.several.OnRange.TheVariants as ranged

abbrev pub mdap : Tolerance → Bool → List ℤ → ZoneLists → GraphicsState → Left
mdap t round (p ∷ s) z g = unless_missing t (s, z, g) (after s (single_moving.mdap round p z g))
mdap t round [] z g = Err why.StackShort

-- when passed over, it still sets the reference points
abbrev pub mdrp : Tolerance → Keeping → List ℤ → ZoneLists → GraphicsState → Left
mdrp t keeping (p ∷ s) z g =
    unless_missing t (s, z, referred keeping.set_rp0 p g) (after s (single_moving.mdrp keeping p z g))
mdrp t keeping [] z g = Err why.StackShort

abbrev pub msirp : Tolerance → Bool → List ℤ → ZoneLists → GraphicsState → Left
msirp t set_rp0 (d ∷ p ∷ s) z g = unless_missing t (s, z, g) (after s (single_moving.msirp set_rp0 p d z g))
msirp t set_rp0 _ z g = Err why.StackShort

-- the control value with number n
abbrev pub control_value : ℤ → List ℤ → Result ℤ Why
control_value n cvt = place n (length cvt) why.CvtRange >>= λ i. Ok (get_or cvt i (pos 0))

-- a control value, if it exists, and the instruction with it
abbrev pub miap_by : Bool → ℤ → Result ℤ Why → ZoneLists → GraphicsState → Result (ZoneLists × GraphicsState) Why
miap_by round p given z g = given >>= λ c. by_value.miap round p c z g

abbrev pub mirp_by : Keeping → ℤ → Result ℤ Why → ZoneLists → GraphicsState → Result (ZoneLists × GraphicsState) Why
mirp_by keeping p given z g = given >>= λ c. by_value.mirp keeping p c z g

-- the reference points after MIAP
abbrev pub referred_to : ℤ → GraphicsState → GraphicsState
referred_to p g = record g { rp0 = p; rp1 = p }

-- when passed over, it still sets the reference points
abbrev pub miap : Tolerance → Bool → List ℤ → List ℤ → ZoneLists → GraphicsState → Left
miap t round cvt (n ∷ p ∷ s) z g =
    unless_missing t (s, z, referred_to p g) (after s (miap_by round p (control_value n cvt) z g))
miap t round cvt _ z g = Err why.StackShort

-- for MIRP of a tolerant machine, control value -1 is 0
abbrev pub mirp_value : Tolerance → ℤ → List ℤ → Result ℤ Why
mirp_value t n cvt = if is_tolerant t && int_eq n (negsuc 0) then Ok (pos 0) else control_value n cvt

-- when passed over, it still sets the reference points
abbrev pub mirp : Tolerance → Keeping → List ℤ → List ℤ → ZoneLists → GraphicsState → Left
mirp t keeping cvt (n ∷ p ∷ s) z g =
    unless_missing t (s, z, referred keeping.set_rp0 p g) (after s (mirp_by keeping p (mirp_value t n cvt) z g))
mirp t keeping cvt _ z g = Err why.StackShort

abbrev pub scfs : Tolerance → List ℤ → ZoneLists → GraphicsState → Left
scfs t (v ∷ p ∷ s) z g = unless_missing t (s, z, g) (after_move s g (measuring.scfs p v z g))
scfs t _ z g = Err why.StackShort

abbrev pub utp : Tolerance → List ℤ → ZoneLists → GraphicsState → Left
utp t (p ∷ s) z g = unless_missing t (s, z, g) (after_move s g (measuring.utp p z g))
utp t [] z g = Err why.StackShort

-- a missing point measures 0
abbrev pub gc : Tolerance → Position → List ℤ → ZoneLists → GraphicsState → Result (List ℤ) Why
gc t of (p ∷ s) z g = unless_missing t (pos 0) (measuring.gc of p z g) >>= λ c. pushed c s
gc t of [] z g = Err why.StackShort

abbrev pub md : Tolerance → Position → List ℤ → ZoneLists → GraphicsState → Result (List ℤ) Why
md t between (p1 ∷ p2 ∷ s) z g = unless_missing t (pos 0) (measuring.md between p2 p1 z g) >>= λ d. pushed d s
md t between _ z g = Err why.StackShort

abbrev pub alignrp : Tolerance → List ℤ → ZoneLists → GraphicsState → Left
alignrp t s z g = looped t (has_point g.zp0 g.rp0 z) s z g (λ points. moving.alignrp t points z g)

abbrev pub ip : Tolerance → List ℤ → ZoneLists → GraphicsState → Left
ip t s z g = looped t (has_point g.zp0 g.rp1 z) s z g (λ points. moving.ip t points z g)

-- whether the reference point that others follow exists
unfoldable pub has_reference : ReferencePoint → ZoneLists → GraphicsState → Bool
has_reference which z g = has_point (shifting.reference_zone which g) (shifting.reference_number which g) z

abbrev pub shp : Tolerance → ReferencePoint → List ℤ → ZoneLists → GraphicsState → Left
shp t which s z g = looped t (has_reference which z g) s z g (λ points. shifting.shp t which points z g)

abbrev pub shpix : Tolerance → List ℤ → ZoneLists → GraphicsState → Left
shpix t (amount ∷ s) z g = looped t true s z g (λ points. moving.shpix t points amount z g)
shpix t [] z g = Err why.StackShort

abbrev pub flippt : Tolerance → List ℤ → ZoneLists → GraphicsState → Left
flippt t s z g = looped t true s z g (λ points. flipping.flippt t points z g)

abbrev pub flip_range : Tolerance → Bool → List ℤ → ZoneLists → GraphicsState → Left
flip_range t on (high ∷ low ∷ s) z g = unless_missing t (s, z, g) (after_move s g (flipping.flip_range on low high z))
flip_range t on _ z g = Err why.StackShort

abbrev pub shc : Tolerance → ReferencePoint → List ℤ → ZoneLists → GraphicsState → Left
shc t which (c ∷ s) z g = unless_missing t (s, z, g) (after_move s g (shifting.shc which c z g))
shc t which [] z g = Err why.StackShort

abbrev pub shz : Tolerance → ReferencePoint → List ℤ → ZoneLists → GraphicsState → Left
shz t which (e ∷ s) z g = unless_missing t (s, z, g) (after_move s g (shifting.shz which e z g))
shz t which [] z g = Err why.StackShort

abbrev pub deltap : Tolerance → DeltaRange → ℕ → List ℤ → ZoneLists → GraphicsState → Left
deltap t range ppem s z g = counted t s >>= λ c. after_move c.1 g (deltas.deltap t range ppem c.0 z g)

-- after an instruction that changes the graphics state alone
abbrev pub after_setting : List ℤ → ZoneLists → Result GraphicsState Why → Left
after_setting s z given = given >>= λ g. Ok (s, z, g)

abbrev pub spvtl : Tolerance → Bool → List ℤ → ZoneLists → GraphicsState → Left
spvtl t turned (p1 ∷ p2 ∷ s) z g = unless_missing t (s, z, g) (after_setting s z (lines.spvtl turned p1 p2 z g))
spvtl t turned _ z g = Err why.StackShort

abbrev pub sfvtl : Tolerance → Bool → List ℤ → ZoneLists → GraphicsState → Left
sfvtl t turned (p1 ∷ p2 ∷ s) z g = unless_missing t (s, z, g) (after_setting s z (lines.sfvtl turned p1 p2 z g))
sfvtl t turned _ z g = Err why.StackShort

abbrev pub sdpvtl : Tolerance → Bool → List ℤ → ZoneLists → GraphicsState → Left
sdpvtl t turned (p1 ∷ p2 ∷ s) z g = unless_missing t (s, z, g) (after_setting s z (lines.sdpvtl turned p1 p2 z g))
sdpvtl t turned _ z g = Err why.StackShort

abbrev pub ends : ℤ → ℤ → Ends
ends from to = record { from = from; to = to }

abbrev pub isect : Tolerance → List ℤ → ZoneLists → GraphicsState → Left
isect t (b1 ∷ b0 ∷ a1 ∷ a0 ∷ p ∷ s) z g =
    unless_missing t (s, z, g) (after_move s g (lines.isect p (ends a0 a1) (ends b0 b1) z g))
isect t _ z g = Err why.StackShort

abbrev pub alignpts : Tolerance → List ℤ → ZoneLists → GraphicsState → Left
alignpts t (p1 ∷ p2 ∷ s) z g = unless_missing t (s, z, g) (after_move s g (lines.alignpts p1 p2 z g))
alignpts t _ z g = Err why.StackShort

-- the instructions of each family: on one point, on lines, on points in turn, on a range of points; those that measure
abbrev pub on_one : Tolerance → OnOne → List ℤ → List ℤ → ZoneLists → GraphicsState → Left
on_one t (single.Mdap round) cvt s z g = mdap t round s z g
on_one t (single.Mdrp keeping) cvt s z g = mdrp t keeping s z g
on_one t (single.Msirp set_rp0) cvt s z g = msirp t set_rp0 s z g
on_one t (single.Miap round) cvt s z g = miap t round cvt s z g
on_one t (single.Mirp keeping) cvt s z g = mirp t keeping cvt s z g
on_one t single.Scfs cvt s z g = scfs t s z g
on_one t single.Utp cvt s z g = utp t s z g

abbrev pub on_lines : Tolerance → OnLines → List ℤ → ZoneLists → GraphicsState → Left
on_lines t (line.Spvtl turned) s z g = spvtl t turned s z g
on_lines t (line.Sfvtl turned) s z g = sfvtl t turned s z g
on_lines t (line.Sdpvtl turned) s z g = sdpvtl t turned s z g
on_lines t line.Isect s z g = isect t s z g
on_lines t line.Alignpts s z g = alignpts t s z g

abbrev pub in_turn : Tolerance → InTurn → List ℤ → ZoneLists → GraphicsState → Left
in_turn t turn.Alignrp s z g = alignrp t s z g
in_turn t turn.Ip s z g = ip t s z g
in_turn t (turn.Shp which) s z g = shp t which s z g
in_turn t turn.Shpix s z g = shpix t s z g
in_turn t turn.Flippt s z g = flippt t s z g

abbrev pub on_range : Tolerance → OnRange → List ℤ → ZoneLists → GraphicsState → Left
on_range t (ranged.Flip on) s z g = flip_range t on s z g
on_range t (ranged.Shc which) s z g = shc t which s z g
on_range t (ranged.Shz which) s z g = shz t which s z g

abbrev pub measured : Tolerance → Measuring → List ℤ → ZoneLists → GraphicsState → Result (List ℤ) Why
measured t (measure.Gc of) s z g = gc t of s z g
measured t (measure.Md between) s z g = md t between s z g

-- the stack, the zones, the graphics state and the control values, or a refusal
abbrev pub LeftOfAll : Type 0
LeftOfAll = Result (List ℤ × ZoneLists × GraphicsState × List ℤ) Why

-- after an instruction that leaves the control values unchanged, and one that changes the stack alone
abbrev pub with_values : List ℤ → Left → LeftOfAll
with_values cvt left = left >>= λ t. Ok (t.0, t.1, t.2, cvt)

abbrev pub with_points : ZoneLists → GraphicsState → List ℤ → Result (List ℤ) Why → LeftOfAll
with_points z g cvt left = left >>= λ s. Ok (s, z, g, cvt)

abbrev pub on_points : Tolerance → OnPoints → ℕ → List ℤ → ZoneLists → GraphicsState → List ℤ → LeftOfAll
on_points t (instruction.OnOne o) ppem s z g cvt = with_values cvt (on_one t o cvt s z g)
on_points t (instruction.OnLines o) ppem s z g cvt = with_values cvt (on_lines t o s z g)
on_points t (instruction.InTurn o) ppem s z g cvt = with_values cvt (in_turn t o s z g)
on_points t (instruction.OnRange o) ppem s z g cvt = with_values cvt (on_range t o s z g)
on_points t (instruction.Iup axis) ppem s z g cvt = with_values cvt (after_move s g (iup axis z))
on_points t (instruction.Measuring o) ppem s z g cvt = with_points z g cvt (measured t o s z g)
on_points t (instruction.Deltap range) ppem s z g cvt = with_values cvt (deltap t range ppem s z g)
on_points t (instruction.Deltac range) ppem s z g cvt = deltac t range ppem s g cvt >>= λ t. Ok (t.0, z, g, t.1)

-- the count of values that an instruction takes at once, before points and pairs whose count the program decides
abbrev pub takes : OnPoints → ℕ
takes (instruction.Iup axis) = 0
takes (instruction.InTurn turn.Shpix) = 1
takes (instruction.InTurn o) = 0
takes (instruction.OnOne (single.Mdap round)) = 1
takes (instruction.OnOne (single.Mdrp keeping)) = 1
takes (instruction.OnOne single.Utp) = 1
takes (instruction.OnRange (ranged.Shc which)) = 1
takes (instruction.OnRange (ranged.Shz which)) = 1
takes (instruction.Measuring (measure.Gc of)) = 1
takes (instruction.Deltap range) = 1
takes (instruction.Deltac range) = 1
takes (instruction.OnLines line.Isect) = 5
takes other = 2

-- worked values: a tolerant machine with exactly two points, one at 0 and one at 40 along x
abbrev two : ZoneLists
two = zero_and (pos 40)

no_point_fifty : mdap tolerance.Tolerant true (pos 50 ∷ []) two default_state ≡ Ok ([], two, default_state)
unfolding single_moving.mdap
no_point_fifty = refl

a_missing_point_is_referred_to : mdrp tolerance.Tolerant (keeping true false false) (pos 50 ∷ []) two default_state
    ≡ Ok ([], two, record default_state { rp0 = pos 50; rp1 = pos 0; rp2 = pos 50 })
unfolding single_moving.mdrp
a_missing_point_is_referred_to = refl

no_value_three : miap tolerance.Tolerant true (pos 10 ∷ pos 20 ∷ pos 30 ∷ []) (pos 3 ∷ pos 1 ∷ []) two default_state
    ≡ Ok ([], two, record default_state { rp0 = pos 1; rp1 = pos 1 })
no_value_three = refl

minus_one_is_zero : mirp tolerance.Tolerant (keeping false false false) [] (negsuc 0 ∷ pos 1 ∷ []) two default_state
    ≡ Ok ([], zero_and_touched (pos 40) (pos 0), record default_state { rp2 = pos 1 })
unfolding by_value.mirp made chosen_from mirp_distance kept single_width direction project along
minus_one_is_zero = refl

minus_one_is_no_value : mirp tolerance.Strict (keeping false false false) [] (negsuc 0 ∷ pos 1 ∷ []) two default_state
    ≡ Err why.CvtRange
minus_one_is_no_value = refl

no_point_is_at_zero : gc tolerance.Tolerant position.Current (pos 50 ∷ []) two default_state ≡ Ok (pos 0 ∷ [])
unfolding measuring.gc pushed
no_point_is_at_zero = refl

no_point_is_popped : alignrp tolerance.Tolerant (pos 1 ∷ []) two (record default_state { rp0 = pos 50 })
    ≡ Ok (pos 1 ∷ [], two, record default_state { rp0 = pos 50 })
no_point_is_popped = refl

two_points_of_three : shpix tolerance.Tolerant (pos 32 ∷ pos 1 ∷ pos 0 ∷ []) two (record default_state { loops = 3 })
    ≡ Ok (pos 1 ∷ pos 0 ∷ [], two, default_state)
two_points_of_three = refl

two_points_refused : shpix tolerance.Strict (pos 32 ∷ pos 1 ∷ pos 0 ∷ []) two (record default_state { loops = 3 })
    ≡ Err why.StackShort
two_points_refused = refl
