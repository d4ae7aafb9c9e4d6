-- Apple TrueType Reference Manual, "Instruction set": managing the graphics state. The top of the stack comes first.
use Rattle.std.specs.Prelude.{◌≡◌, ℕ, ℤ, pos, negsuc, int_lt, unsigned_abs, ◌==◌, nat_le, Bool, true, false, ◌&&◌, ◌||◌, not, if◌then◌else◌, List, [], ◌∷◌, Result, Ok, Err, refl, map}
use Rattle.std.specs.Int.{int_rem_euclid}
use Rattle.tt_core.specs.declared.scaling.Scale.{Scale}
use Rattle.tt_core.specs.Outcomes.{◌>>=◌}
use Rattle.tt_core.specs.declared.fault.Why.{Why}
use Rattle.tt_core.specs.declared.fault.Why.TheVariants as why
use Rattle.tt_state.specs.declared.graphics_state.GraphicsState.{GraphicsState}
use Rattle.tt_state.specs.declared.rounding.Round.{Round}
use Rattle.tt_state.specs.declared.tolerance.Tolerance.{Tolerance}
use Rattle.tt_state.specs.declared.tolerance.Tolerance.TheVariants as tolerance
use Rattle.tt_state.specs.GraphicsState.{default_state}
use Rattle.tt_state.specs.Rounding.{super_state, super_state_at_45}
use Rattle.tt_state.specs.Tolerance.{unless_missing}
use Rattle.tt_points_zones.specs.ZoneNumbers.{zone_of}
use Rattle.tt_exec_state.specs.declared.instruction.GraphicsSetting.{GraphicsSetting}
use Rattle.tt_exec_state.specs.declared.instruction.GraphicsSetting.TheVariants as op
use Rattle.tt_exec_state.specs.Size.{in_pixels}

-- the state after a setting, or its refusal
abbrev pub Set : Type 0
Set = Result (List ℤ × GraphicsState) Why

abbrev pub srp0 : List ℤ → GraphicsState → Set
srp0 (p ∷ s) g = Ok (s, record g { rp0 = p })
srp0 [] g = Err why.StackShort

abbrev pub srp1 : List ℤ → GraphicsState → Set
srp1 (p ∷ s) g = Ok (s, record g { rp1 = p })
srp1 [] g = Err why.StackShort

abbrev pub srp2 : List ℤ → GraphicsState → Set
srp2 (p ∷ s) g = Ok (s, record g { rp2 = p })
srp2 [] g = Err why.StackShort

-- SZP0, SZP1, SZP2 and SZPS: for a missing zone a tolerant machine leaves the zone pointers unchanged (profile)
abbrev pub szp0 : Tolerance → List ℤ → GraphicsState → Set
szp0 t (n ∷ s) g = unless_missing t (s, g) (zone_of n >>= λ z. Ok (s, record g { zp0 = z }))
szp0 t [] g = Err why.StackShort

abbrev pub szp1 : Tolerance → List ℤ → GraphicsState → Set
szp1 t (n ∷ s) g = unless_missing t (s, g) (zone_of n >>= λ z. Ok (s, record g { zp1 = z }))
szp1 t [] g = Err why.StackShort

abbrev pub szp2 : Tolerance → List ℤ → GraphicsState → Set
szp2 t (n ∷ s) g = unless_missing t (s, g) (zone_of n >>= λ z. Ok (s, record g { zp2 = z }))
szp2 t [] g = Err why.StackShort

abbrev pub szps : Tolerance → List ℤ → GraphicsState → Set
szps t (n ∷ s) g = unless_missing t (s, g) (zone_of n >>= λ z. Ok (s, record g { zp0 = z; zp1 = z; zp2 = z }))
szps t [] g = Err why.StackShort

abbrev pub sloop : List ℤ → GraphicsState → Set
sloop (n ∷ s) g = if int_lt n (pos 0) then Err why.BadArgument else Ok (s, record g { loops = unsigned_abs n })
sloop [] g = Err why.StackShort

abbrev pub round_to : Round → GraphicsState → GraphicsState
round_to round g = record g { round = round }

-- by the low byte
abbrev pub sround : List ℤ → GraphicsState → Set
sround (n ∷ s) g = Ok (s, round_to (super_state (unsigned_abs (int_rem_euclid n (pos 256)))) g)
sround [] g = Err why.StackShort

abbrev pub s45round : List ℤ → GraphicsState → Set
s45round (n ∷ s) g = Ok (s, round_to (super_state_at_45 (unsigned_abs (int_rem_euclid n (pos 256)))) g)
s45round [] g = Err why.StackShort

-- the minimum distance
abbrev pub smd : List ℤ → GraphicsState → Set
smd (d ∷ s) g = Ok (s, record g { min_distance = d })
smd [] g = Err why.StackShort

-- the cut-in of control values
abbrev pub scvtci : List ℤ → GraphicsState → Set
scvtci (n ∷ s) g = Ok (s, record g { cut_in = n })
scvtci [] g = Err why.StackShort

-- the cut-in of the single width
abbrev pub sswci : List ℤ → GraphicsState → Set
sswci (n ∷ s) g = Ok (s, record g { single_cut_in = n })
sswci [] g = Err why.StackShort

abbrev pub ssw : Scale → List ℤ → GraphicsState → Set
ssw scale (n ∷ s) g = in_pixels scale n >>= λ w. Ok (s, record g { single_width = w })
ssw scale [] g = Err why.StackShort

abbrev pub flip : Bool → GraphicsState → GraphicsState
flip on g = record g { auto_flip = on }

abbrev pub sdb : List ℤ → GraphicsState → Set
sdb (n ∷ s) g = Ok (s, record g { delta_base = n })
sdb [] g = Err why.StackShort

abbrev pub sds : List ℤ → GraphicsState → Set
sds (n ∷ s) g =
    if int_lt n (pos 0) || int_lt (pos 6) n then Err why.BadArgument else
    Ok (s, record g { delta_shift = unsigned_abs n })
sds [] g = Err why.StackShort

-- whether scan control is on after SCANCTRL of a number, by the pixels per em and whether it was on before. The low
-- byte is a size, and 255 every size: up to it bit 8 switches on, above it bit 11 switches off. The bits for rotated
-- and stretched glyphs have no effect (profile).
abbrev pub control_by : ℕ → ℤ → ℕ → Bool → Bool
control_by size v ppem before =
    if size == 255 then true else
    if size == 0 then false else
    if nat_le ppem size then before || not (int_lt (int_rem_euclid v (pos 512)) (pos 256)) else
    before && int_lt (int_rem_euclid v (pos 4096)) (pos 2048)

abbrev pub control_after : ℤ → ℕ → Bool → Bool
control_after v ppem before = control_by (unsigned_abs (int_rem_euclid v (pos 256))) v ppem before

abbrev pub scanctrl : ℕ → List ℤ → GraphicsState → Set
scanctrl ppem (v ∷ s) g = Ok (s, record g { scan = record g.scan { on = control_after v ppem g.scan.on } })
scanctrl ppem [] g = Err why.StackShort

-- the scan type after SCANTYPE of a number: its low 16 bits; a negative number changes nothing
abbrev pub type_after : ℤ → ℕ → ℕ
type_after v before = if int_lt v (pos 0) then before else unsigned_abs (int_rem_euclid v (pos 65536))

abbrev pub scantype : List ℤ → GraphicsState → Set
scantype (v ∷ s) g = Ok (s, record g { scan = record g.scan { scan_type = type_after v g.scan.scan_type } })
scantype [] g = Err why.StackShort

-- SANGW, AA and DEBUG
abbrev pub ignored : List ℤ → Result (List ℤ) Why
ignored (n ∷ s) = Ok s
ignored [] = Err why.StackShort

abbrev pub state_set : GraphicsSetting → ℕ → Scale → Tolerance → List ℤ → GraphicsState → Set
state_set op.Srp0 ppem scale t s g = srp0 s g
state_set op.Srp1 ppem scale t s g = srp1 s g
state_set op.Srp2 ppem scale t s g = srp2 s g
state_set op.Szp0 ppem scale t s g = szp0 t s g
state_set op.Szp1 ppem scale t s g = szp1 t s g
state_set op.Szp2 ppem scale t s g = szp2 t s g
state_set op.Szps ppem scale t s g = szps t s g
state_set op.Sloop ppem scale t s g = sloop s g
state_set (op.RoundTo round) ppem scale t s g = Ok (s, round_to round g)
state_set op.Sround ppem scale t s g = sround s g
state_set op.S45round ppem scale t s g = s45round s g
state_set op.Smd ppem scale t s g = smd s g
state_set op.Scvtci ppem scale t s g = scvtci s g
state_set op.Sswci ppem scale t s g = sswci s g
state_set op.Ssw ppem scale t s g = ssw scale s g
state_set (op.Flip on) ppem scale t s g = Ok (s, flip on g)
state_set op.Sdb ppem scale t s g = sdb s g
state_set op.Sds ppem scale t s g = sds s g
state_set op.Scanctrl ppem scale t s g = scanctrl ppem s g
state_set op.Scantype ppem scale t s g = scantype s g
state_set op.Ignored ppem scale t s g = ignored s >>= λ t. Ok (t, g)

-- the count of values that an instruction takes
abbrev pub takes : GraphicsSetting → ℕ
takes (op.RoundTo round) = 0
takes (op.Flip on) = 0
takes other = 1

-- worked values
no_zone_two : szp0 tolerance.Strict (pos 2 ∷ []) default_state ≡ Err why.ZoneRange
no_zone_two = refl

no_zone_two_passed_over : szp0 tolerance.Tolerant (pos 2 ∷ []) default_state ≡ Ok ([], default_state)
no_zone_two_passed_over = refl

no_zone_two_for_all : szps tolerance.Tolerant (pos 2 ∷ []) default_state ≡ Ok ([], default_state)
no_zone_two_for_all = refl

no_shift_seven : sds (pos 7 ∷ []) default_state ≡ Err why.BadArgument
no_shift_seven = refl

-- at every size; at none
always_on : control_after (pos 0xFF) 300 false ≡ true
always_on = refl

never_on : control_after (pos 0x900) 1 true ≡ false
never_on = refl

-- on up to 20 pixels, and as before beyond
on_up_to_its_size : map (λ size. control_after (pos 0x114) size false) (20 ∷ 21 ∷ []) ≡ true ∷ false ∷ []
on_up_to_its_size = refl

-- as before up to 20 pixels, and off beyond
off_beyond_its_size : map (λ size. control_after (pos 0x814) size true) (20 ∷ 21 ∷ []) ≡ true ∷ false ∷ []
off_beyond_its_size = refl

-- for rotated and for stretched glyphs alone
as_before_for_others : control_after (pos 0x614) 20 false ≡ false
as_before_for_others = refl

-- the low 16 bits
type_of_a_number : map (λ v. type_after v 0) (pos 5 ∷ pos 0x10004 ∷ []) ≡ 5 ∷ 4 ∷ []
type_of_a_number = refl

type_of_a_negative_number : type_after (negsuc 0) 4 ≡ 4
type_of_a_negative_number = refl
