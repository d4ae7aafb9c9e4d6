-- Apple TrueType Reference Manual, "Instruction set": the instruction of each opcode. Vectors off the axes, crossings
-- of lines and definitions of instructions are beyond the profile: they need the whole instruction set.
use Rattle.std.specs.Prelude.{◌≡◌, ℕ, zero, suc, ◌/◌, ◌%◌, ◌==◌, nat_lt, Bool, true, false, if◌then◌else◌, List, [], ◌∷◌, refl}
use Rattle.tt_state.specs.declared.graphics_state.Axis.TheVariants as axis
use Rattle.tt_state.specs.declared.rounding.Round.TheVariants as round
use Rattle.tt_exec_stack.specs.declared.instruction.Arithmetic.TheVariants as arithmetic
use Rattle.tt_exec_stack.specs.declared.instruction.Logic.TheVariants as logic
use Rattle.tt_exec_stack.specs.declared.instruction.Managing.TheVariants as managing
use Rattle.tt_exec_state.specs.declared.instruction.StoredValues.TheVariants as places
use Rattle.tt_exec_state.specs.declared.instruction.Query.TheVariants as query
use Rattle.tt_exec_state.specs.declared.instruction.GraphicsSetting.TheVariants as setting
use Rattle.tt_exec_state.specs.declared.instruction.Variation.TheVariants as variation
use Rattle.tt_exec_state.specs.declared.instruction.Vectors.TheVariants as vectors
use Rattle.tt_code.specs.Decoding.{takes_data}
use Rattle.tt_exec_points.specs.points.Distances.{keeping}
use Rattle.tt_exec_points.specs.points.declared.distances.Keeping.{Keeping}
use Rattle.tt_exec_points.specs.points.declared.measuring.Position.TheVariants as position
use Rattle.tt_exec_points.specs.loops.declared.deltas.DeltaRange.TheVariants as ranges
use Rattle.tt_exec_points.specs.loops.declared.shifting.ReferencePoint.TheVariants as by
use Rattle.tt_exec_points.specs.declared.instruction.OnPoints.TheVariants as on
use Rattle.tt_exec_points.specs.declared.lines.OnLines.TheVariants as line
use Rattle.tt_exec_points.specs.declared.measuring.Measuring.TheVariants as measure
use Rattle.tt_exec_points.specs.declared.moving.OnOne.TheVariants as single
use Rattle.tt_exec_points.specs.declared.several.InTurn.TheVariants as turn
use Rattle.tt_exec_points.specs.declared.several.OnRange.TheVariants as ranged
use Rattle.tt_exec_step.specs.Operation.{Operation}
use Rattle.tt_exec_step.specs.Operation as op

-- the instruction of an opcode in a table, or another
abbrev pub found : Operation → ℕ → List (ℕ × Operation) → Operation
found other opcode [] = other
found other opcode (e ∷ es) = if opcode == e.0 then e.1 else found other opcode es

-- beyond the profile
abbrev pub opcodes_beyond : List (ℕ × Operation)
opcodes_beyond =
    (0x06, op.beyond (op.on_points (on.OnLines (line.Spvtl false)))) ∷
    (0x07, op.beyond (op.on_points (on.OnLines (line.Spvtl true)))) ∷
    (0x08, op.beyond (op.on_points (on.OnLines (line.Sfvtl false)))) ∷
    (0x09, op.beyond (op.on_points (on.OnLines (line.Sfvtl true)))) ∷
    (0x0F, op.beyond (op.on_points (on.OnLines line.Isect))) ∷
    (0x27, op.beyond (op.on_points (on.OnLines line.Alignpts))) ∷
    (0x4F, op.beyond (op.set_state setting.Ignored)) ∷
    (0x77, op.beyond (op.set_state setting.S45round)) ∷
    (0x86, op.beyond (op.on_points (on.OnLines (line.Sdpvtl false)))) ∷
    (0x87, op.beyond (op.on_points (on.OnLines (line.Sdpvtl true)))) ∷
    (0x89, op.beyond op.idef) ∷
    []

-- of variable fonts; without an instance these opcodes have no name
abbrev pub opcodes_of_instance : List (ℕ × Operation)
opcodes_of_instance =
    (0x91, op.read_instance variation.Getvariation 0x91) ∷
    (0x92, op.read_instance variation.Getdata 0x92) ∷
    []

-- an opcode in no table of the profile
abbrev pub apart : ℕ → Operation
apart opcode = found (found (op.unnamed opcode) opcode opcodes_of_instance) opcode opcodes_beyond

abbrev pub named : ℕ → List (ℕ × Operation) → Operation
named opcode table = found (apart opcode) opcode table

-- 0x00 to 0x1F
abbrev pub opcodes_00 : List (ℕ × Operation)
opcodes_00 =
    (0x00, op.access_vectors (vectors.Svtca axis.Y)) ∷
    (0x01, op.access_vectors (vectors.Svtca axis.X)) ∷
    (0x02, op.access_vectors (vectors.Spvtca axis.Y)) ∷
    (0x03, op.access_vectors (vectors.Spvtca axis.X)) ∷
    (0x04, op.access_vectors (vectors.Sfvtca axis.Y)) ∷
    (0x05, op.access_vectors (vectors.Sfvtca axis.X)) ∷
    (0x0A, op.access_vectors vectors.Spvfs) ∷
    (0x0B, op.access_vectors vectors.Sfvfs) ∷
    (0x0C, op.access_vectors vectors.Gpv) ∷
    (0x0D, op.access_vectors vectors.Gfv) ∷
    (0x0E, op.access_vectors vectors.Sfvtpv) ∷
    (0x10, op.set_state setting.Srp0) ∷
    (0x11, op.set_state setting.Srp1) ∷
    (0x12, op.set_state setting.Srp2) ∷
    (0x13, op.set_state setting.Szp0) ∷
    (0x14, op.set_state setting.Szp1) ∷
    (0x15, op.set_state setting.Szp2) ∷
    (0x16, op.set_state setting.Szps) ∷
    (0x17, op.set_state setting.Sloop) ∷
    (0x18, op.set_state (setting.RoundTo round.Grid)) ∷
    (0x19, op.set_state (setting.RoundTo round.Half)) ∷
    (0x1A, op.set_state setting.Smd) ∷
    (0x1B, op.else_from) ∷
    (0x1C, op.jmpr) ∷
    (0x1D, op.set_state setting.Scvtci) ∷
    (0x1E, op.set_state setting.Sswci) ∷
    (0x1F, op.set_state setting.Ssw) ∷
    []

-- 0x20 to 0x3F
abbrev pub opcodes_20 : List (ℕ × Operation)
opcodes_20 =
    (0x20, op.manage managing.Dup) ∷
    (0x21, op.manage managing.Pop) ∷
    (0x22, op.manage managing.Clear) ∷
    (0x23, op.manage managing.Swap) ∷
    (0x24, op.manage managing.Depth) ∷
    (0x25, op.manage managing.Cindex) ∷
    (0x26, op.manage managing.Mindex) ∷
    (0x29, op.on_points (on.OnOne single.Utp)) ∷
    (0x2A, op.loopcall) ∷
    (0x2B, op.call) ∷
    (0x2C, op.fdef) ∷
    (0x2D, op.endf) ∷
    (0x2E, op.on_points (on.OnOne (single.Mdap false))) ∷
    (0x2F, op.on_points (on.OnOne (single.Mdap true))) ∷
    (0x30, op.on_points (on.Iup axis.Y)) ∷
    (0x31, op.on_points (on.Iup axis.X)) ∷
    (0x32, op.on_points (on.InTurn (turn.Shp by.Rp2))) ∷
    (0x33, op.on_points (on.InTurn (turn.Shp by.Rp1))) ∷
    (0x34, op.on_points (on.OnRange (ranged.Shc by.Rp2))) ∷
    (0x35, op.on_points (on.OnRange (ranged.Shc by.Rp1))) ∷
    (0x36, op.on_points (on.OnRange (ranged.Shz by.Rp2))) ∷
    (0x37, op.on_points (on.OnRange (ranged.Shz by.Rp1))) ∷
    (0x38, op.on_points (on.InTurn turn.Shpix)) ∷
    (0x39, op.on_points (on.InTurn turn.Ip)) ∷
    (0x3A, op.on_points (on.OnOne (single.Msirp false))) ∷
    (0x3B, op.on_points (on.OnOne (single.Msirp true))) ∷
    (0x3C, op.on_points (on.InTurn turn.Alignrp)) ∷
    (0x3D, op.set_state (setting.RoundTo round.Double)) ∷
    (0x3E, op.on_points (on.OnOne (single.Miap false))) ∷
    (0x3F, op.on_points (on.OnOne (single.Miap true))) ∷
    []

-- 0x40 to 0x5F
abbrev pub opcodes_40 : List (ℕ × Operation)
opcodes_40 =
    (0x42, op.access_values places.Ws) ∷
    (0x43, op.access_values places.Rs) ∷
    (0x44, op.access_values places.Wcvtp) ∷
    (0x45, op.access_values places.Rcvt) ∷
    (0x46, op.on_points (on.Measuring (measure.Gc position.Current))) ∷
    (0x47, op.on_points (on.Measuring (measure.Gc position.Original))) ∷
    (0x48, op.on_points (on.OnOne single.Scfs)) ∷
    (0x49, op.on_points (on.Measuring (measure.Md position.Current))) ∷
    (0x4A, op.on_points (on.Measuring (measure.Md position.Original))) ∷
    (0x4B, op.answer query.Mppem) ∷
    (0x4C, op.answer query.Mps) ∷
    (0x4D, op.set_state (setting.Flip true)) ∷
    (0x4E, op.set_state (setting.Flip false)) ∷
    (0x50, op.evaluate logic.Lt) ∷
    (0x51, op.evaluate logic.Lteq) ∷
    (0x52, op.evaluate logic.Gt) ∷
    (0x53, op.evaluate logic.Gteq) ∷
    (0x54, op.evaluate logic.Eq) ∷
    (0x55, op.evaluate logic.Neq) ∷
    (0x56, op.evaluate logic.Odd) ∷
    (0x57, op.evaluate logic.Even) ∷
    (0x58, op.if_from) ∷
    (0x59, op.eif) ∷
    (0x5A, op.evaluate logic.And) ∷
    (0x5B, op.evaluate logic.Or) ∷
    (0x5C, op.evaluate logic.Not) ∷
    (0x5D, op.on_points (on.Deltap ranges.First)) ∷
    (0x5E, op.set_state setting.Sdb) ∷
    (0x5F, op.set_state setting.Sds) ∷
    []

-- 0x60 to 0x7F
abbrev pub opcodes_60 : List (ℕ × Operation)
opcodes_60 =
    (0x60, op.compute arithmetic.Add) ∷
    (0x61, op.compute arithmetic.Sub) ∷
    (0x62, op.compute arithmetic.Div) ∷
    (0x63, op.compute arithmetic.Mul) ∷
    (0x64, op.compute arithmetic.Abs) ∷
    (0x65, op.compute arithmetic.Neg) ∷
    (0x66, op.compute arithmetic.Floor) ∷
    (0x67, op.compute arithmetic.Ceiling) ∷
    (0x68, op.compute arithmetic.Round) ∷
    (0x69, op.compute arithmetic.Round) ∷
    (0x6A, op.compute arithmetic.Round) ∷
    (0x6B, op.compute arithmetic.Round) ∷
    (0x6C, op.compute arithmetic.Nround) ∷
    (0x6D, op.compute arithmetic.Nround) ∷
    (0x6E, op.compute arithmetic.Nround) ∷
    (0x6F, op.compute arithmetic.Nround) ∷
    (0x70, op.access_values places.Wcvtf) ∷
    (0x71, op.on_points (on.Deltap ranges.Second)) ∷
    (0x72, op.on_points (on.Deltap ranges.Third)) ∷
    (0x73, op.on_points (on.Deltac ranges.First)) ∷
    (0x74, op.on_points (on.Deltac ranges.Second)) ∷
    (0x75, op.on_points (on.Deltac ranges.Third)) ∷
    (0x76, op.set_state setting.Sround) ∷
    (0x78, op.jrot) ∷
    (0x79, op.jrof) ∷
    (0x7A, op.set_state (setting.RoundTo round.Off)) ∷
    (0x7C, op.set_state (setting.RoundTo round.Up)) ∷
    (0x7D, op.set_state (setting.RoundTo round.Down)) ∷
    (0x7E, op.set_state setting.Ignored) ∷
    (0x7F, op.set_state setting.Ignored) ∷
    []

-- 0x80 to 0xBF
abbrev pub opcodes_80 : List (ℕ × Operation)
opcodes_80 =
    (0x80, op.on_points (on.InTurn turn.Flippt)) ∷
    (0x81, op.on_points (on.OnRange (ranged.Flip true))) ∷
    (0x82, op.on_points (on.OnRange (ranged.Flip false))) ∷
    (0x85, op.set_state setting.Scanctrl) ∷
    (0x88, op.answer query.Getinfo) ∷
    (0x8A, op.manage managing.Roll) ∷
    (0x8B, op.compute arithmetic.Max) ∷
    (0x8C, op.compute arithmetic.Min) ∷
    (0x8D, op.set_state setting.Scantype) ∷
    (0x8E, op.instctrl) ∷
    []

-- whether an opcode has the bit with this value
abbrev pub has_bit : ℕ → ℕ → Bool
has_bit opcode bit = opcode / bit % 2 == 1

-- the options in the bits of an MDRP or MIRP opcode
abbrev pub keeping_of : ℕ → Keeping
keeping_of opcode =
    record { set_rp0 = has_bit opcode 16; minimum_distance = has_bit opcode 8; round = has_bit opcode 4 }

-- MDRP from 0xC0, MIRP from 0xE0. No table has the opcodes that push data.
abbrev pub operation_of : ℕ → Operation
operation_of opcode =
    if nat_lt opcode 0x20 then named opcode opcodes_00 else (
    if nat_lt opcode 0x40 then named opcode opcodes_20 else (
    if nat_lt opcode 0x60 then named opcode opcodes_40 else (
    if nat_lt opcode 0x80 then named opcode opcodes_60 else (
    if nat_lt opcode 0xC0 then named opcode opcodes_80 else (
    if nat_lt opcode 0xE0 then op.on_points (on.OnOne (single.Mdrp (keeping_of opcode)))
    else op.on_points (on.OnOne (single.Mirp (keeping_of opcode))))))))

-- worked values: n opcodes from one on
abbrev from : ℕ → ℕ → List ℕ
from opcode zero = []
from opcode (suc n) = opcode ∷ from (suc opcode) n

-- those without data whose instruction passes a test
abbrev those : (Operation → Bool) → List ℕ → List ℕ
those test [] = []
those test (opcode ∷ opcodes) =
    if takes_data opcode then those test opcodes else (
    if test (operation_of opcode) then opcode ∷ those test opcodes else those test opcodes)

abbrev is_unnamed : Operation → Bool
is_unnamed (op.unnamed n) = true
is_unnamed _ = false

abbrev is_beyond : Operation → Bool
is_beyond (op.beyond o) = true
is_beyond _ = false

-- every opcode without an instruction: one missing in a table would be listed here
no_instruction : those is_unnamed (from 0 256) ≡ 0x28 ∷ 0x7B ∷ 0x83 ∷ 0x84 ∷ 0x8F ∷ 0x90 ∷ from 0x93 29
no_instruction = refl

-- SPVTL, SFVTL, ISECT, ALIGNPTS, DEBUG, S45ROUND, SDPVTL and IDEF: every opcode beyond the profile
beyond_the_profile : those is_beyond (from 0 256)
    ≡ 0x06 ∷ 0x07 ∷ 0x08 ∷ 0x09 ∷ 0x0F ∷ 0x27 ∷ 0x4F ∷ 0x77 ∷ 0x86 ∷ 0x87 ∷ 0x89 ∷ []
beyond_the_profile = refl

-- beyond the profile
spvtl_turned : operation_of 0x07 ≡ op.beyond (op.on_points (on.OnLines (line.Spvtl true)))
spvtl_turned = refl

sfvtl : operation_of 0x08 ≡ op.beyond (op.on_points (on.OnLines (line.Sfvtl false)))
sfvtl = refl

isect : operation_of 0x0F ≡ op.beyond (op.on_points (on.OnLines line.Isect))
isect = refl

alignpts : operation_of 0x27 ≡ op.beyond (op.on_points (on.OnLines line.Alignpts))
alignpts = refl

debug : operation_of 0x4F ≡ op.beyond (op.set_state setting.Ignored)
debug = refl

s45round : operation_of 0x77 ≡ op.beyond (op.set_state setting.S45round)
s45round = refl

sdpvtl_turned : operation_of 0x87 ≡ op.beyond (op.on_points (on.OnLines (line.Sdpvtl true)))
sdpvtl_turned = refl

idef : operation_of 0x89 ≡ op.beyond op.idef
idef = refl

getvariation : operation_of 0x91 ≡ op.read_instance variation.Getvariation 0x91
getvariation = refl

getdata : operation_of 0x92 ≡ op.read_instance variation.Getdata 0x92
getdata = refl

-- on the stack and on settings
svtca_x : operation_of 0x01 ≡ op.access_vectors (vectors.Svtca axis.X)
svtca_x = refl

rthg : operation_of 0x19 ≡ op.set_state (setting.RoundTo round.Half)
rthg = refl

mindex : operation_of 0x26 ≡ op.manage managing.Mindex
mindex = refl

flipoff : operation_of 0x4E ≡ op.set_state (setting.Flip false)
flipoff = refl

floor : operation_of 0x66 ≡ op.compute arithmetic.Floor
floor = refl

-- on points
utp : operation_of 0x29 ≡ op.on_points (on.OnOne single.Utp)
utp = refl

mdap_rounded : operation_of 0x2F ≡ op.on_points (on.OnOne (single.Mdap true))
mdap_rounded = refl

iup_y : operation_of 0x30 ≡ op.on_points (on.Iup axis.Y)
iup_y = refl

iup_x : operation_of 0x31 ≡ op.on_points (on.Iup axis.X)
iup_x = refl

shp_by_2 : operation_of 0x32 ≡ op.on_points (on.InTurn (turn.Shp by.Rp2))
shp_by_2 = refl

shp_by_1 : operation_of 0x33 ≡ op.on_points (on.InTurn (turn.Shp by.Rp1))
shp_by_1 = refl

shc_by_1 : operation_of 0x35 ≡ op.on_points (on.OnRange (ranged.Shc by.Rp1))
shc_by_1 = refl

shz_by_2 : operation_of 0x36 ≡ op.on_points (on.OnRange (ranged.Shz by.Rp2))
shz_by_2 = refl

shpix : operation_of 0x38 ≡ op.on_points (on.InTurn turn.Shpix)
shpix = refl

ip : operation_of 0x39 ≡ op.on_points (on.InTurn turn.Ip)
ip = refl

msirp_and_rp0 : operation_of 0x3B ≡ op.on_points (on.OnOne (single.Msirp true))
msirp_and_rp0 = refl

alignrp : operation_of 0x3C ≡ op.on_points (on.InTurn turn.Alignrp)
alignrp = refl

miap : operation_of 0x3E ≡ op.on_points (on.OnOne (single.Miap false))
miap = refl

gc_original : operation_of 0x47 ≡ op.on_points (on.Measuring (measure.Gc position.Original))
gc_original = refl

scfs : operation_of 0x48 ≡ op.on_points (on.OnOne single.Scfs)
scfs = refl

-- 0x49 measures current places, and 0x4A original ones, as rasterizers do (profile)
md_current : operation_of 0x49 ≡ op.on_points (on.Measuring (measure.Md position.Current))
md_current = refl

md_original : operation_of 0x4A ≡ op.on_points (on.Measuring (measure.Md position.Original))
md_original = refl

deltap1 : operation_of 0x5D ≡ op.on_points (on.Deltap ranges.First)
deltap1 = refl

deltap3 : operation_of 0x72 ≡ op.on_points (on.Deltap ranges.Third)
deltap3 = refl

deltac2 : operation_of 0x74 ≡ op.on_points (on.Deltac ranges.Second)
deltac2 = refl

flippt : operation_of 0x80 ≡ op.on_points (on.InTurn turn.Flippt)
flippt = refl

fliprgon : operation_of 0x81 ≡ op.on_points (on.OnRange (ranged.Flip true))
fliprgon = refl

fliprgoff : operation_of 0x82 ≡ op.on_points (on.OnRange (ranged.Flip false))
fliprgoff = refl

mdrp_alone : operation_of 0xC3 ≡ op.on_points (on.OnOne (single.Mdrp (keeping false false false)))
mdrp_alone = refl

mdrp_rounded : operation_of 0xC4 ≡ op.on_points (on.OnOne (single.Mdrp (keeping false false true)))
mdrp_rounded = refl

mdrp_spaced : operation_of 0xC8 ≡ op.on_points (on.OnOne (single.Mdrp (keeping false true false)))
mdrp_spaced = refl

mdrp_and_rp0 : operation_of 0xD0 ≡ op.on_points (on.OnOne (single.Mdrp (keeping true false false)))
mdrp_and_rp0 = refl

mirp_alone : operation_of 0xE0 ≡ op.on_points (on.OnOne (single.Mirp (keeping false false false)))
mirp_alone = refl

mirp_with_all : operation_of 0xFD ≡ op.on_points (on.OnOne (single.Mirp (keeping true true true)))
mirp_with_all = refl
