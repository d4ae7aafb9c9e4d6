-- Worked work: that of steps, and the things copied for a run. No part of the standard (profile).
use Rattle.std.specs.Prelude.{◌≡◌, ℕ, ℤ, pos, negsuc, false, List, [], ◌∷◌, map, replicate, codes, refl}
use Rattle.tt_core.specs.Scales.{exact_scale}
use Rattle.tt_core.specs.declared.halves.Halves.TheVariants as halves
use Rattle.tt_exec_step.specs.zones.Zones.{in_pixels}
use Rattle.tt_state.specs.GraphicsState.{default_state}
use Rattle.tt_state.specs.declared.point.Point.{Point}
use Rattle.tt_state.specs.declared.tolerance.Tolerance.TheVariants as tolerance
use Rattle.tt_exec.specs.Machines.{fresh, run_from}
use Rattle.tt_exec_step.specs.MachineState.{Body, MachineState, no_code}
use Rattle.tt_exec.specs.Parts.{Parts}
use Rattle.tt_exec.specs.Work.{copied, slowness, step_cost}

a_point : Point
a_point = record { units_x = pos 0; units_y = pos 0; org_x = pos 0; org_y = pos 0; x = pos 0; y = pos 0; touched_x = false; touched_y = false; on = false }

-- parts with these counts of twilight points and of points of the glyph, with four storage places, and with these
-- functions and instructions
abbrev with_counts : ℕ → ℕ → List (ℕ × Body) → List (ℕ × Body) → Parts
with_counts twilight glyph functions instructions = record {
  scale = exact_scale 16 1024;
  ppem = 16;
  cvt = [];
  storage = replicate 4 (pos 0);
  zones =
      record {
        twilight = replicate twilight a_point;
        glyph = replicate glyph a_point;
        contours = [];
        originals = in_pixels halves.Up;
      };
  functions = functions;
  instructions = instructions;
  state = default_state;
  instance = [];
  tolerance = tolerance.Strict;
  skip_glyphs = false;
  default_state = false;
}

-- a glyph's program of one opcode at its beginning, with these counts of points
abbrev before : ℕ → ℕ → ℕ → MachineState
before op twilight glyph =
    run_from (record { table = codes "glyf"; base = 0; bytes = op ∷ [] }) (fresh (with_counts twilight glyph [] []))

abbrev points_cost : ℕ → ℕ → ℕ → ℕ
points_cost op twilight glyph = step_cost (before op twilight glyph)

-- the work of an opcode with a loop variable and these stack entries
abbrev looped_cost : ℕ → ℕ → List ℤ → ℕ
looped_cost op loops stack =
    step_cost (record (before op 3 5) { stack = stack; graphics = record default_state { loops = loops } })

-- the works of opcodes with three twilight points, five points of the glyph and an empty stack
abbrev costs_of : List ℕ → List ℕ
costs_of opcodes = map (λ op. points_cost op 3 5) opcodes

-- SHC and SHZ: each point of either zone is 4
zones_shifted : costs_of (0x34 ∷ 0x35 ∷ 0x36 ∷ 0x37 ∷ []) ≡ 33 ∷ 33 ∷ 33 ∷ 33 ∷ []
zones_shifted = refl

no_points_shifted : points_cost 0x36 0 0 ≡ 1
no_points_shifted = refl

twilight_points_shifted : points_cost 0x34 3 0 ≡ 13
twilight_points_shifted = refl

-- IUP: each point of the glyph is 2, and no twilight point counts
five_interpolated : costs_of (0x30 ∷ 0x31 ∷ []) ≡ 11 ∷ 11 ∷ []
five_interpolated = refl

none_interpolated : points_cost 0x30 3 0 ≡ 1
none_interpolated = refl

-- FLIPRGON and FLIPRGOFF: each point of the glyph is 1
five_flipped : costs_of (0x81 ∷ 0x82 ∷ []) ≡ 6 ∷ 6 ∷ []
five_flipped = refl

none_flipped : points_cost 0x81 3 0 ≡ 1
none_flipped = refl

-- IP: each point on the stack is 4, and so are the reference points together
one_between : looped_cost 0x39 1 (pos 0 ∷ pos 1 ∷ []) ≡ 9
one_between = refl

two_of_three_between : looped_cost 0x39 3 (pos 0 ∷ pos 1 ∷ []) ≡ 13
two_of_three_between = refl

none_between : looped_cost 0x39 3 [] ≡ 5
none_between = refl

-- SHP, SHPIX, ALIGNRP and FLIPPT: each point on the stack is 4
two_of_three_on_the_stack : map (λ op. looped_cost op 3 (pos 0 ∷ pos 1 ∷ [])) (0x32 ∷ 0x38 ∷ 0x3C ∷ 0x80 ∷ [])
    ≡ 9 ∷ 9 ∷ 9 ∷ 9 ∷ []
two_of_three_on_the_stack = refl

none_on_the_stack : looped_cost 0x32 1 [] ≡ 1
none_on_the_stack = refl

-- RCVT; GC twice; SCFS; MD twice; MPPEM
points_measured : costs_of (0x45 ∷ 0x46 ∷ 0x47 ∷ 0x48 ∷ 0x49 ∷ 0x4A ∷ 0x4B ∷ []) ≡ 2 ∷ 3 ∷ 3 ∷ 5 ∷ 4 ∷ 4 ∷ 2 ∷ []
unfolding slowness
points_measured = refl

-- CEILING; ROUND and NROUND, first and last; WCVTF; SROUND, S45ROUND
values_rounded : costs_of (0x67 ∷ 0x68 ∷ 0x6B ∷ 0x6C ∷ 0x6F ∷ 0x70 ∷ 0x76 ∷ 0x77 ∷ [])
    ≡ 2 ∷ 2 ∷ 2 ∷ 2 ∷ 2 ∷ 2 ∷ 2 ∷ 2 ∷ []
unfolding slowness
values_rounded = refl

-- JMPR; JROT, JROF; ROFF
jumps : costs_of (0x1C ∷ 0x78 ∷ 0x79 ∷ 0x7A ∷ []) ≡ 2 ∷ 1 ∷ 2 ∷ 2 ∷ []
unfolding slowness
jumps = refl

-- SSWCI, SSW, DUP
single_width_set : costs_of (0x1E ∷ 0x1F ∷ 0x20 ∷ []) ≡ 2 ∷ 2 ∷ 1 ∷ []
unfolding slowness
single_width_set = refl

-- FLIPOFF, DEBUG, LT
debug_ignored : costs_of (0x4E ∷ 0x4F ∷ 0x50 ∷ []) ≡ 2 ∷ 2 ∷ 2 ∷ []
unfolding slowness
debug_ignored = refl

-- PUSHB of one, four, five and eight values; PUSHW likewise
values_pushed : costs_of (0xB0 ∷ 0xB3 ∷ 0xB4 ∷ 0xB7 ∷ 0xB8 ∷ 0xBB ∷ 0xBC ∷ 0xBF ∷ [])
    ≡ 1 ∷ 4 ∷ 5 ∷ 8 ∷ 1 ∷ 4 ∷ 5 ∷ 8 ∷ []
unfolding slowness
values_pushed = refl

-- MDRP, first and last; MIRP, first and last
distances_set : costs_of (0xC0 ∷ 0xDF ∷ 0xE0 ∷ 0xFF ∷ []) ≡ 8 ∷ 8 ∷ 5 ∷ 5 ∷ []
distances_set = refl

-- MDAP, MSIRP and MIAP, each twice; SCFS
one_point_moved : costs_of (0x2E ∷ 0x2F ∷ 0x3A ∷ 0x3B ∷ 0x3E ∷ 0x3F ∷ 0x48 ∷ [])
    ≡ 5 ∷ 5 ∷ 5 ∷ 5 ∷ 5 ∷ 5 ∷ 5 ∷ []
one_point_moved = refl

-- SCANCTRL; SDPVTL twice; GETINFO; ROLL; MAX
two_vectors_found : costs_of (0x85 ∷ 0x86 ∷ 0x87 ∷ 0x88 ∷ 0x8A ∷ 0x8B ∷ []) ≡ 2 ∷ 49 ∷ 49 ∷ 2 ∷ 2 ∷ 2 ∷ []
unfolding slowness
two_vectors_found = refl

-- SVTCA; SPVTL, first; SFVFS; GPV; SFVTPV; ISECT; SRP0
one_vector_found : costs_of (0x00 ∷ 0x06 ∷ 0x0B ∷ 0x0C ∷ 0x0E ∷ 0x0F ∷ 0x10 ∷ []) ≡ 1 ∷ 33 ∷ 33 ∷ 2 ∷ 1 ∷ 33 ∷ 2 ∷ []
unfolding slowness
one_vector_found = refl

-- ALIGNPTS
two_points_moved : points_cost 0x27 3 5 ≡ 9
two_points_moved = refl

-- GETVARIATION, GETDATA and an opcode without a name, without an instance
without_an_instance : costs_of (0x91 ∷ 0x92 ∷ 0x93 ∷ []) ≡ 2 ∷ 2 ∷ 2 ∷ []
unfolding slowness
without_an_instance = refl

-- the work of an opcode at an instance on these axes
abbrev cost_at : ℕ → List ℤ → ℕ
cost_at op instance = step_cost (record (before op 3 5) { instance = instance })

-- GETVARIATION, as NPUSHB: each number pushed is 1
axes_pushed : map (cost_at 0x91) ((pos 8192 ∷ []) ∷ (pos 8192 ∷ negsuc 13107 ∷ pos 0 ∷ []) ∷ []) ≡ 2 ∷ 4 ∷ []
axes_pushed = refl

one_pushed : cost_at 0x92 (pos 8192 ∷ negsuc 13107 ∷ pos 0 ∷ []) ≡ 2
unfolding slowness
one_pushed = refl

-- SWAP, DEPTH; CALL, ENDF; EIF
calls_and_stack : costs_of (0x23 ∷ 0x24 ∷ 0x2B ∷ 0x2D ∷ 0x59 ∷ []) ≡ 1 ∷ 2 ∷ 2 ∷ 2 ∷ 1 ∷ []
unfolding slowness
calls_and_stack = refl

-- ADD, SUB, DIV, MUL, ABS
numbers_reckoned : costs_of (0x60 ∷ 0x61 ∷ 0x62 ∷ 0x63 ∷ 0x64 ∷ []) ≡ 2 ∷ 1 ∷ 3 ∷ 2 ∷ 2 ∷ []
unfolding slowness
numbers_reckoned = refl

-- the work of an opcode with these stack entries, the top one first
abbrev counted_cost : ℕ → List ℤ → ℕ
counted_cost op stack = step_cost (record (before op 3 5) { stack = stack })

-- DELTAP1, DELTAC1 and MINDEX: each pair or entry is 2, whatever the sign of the count
two_counted : map (λ op. counted_cost op (pos 2 ∷ pos 0 ∷ pos 0 ∷ pos 0 ∷ [])) (0x5D ∷ 0x73 ∷ 0x26 ∷ []) ≡ 5 ∷ 5 ∷ 5 ∷ []
two_counted = refl

counted_below_0 : counted_cost 0x5D (negsuc 1 ∷ pos 0 ∷ pos 0 ∷ []) ≡ 5
counted_below_0 = refl

-- no more than the stack has
one_counted : counted_cost 0x5D (pos 9 ∷ []) ≡ 3
one_counted = refl

none_counted : map (λ stack. counted_cost 0x5D stack) ((pos 0 ∷ pos 4 ∷ []) ∷ [] ∷ []) ≡ 1 ∷ 1 ∷ []
none_counted = refl

-- what is copied with four twilight points, and with functions and instructions of these numbers
a_body : Body
a_body = record { code = no_code; start = 0 }

abbrev numbered : List ℕ → List (ℕ × Body)
numbered numbers = map (λ n. (n, a_body)) numbers

abbrev copies_of : List ℕ → List ℕ → ℕ
copies_of functions instructions = copied (fresh (with_counts 4 5 (numbered functions) (numbered instructions)))

no_functions_copied : copies_of [] [] ≡ 8
no_functions_copied = refl

-- one body and one place
function_0_copied : copies_of (0 ∷ []) [] ≡ 10
function_0_copied = refl

-- one body and 65,536 places
function_65535_copied : copies_of (65535 ∷ []) [] ≡ 65545
function_65535_copied = refl

-- three bodies and 65,536 places
three_functions_copied : copies_of (0 ∷ 7 ∷ 65535 ∷ []) [] ≡ 65547
three_functions_copied = refl

-- two bodies and 176 places
two_instructions_copied : copies_of [] (0x28 ∷ 0xAF ∷ []) ≡ 186
two_instructions_copied = refl
