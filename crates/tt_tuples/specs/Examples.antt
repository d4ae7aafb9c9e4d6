-- Worked values of whole tuples. A glyph has four points and four phantom points; cvar has three control values. The
-- font has one axis, and the instance is at its end, where the only shared tuple has its peak.
use Rattle.std.specs.Prelude.{◌≡◌, refl, ℕ, ℤ, pos, negsuc, List, [], ◌∷◌, map, codes, Ok, Err}
use Rattle.tt_core.specs.declared.fault.Why.TheVariants as why
use Rattle.tt_core.specs.Faults.{Fault, fault_at}
use Rattle.tt_axes.specs.Shares.{share_of_tuple_axis}
use Rattle.tt_tuples.specs.declared.source.TupleTable.TheVariants as table
use Rattle.tt_tuples.specs.Bytes.{byte_in, glyph_at_100, gvar_fault, signed_in, slice_in, word_in}
use Rattle.tt_tuples.specs.Deltas.{deltas_from, next_delta, delta_run_at}
use Rattle.tt_tuples.specs.Headers.{header_at, tuple_count, tuple_header_at, peak_at, sides_at}
use Rattle.tt_tuples.specs.PointNumbers.{TuplePoints, all_points, listed, points_at, listed_at, count_at, numbers_from, next_number, number_run_at}
use Rattle.tt_tuples.specs.Regions.{share_after}
use Rattle.tt_tuples.specs.Sources.{Source, Tuple}
use Rattle.tt_tuples.specs.Tuples.{tuples_of, tuples_from, tuple_at, shared_points_of}

abbrev glyph_at : ℤ → List ℕ → Source
glyph_at c bytes =
    record { store = glyph_at_100 bytes; shared = 0x40 ∷ 0 ∷ []; coordinates = c ∷ []; points = 8 }

abbrev glyph : List ℕ → Source
glyph bytes = glyph_at (pos 65536) bytes

abbrev cvar : List ℕ → Source
cvar bytes =
    record {
      store = record { table = table.Cvar; start = 0; bytes = bytes };
      shared = 0x40 ∷ 0 ∷ [];
      coordinates = pos 65536 ∷ [];
      points = 3;
    }

abbrev cvar_fault : ℕ → Fault
cvar_fault offset = fault_at (codes "cvar") offset why.GlyphVariation

abbrev tuple : ℕ → TuplePoints → List ℤ → List ℤ → Tuple
tuple share points xs ys = record { share = share; points = points; xs = xs; ys = ys }

-- deltas of all eight points: those of the right side are the same
abbrev right_side : ℕ → List ℤ
right_side d = pos 0 ∷ pos 0 ∷ pos d ∷ pos d ∷ pos 0 ∷ pos 0 ∷ pos 0 ∷ pos 0 ∷ []

abbrev still : List ℤ
still = right_side 0

-- all points; two points; all points, with a shared tuple and a count past twelve bits
points_of_its_own : map (λ b. tuples_of (glyph b))
    ((0 ∷ 1 ∷ 0 ∷ 0x0A ∷ 0 ∷ 7 ∷ 0xA0 ∷ 0 ∷ 0x40 ∷ 0 ∷ 0 ∷ 0x81 ∷ 1 ∷ 0x40 ∷ 0x40 ∷ 0x83 ∷ 0x87 ∷ 0 ∷ [])
    ∷ (0 ∷ 1 ∷ 0 ∷ 0x0A ∷ 0 ∷ 8 ∷ 0xA0 ∷ 0 ∷ 0x40 ∷ 0 ∷ 2 ∷ 1 ∷ 2 ∷ 1 ∷ 1 ∷ 0x40 ∷ 0x40 ∷ 0x81 ∷ [])
    ∷ (0x70 ∷ 1 ∷ 0 ∷ 8 ∷ 0 ∷ 7 ∷ 0x20 ∷ 0 ∷ 0 ∷ 0x81 ∷ 1 ∷ 0x40 ∷ 0x40 ∷ 0x83 ∷ 0x87 ∷ []) ∷ [])
    ≡ Ok (tuple 65536 all_points (right_side 64) still ∷ [])
    ∷ Ok (tuple 65536 (listed (2 ∷ 3 ∷ [])) (pos 64 ∷ pos 64 ∷ []) (pos 0 ∷ pos 0 ∷ []) ∷ [])
    ∷ Ok (tuple 65536 all_points (right_side 64) still ∷ []) ∷ []
unfolding tuples_of tuples_from tuple_at tuple_header_at header_at shared_points_of peak_at sides_at points_at
    listed_at count_at numbers_from next_number number_run_at deltas_from next_delta delta_run_at byte_in word_in
    signed_in slice_in share_after share_of_tuple_axis
points_of_its_own = refl

-- two shared points; all points shared; points of its own beside shared ones; neither is no points
shared_points : map (λ b. tuples_of (glyph b))
    ((0x80 ∷ 1 ∷ 0 ∷ 0x0A ∷ 0 ∷ 4 ∷ 0x80 ∷ 0 ∷ 0x40 ∷ 0 ∷ 2 ∷ 1 ∷ 2 ∷ 1 ∷ 1 ∷ 0x40 ∷ 0x40 ∷ 0x81 ∷ [])
    ∷ (0x80 ∷ 1 ∷ 0 ∷ 0x0A ∷ 0 ∷ 6 ∷ 0x80 ∷ 0 ∷ 0x40 ∷ 0 ∷ 0 ∷ 0x81 ∷ 1 ∷ 0x40 ∷ 0x40 ∷ 0x83 ∷ 0x87 ∷ 0 ∷ [])
    ∷ (0x80 ∷ 1 ∷ 0 ∷ 0x0A ∷ 0 ∷ 0x0C ∷ 0xA0 ∷ 0 ∷ 0x40 ∷ 0 ∷ 1 ∷ 0 ∷ 2 ∷ 4 ∷ 3 ∷ 0 ∷ 1 ∷ 1 ∷ 1 ∷ 3 ∷ 0x40 ∷ 0x40 ∷
    0x20 ∷ 0x20 ∷ 0x83 ∷ 0 ∷ [])
    ∷ (0 ∷ 1 ∷ 0 ∷ 0x0A ∷ 0 ∷ 6 ∷ 0x80 ∷ 0 ∷ 0x40 ∷ 0 ∷ 0x81 ∷ 1 ∷ 0x40 ∷ 0x40 ∷ 0x83 ∷ 0x87 ∷ []) ∷ [])
    ≡ Ok (tuple 65536 (listed (2 ∷ 3 ∷ [])) (pos 64 ∷ pos 64 ∷ []) (pos 0 ∷ pos 0 ∷ []) ∷ [])
    ∷ Ok (tuple 65536 all_points (right_side 64) still ∷ [])
    ∷ Ok (tuple 65536 (listed (0 ∷ 1 ∷ 2 ∷ 3 ∷ [])) (pos 64 ∷ pos 64 ∷ pos 32 ∷ pos 32 ∷ []) (pos 0 ∷ pos 0 ∷
    pos 0 ∷ pos 0 ∷ []) ∷ [])
    ∷ Ok (tuple 65536 (listed []) [] [] ∷ []) ∷ []
unfolding tuples_of tuples_from tuple_at tuple_header_at header_at shared_points_of peak_at sides_at points_at
    listed_at count_at numbers_from next_number number_run_at deltas_from next_delta delta_run_at byte_in word_in
    signed_in slice_in share_after share_of_tuple_axis
shared_points = refl

-- data after each other; both at one place, where the first size is 0; a tuple that does not hold is not read
two_tuples : map (λ b. tuples_of (glyph b))
    ((0 ∷ 2 ∷ 0 ∷ 0x10 ∷ 0 ∷ 7 ∷ 0xA0 ∷ 0 ∷ 0x40 ∷ 0 ∷ 0 ∷ 0x0B ∷ 0xA0 ∷ 0 ∷ 0x40 ∷ 0 ∷ 0 ∷ 0x81 ∷ 1 ∷ 0x30 ∷
    0x30 ∷ 0x83 ∷ 0x87 ∷ 0 ∷ 0x81 ∷ 1 ∷ 0x10 ∷ 0x10 ∷ 0x83 ∷ 0x80 ∷ 1 ∷ 0x20 ∷ 0x20 ∷ 0x84 ∷ [])
    ∷ (0 ∷ 2 ∷ 0 ∷ 0x10 ∷ 0 ∷ 0 ∷ 0xA0 ∷ 0 ∷ 0x40 ∷ 0 ∷ 0 ∷ 7 ∷ 0xA0 ∷ 0 ∷ 0x40 ∷ 0 ∷ 0 ∷ 0x81 ∷ 1 ∷ 0x20 ∷ 0x20 ∷
    0x83 ∷ 0x87 ∷ 0 ∷ 0x81 ∷ 1 ∷ 0x20 ∷ 0x20 ∷ 0x83 ∷ 0x87 ∷ [])
    ∷ (0 ∷ 2 ∷ 0 ∷ 0x10 ∷ 0 ∷ 2 ∷ 0xA0 ∷ 0 ∷ 0xC0 ∷ 0 ∷ 0 ∷ 7 ∷ 0xA0 ∷ 0 ∷ 0x40 ∷ 0 ∷ 0 ∷ 0x7F ∷ 0 ∷ 0x81 ∷ 1 ∷
    0x40 ∷ 0x40 ∷ 0x83 ∷ 0x87 ∷ 0 ∷ []) ∷ [])
    ≡ Ok (tuple 65536 all_points (right_side 48) still ∷ tuple 65536 all_points (right_side 16) (pos 0 ∷ pos 32 ∷
    pos 32 ∷ pos 0 ∷ pos 0 ∷ pos 0 ∷ pos 0 ∷ pos 0 ∷ []) ∷ [])
    ∷ Ok (tuple 65536 all_points (right_side 32) still ∷ tuple 65536 all_points (right_side 32) still ∷ [])
    ∷ Ok (tuple 65536 all_points (right_side 64) still ∷ []) ∷ []
unfolding tuples_of tuples_from tuple_at tuple_header_at header_at shared_points_of peak_at sides_at points_at
    listed_at count_at numbers_from next_number number_run_at deltas_from next_delta delta_run_at byte_in word_in
    signed_in slice_in share_after share_of_tuple_axis
two_tuples = refl

-- a region of its own, from 1/4 to 3/4: at its start, inside, and at its peak
regions : map (λ c. tuples_of (glyph_at c
    (0 ∷ 1 ∷ 0 ∷ 0x0E ∷ 0 ∷ 7 ∷ 0xE0 ∷ 0 ∷ 0x20 ∷ 0 ∷ 0x10 ∷ 0 ∷ 0x30 ∷ 0 ∷ 0 ∷ 0x81 ∷ 1 ∷ 0x40 ∷ 0x40 ∷ 0x83 ∷
    0x87 ∷ 0 ∷ [])))
    (pos 16384 ∷ pos 22938 ∷ pos 32768 ∷ [])
    ≡ Ok []
    ∷ Ok (tuple 26216 all_points (right_side 64) still ∷ [])
    ∷ Ok (tuple 65536 all_points (right_side 64) still ∷ []) ∷ []
unfolding tuples_of tuples_from tuple_at tuple_header_at header_at shared_points_of peak_at sides_at points_at
    listed_at count_at numbers_from next_number number_run_at deltas_from next_delta delta_run_at byte_in word_in
    signed_in slice_in share_after share_of_tuple_axis
regions = refl

-- all control values; a shared one; a shared tuple of gvar; one that is not there
control_values : map (λ b. tuples_of (cvar b))
    ((0 ∷ 1 ∷ 0 ∷ 0 ∷ 0 ∷ 1 ∷ 0 ∷ 0x0E ∷ 0 ∷ 5 ∷ 0xA0 ∷ 0 ∷ 0x40 ∷ 0 ∷ 0 ∷ 1 ∷ 0xC0 ∷ 0x32 ∷ 0x80 ∷ [])
    ∷ (0 ∷ 1 ∷ 0 ∷ 0 ∷ 0x80 ∷ 1 ∷ 0 ∷ 0x0E ∷ 0 ∷ 2 ∷ 0x80 ∷ 0 ∷ 0x40 ∷ 0 ∷ 1 ∷ 0 ∷ 1 ∷ 0 ∷ 0x40 ∷ [])
    ∷ (0 ∷ 1 ∷ 0 ∷ 0 ∷ 0 ∷ 1 ∷ 0 ∷ 0x0C ∷ 0 ∷ 5 ∷ 0x20 ∷ 0 ∷ 0 ∷ 1 ∷ 0xC0 ∷ 0x32 ∷ 0x80 ∷ [])
    ∷ (0 ∷ 1 ∷ 0 ∷ 0 ∷ 0 ∷ 1 ∷ 0 ∷ 0x0C ∷ 0 ∷ 5 ∷ 0x20 ∷ 5 ∷ 0 ∷ 1 ∷ 0xC0 ∷ 0x32 ∷ 0x80 ∷ []) ∷ [])
    ≡ Ok (tuple 65536 all_points (negsuc 63 ∷ pos 50 ∷ pos 0 ∷ []) [] ∷ [])
    ∷ Ok (tuple 65536 (listed (1 ∷ [])) (pos 64 ∷ []) [] ∷ [])
    ∷ Ok (tuple 65536 all_points (negsuc 63 ∷ pos 50 ∷ pos 0 ∷ []) [] ∷ [])
    ∷ Err (cvar_fault 10) ∷ []
unfolding tuples_of tuples_from tuple_at tuple_header_at header_at shared_points_of peak_at sides_at points_at
    listed_at count_at numbers_from next_number number_run_at deltas_from next_delta delta_run_at byte_in word_in
    signed_in slice_in share_after share_of_tuple_axis
control_values = refl

-- half a count; an offset past the end; a shared tuple that is not there; a point twice; too many points; a run
-- past the last delta; deltas that end early; and no tuple
defects : map (λ b. tuples_of (glyph b))
    ((0 ∷ [])
    ∷ (0 ∷ 1 ∷ 0 ∷ 0x0A ∷ 0 ∷ [])
    ∷ (0 ∷ 1 ∷ 0 ∷ 8 ∷ 0 ∷ 7 ∷ 0x20 ∷ 3 ∷ 0 ∷ 0x81 ∷ 1 ∷ 0x40 ∷ 0x40 ∷ 0x83 ∷ 0x87 ∷ 0 ∷ [])
    ∷ (0 ∷ 1 ∷ 0 ∷ 0x0A ∷ 0 ∷ 0x0A ∷ 0xA0 ∷ 0 ∷ 0x40 ∷ 0 ∷ 3 ∷ 2 ∷ 2 ∷ 0 ∷ 1 ∷ 2 ∷ 0x20 ∷ 0x20 ∷ 0x40 ∷ 0x82 ∷ [])
    ∷ (0 ∷ 1 ∷ 0 ∷ 0x0A ∷ 0 ∷ 0x11 ∷ 0xA0 ∷ 0 ∷ 0x40 ∷ 0 ∷ 9 ∷ 8 ∷ 0 ∷ 1 ∷ 1 ∷ 1 ∷ 1 ∷ 1 ∷ 1 ∷ 1 ∷ 1 ∷ 1 ∷ 0x81 ∷
    1 ∷ 0x40 ∷ 0x40 ∷ 0x84 ∷ 0x88 ∷ 0 ∷ [])
    ∷ (0 ∷ 1 ∷ 0 ∷ 0x0A ∷ 0 ∷ 3 ∷ 0xA0 ∷ 0 ∷ 0x40 ∷ 0 ∷ 0 ∷ 0x88 ∷ 0x87 ∷ 0 ∷ [])
    ∷ (0 ∷ 1 ∷ 0 ∷ 0x0A ∷ 0 ∷ 7 ∷ 0xA0 ∷ 0 ∷ 0x40 ∷ 0 ∷ 0 ∷ 0x81 ∷ 1 ∷ 0x40 ∷ 0x40 ∷ 0x83 ∷ [])
    ∷ (0x70 ∷ 0 ∷ 0 ∷ 4 ∷ []) ∷ [])
    ≡ Err (gvar_fault 101)
    ∷ Err (gvar_fault 102)
    ∷ Err (gvar_fault 106)
    ∷ Err (gvar_fault 113)
    ∷ Err (gvar_fault 110)
    ∷ Err (gvar_fault 111)
    ∷ Err (gvar_fault 116)
    ∷ Ok [] ∷ []
unfolding tuples_of tuples_from tuple_at tuple_header_at header_at shared_points_of peak_at sides_at points_at
    listed_at count_at numbers_from next_number number_run_at deltas_from next_delta delta_run_at byte_in word_in
    signed_in slice_in share_after share_of_tuple_axis
defects = refl

counts : map (tuple_count table.Gvar) ((0x8F ∷ 0xFF ∷ []) ∷ (0x70 ∷ 2 ∷ []) ∷ (1 ∷ []) ∷ []) ≡ 4095 ∷ 2 ∷ 0 ∷ []
unfolding tuple_count word_in
counts = refl
