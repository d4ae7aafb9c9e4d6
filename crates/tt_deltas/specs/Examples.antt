-- Worked values of whole glyphs, and of control values. The points are moved as FreeType 2.12.1 moves them, but where data
-- are refused (profile). The em has 1,024 units.
use Rattle.std.specs.Prelude.{◌≡◌, refl, ℕ, ℤ, pos, negsuc, List, [], ◌∷◌, ◌++◌, length, map, Result, Ok, Err}
use Rattle.tt_core.specs.declared.fault.Why.TheVariants as why
use Rattle.tt_core.specs.Faults.{Fault, fault_at}
use Rattle.tt_core.specs.Outcomes.{◌>>=◌}
use Rattle.tt_axes.specs.Shares.{share_of_tuple_axis}
use Rattle.tt_deltas_inference.specs.Inference.{contour, inferred}
use Rattle.tt_tuples.specs.Bytes.{byte_in, word_in, signed_in, slice_in}
use Rattle.tt_tuples.specs.Deltas.{deltas_from, next_delta, delta_run_at}
use Rattle.tt_tuples.specs.Headers.{header_at, tuple_header_at, peak_at, sides_at}
use Rattle.tt_tuples.specs.PointNumbers.{points_at, listed_at, count_at, numbers_from, next_number, number_run_at}
use Rattle.tt_tuples.specs.Regions.{share_after}
use Rattle.tt_tuples.specs.Tuples.{tuples_of, tuples_from, tuple_at, shared_points_of}
use Rattle.tt_deltas.specs.Along.{varied_along}
use Rattle.tt_deltas.specs.ControlValues.{still_at, values_by_all, varied_values}
use Rattle.tt_deltas.specs.Glyphs.{VariedPoints, points_by_all, varied_glyph}
use Rattle.tt_deltas.specs.Gvar.{Gvar, glyph_data_of, gvar_tag}
use Rattle.tt_deltas.specs.Units.{moved_units}
use Rattle.tt_deltas.specs.declared.varied.Varied.{Varied}

-- points of a contour and four phantom points
abbrev with_phantoms : List ℤ → List Varied
with_phantoms coordinates = map still_at (coordinates ++ pos 0 ∷ pos 0 ∷ pos 0 ∷ pos 0 ∷ [])

-- both lists of coordinates, in font units
abbrev in_units : VariedPoints → List ℤ × List ℤ
in_units v = (map moved_units v.xs, map moved_units v.ys)

-- glyph 1 at coordinates
abbrev glyph_1 : List ℕ → List ℤ → List ℕ → List ℤ → List ℤ → Result (List ℤ × List ℤ) Fault
glyph_1 gvar coordinates ends xs ys =
    varied_glyph (record { table = gvar; axes = length coordinates }) 1 coordinates ends (record { xs = with_phantoms xs; ys = with_phantoms ys })
    >>= λ v. Ok (in_units v)

-- points 2 and 3 are moved by 64; the others of the contour go with them
two_points : glyph_1 (0 ∷ 1 ∷ 0 ∷ 0 ∷ 0 ∷ 1 ∷ 0 ∷ 1 ∷ 0 ∷ 0 ∷ 0 ∷ 0x1C ∷ 0 ∷ 3 ∷ 0 ∷ 0 ∷ 0 ∷ 0 ∷ 0 ∷ 0x1E ∷ 0 ∷ 0 ∷ 0 ∷ 0 ∷
    0 ∷ 9 ∷ 0 ∷ 9 ∷ 0x40 ∷ 0 ∷ 0 ∷ 1 ∷ 0 ∷ 0xA ∷ 0 ∷ 8 ∷ 0xA0 ∷ 0 ∷ 0x40 ∷ 0 ∷ 2 ∷ 1 ∷ 2 ∷ 1 ∷ 1 ∷ 0x40 ∷ 0x40 ∷
    0x81 ∷ []) (pos 65536 ∷ []) (3 ∷ []) (pos 64 ∷ pos 64 ∷ pos 192 ∷ pos 192 ∷ []) (pos 0 ∷ pos 128 ∷ pos 128 ∷
    pos 0 ∷ [])
    ≡ Ok (
      pos 128 ∷ pos 128 ∷ pos 256 ∷ pos 256 ∷ pos 0 ∷ pos 0 ∷ pos 0 ∷ pos 0 ∷ [],
      pos 0 ∷ pos 128 ∷ pos 128 ∷
          pos 0 ∷ pos 0 ∷ pos 0 ∷ pos 0 ∷ pos 0 ∷ [],
    )
unfolding varied_glyph glyph_data_of points_by_all varied_along contour inferred tuples_of tuples_from tuple_at
    tuple_header_at header_at shared_points_of peak_at sides_at points_at listed_at count_at numbers_from next_number
    number_run_at deltas_from next_delta delta_run_at byte_in word_in signed_in slice_in share_after share_of_tuple_axis
two_points = refl

-- the same, with a number that no point has
a_point_past_the_last : glyph_1 (0 ∷ 1 ∷ 0 ∷ 0 ∷ 0 ∷ 1 ∷ 0 ∷ 1 ∷ 0 ∷ 0 ∷ 0 ∷ 0x1C ∷ 0 ∷ 3 ∷ 0 ∷ 0 ∷ 0 ∷ 0 ∷ 0 ∷ 0x1E ∷ 0 ∷ 0 ∷ 0 ∷ 0 ∷
    0 ∷ 0xA ∷ 0 ∷ 0xA ∷ 0x40 ∷ 0 ∷ 0 ∷ 1 ∷ 0 ∷ 0xA ∷ 0 ∷ 0xA ∷ 0xA0 ∷ 0 ∷ 0x40 ∷ 0 ∷ 3 ∷ 2 ∷ 2 ∷ 1 ∷ 0xC5 ∷ 2 ∷
    0x40 ∷ 0x40 ∷ 0x63 ∷ 0x82 ∷ []) (pos 65536 ∷ []) (3 ∷ []) (pos 64 ∷ pos 64 ∷ pos 192 ∷ pos 192 ∷ []) (pos 0 ∷
    pos 128 ∷ pos 128 ∷ pos 0 ∷ [])
    ≡ Ok (
      pos 128 ∷ pos 128 ∷ pos 256 ∷ pos 256 ∷ pos 0 ∷ pos 0 ∷ pos 0 ∷ pos 0 ∷ [],
      pos 0 ∷ pos 128 ∷ pos 128 ∷
          pos 0 ∷ pos 0 ∷ pos 0 ∷ pos 0 ∷ pos 0 ∷ [],
    )
unfolding varied_glyph glyph_data_of points_by_all varied_along contour inferred tuples_of tuples_from tuple_at
    tuple_header_at header_at shared_points_of peak_at sides_at points_at listed_at count_at numbers_from next_number
    number_run_at deltas_from next_delta delta_run_at byte_in word_in signed_in slice_in share_after share_of_tuple_axis
a_point_past_the_last = refl

-- one named point: the contour moves with it, along both axes
one_point : glyph_1 (0 ∷ 1 ∷ 0 ∷ 0 ∷ 0 ∷ 1 ∷ 0 ∷ 1 ∷ 0 ∷ 0 ∷ 0 ∷ 0x1C ∷ 0 ∷ 3 ∷ 0 ∷ 0 ∷ 0 ∷ 0 ∷ 0 ∷ 0x1E ∷ 0 ∷ 0 ∷ 0 ∷ 0 ∷
    0 ∷ 9 ∷ 0 ∷ 9 ∷ 0x40 ∷ 0 ∷ 0 ∷ 1 ∷ 0 ∷ 0xA ∷ 0 ∷ 7 ∷ 0xA0 ∷ 0 ∷ 0x40 ∷ 0 ∷ 1 ∷ 0 ∷ 3 ∷ 0 ∷ 0x28 ∷ 0 ∷ 0xEC ∷ 0
    ∷ []) (pos 65536 ∷ []) (7 ∷ []) (pos 64 ∷ pos 96 ∷ pos 64 ∷ pos 128 ∷ pos 192 ∷ pos 160 ∷ pos 192 ∷ pos 128 ∷
    []) (pos 0 ∷ pos 32 ∷ pos 64 ∷ pos 96 ∷ pos 64 ∷ pos 32 ∷ pos 0 ∷ pos 0 ∷ [])
    ≡ Ok (
      pos 104 ∷ pos 136 ∷ pos 104 ∷ pos 168 ∷ pos 232 ∷ pos 200 ∷ pos 232 ∷ pos 168 ∷ pos 0 ∷ pos 0 ∷ pos 0 ∷
          pos 0 ∷ [],
      negsuc 19 ∷ pos 12 ∷ pos 44 ∷ pos 76 ∷ pos 44 ∷ pos 12 ∷ negsuc 19 ∷ negsuc 19 ∷ pos 0 ∷ pos 0 ∷
          pos 0 ∷ pos 0 ∷ [],
    )
unfolding varied_glyph glyph_data_of points_by_all varied_along contour inferred tuples_of tuples_from tuple_at
    tuple_header_at header_at shared_points_of peak_at sides_at points_at listed_at count_at numbers_from next_number
    number_run_at deltas_from next_delta delta_run_at byte_in word_in signed_in slice_in share_after share_of_tuple_axis
one_point = refl

-- named points 0 and 2 have one x and two deltas: along x no other point moves
equal_places : glyph_1 (0 ∷ 1 ∷ 0 ∷ 0 ∷ 0 ∷ 1 ∷ 0 ∷ 1 ∷ 0 ∷ 0 ∷ 0 ∷ 0x1C ∷ 0 ∷ 3 ∷ 0 ∷ 0 ∷ 0 ∷ 0 ∷ 0 ∷ 0x1E ∷ 0 ∷ 0 ∷ 0 ∷ 0 ∷
    0 ∷ 0xA ∷ 0 ∷ 0xA ∷ 0x40 ∷ 0 ∷ 0 ∷ 1 ∷ 0 ∷ 0xA ∷ 0 ∷ 0xA ∷ 0xA0 ∷ 0 ∷ 0x40 ∷ 0 ∷ 2 ∷ 1 ∷ 0 ∷ 2 ∷ 1 ∷ 0x18 ∷
    0xE8 ∷ 0x80 ∷ 0 ∷ 0x10 ∷ []) (pos 65536 ∷ []) (7 ∷ []) (pos 64 ∷ pos 96 ∷ pos 64 ∷ pos 128 ∷ pos 192 ∷ pos 160
    ∷ pos 192 ∷ pos 128 ∷ []) (pos 0 ∷ pos 32 ∷ pos 64 ∷ pos 96 ∷ pos 64 ∷ pos 32 ∷ pos 0 ∷ pos 0 ∷ [])
    ≡ Ok (
      pos 88 ∷ pos 96 ∷ pos 40 ∷ pos 128 ∷ pos 192 ∷ pos 160 ∷ pos 192 ∷ pos 128 ∷ pos 0 ∷ pos 0 ∷ pos 0 ∷ pos
          0 ∷ [],
      pos 0 ∷ pos 40 ∷ pos 80 ∷ pos 112 ∷ pos 80 ∷ pos 40 ∷ pos 0 ∷ pos 0 ∷ pos 0 ∷ pos 0 ∷ pos 0 ∷ pos 0 ∷
          [],
    )
unfolding varied_glyph glyph_data_of points_by_all varied_along contour inferred tuples_of tuples_from tuple_at
    tuple_header_at header_at shared_points_of peak_at sides_at points_at listed_at count_at numbers_from next_number
    number_run_at deltas_from next_delta delta_run_at byte_in word_in signed_in slice_in share_after share_of_tuple_axis
equal_places = refl

-- shares of one unit: thirds, rounded to units
thirds_of_a_unit : glyph_1 (0 ∷ 1 ∷ 0 ∷ 0 ∷ 0 ∷ 1 ∷ 0 ∷ 1 ∷ 0 ∷ 0 ∷ 0 ∷ 0x1C ∷ 0 ∷ 3 ∷ 0 ∷ 0 ∷ 0 ∷ 0 ∷ 0 ∷ 0x1E ∷ 0 ∷ 0 ∷ 0 ∷ 0 ∷
    0 ∷ 0xA ∷ 0 ∷ 0xA ∷ 0x40 ∷ 0 ∷ 0 ∷ 1 ∷ 0 ∷ 0xA ∷ 0 ∷ 0xA ∷ 0xA0 ∷ 0 ∷ 0x40 ∷ 0 ∷ 2 ∷ 1 ∷ 0 ∷ 4 ∷ 0x80 ∷ 0 ∷ 1 ∷
    0x80 ∷ 0 ∷ 1 ∷ []) (pos 65536 ∷ []) (7 ∷ []) (pos 64 ∷ pos 96 ∷ pos 64 ∷ pos 128 ∷ pos 192 ∷ pos 160 ∷ pos 192
    ∷ pos 128 ∷ []) (pos 0 ∷ pos 32 ∷ pos 64 ∷ pos 96 ∷ pos 64 ∷ pos 32 ∷ pos 0 ∷ pos 0 ∷ [])
    ≡ Ok (
      pos 64 ∷ pos 96 ∷ pos 64 ∷ pos 129 ∷ pos 193 ∷ pos 161 ∷ pos 193 ∷ pos 129 ∷ pos 0 ∷ pos 0 ∷ pos 0 ∷ pos
          0 ∷ [],
      pos 0 ∷ pos 33 ∷ pos 65 ∷ pos 97 ∷ pos 65 ∷ pos 33 ∷ pos 0 ∷ pos 0 ∷ pos 0 ∷ pos 0 ∷ pos 0 ∷ pos 0 ∷
          [],
    )
unfolding varied_glyph glyph_data_of points_by_all varied_along contour inferred tuples_of tuples_from tuple_at
    tuple_header_at header_at shared_points_of peak_at sides_at points_at listed_at count_at numbers_from next_number
    number_run_at deltas_from next_delta delta_run_at byte_in word_in signed_in slice_in share_after share_of_tuple_axis
thirds_of_a_unit = refl

-- 43647 of 65536 parts of a tuple
part_of_a_tuple : glyph_1 (0 ∷ 1 ∷ 0 ∷ 0 ∷ 0 ∷ 1 ∷ 0 ∷ 1 ∷ 0 ∷ 0 ∷ 0 ∷ 0x1C ∷ 0 ∷ 3 ∷ 0 ∷ 0 ∷ 0 ∷ 0 ∷ 0 ∷ 0x1E ∷ 0 ∷ 0 ∷ 0 ∷ 0 ∷
    0 ∷ 0xA ∷ 0 ∷ 0xA ∷ 0x40 ∷ 0 ∷ 0 ∷ 1 ∷ 0 ∷ 0xA ∷ 0 ∷ 0xA ∷ 0xA0 ∷ 0 ∷ 0x40 ∷ 0 ∷ 2 ∷ 1 ∷ 0 ∷ 4 ∷ 0x80 ∷ 0 ∷
    0x41 ∷ 0x80 ∷ 0 ∷ 0x21 ∷ []) (pos 43647 ∷ []) (7 ∷ []) (pos 64 ∷ pos 96 ∷ pos 64 ∷ pos 128 ∷ pos 192 ∷ pos 160
    ∷ pos 192 ∷ pos 128 ∷ []) (pos 0 ∷ pos 32 ∷ pos 64 ∷ pos 96 ∷ pos 64 ∷ pos 32 ∷ pos 0 ∷ pos 0 ∷ [])
    ≡ Ok (
      pos 64 ∷ pos 107 ∷ pos 64 ∷ pos 150 ∷ pos 235 ∷ pos 192 ∷ pos 235 ∷ pos 150 ∷ pos 0 ∷ pos 0 ∷ pos 0 ∷ pos
          0 ∷ [],
      pos 0 ∷ pos 43 ∷ pos 86 ∷ pos 118 ∷ pos 86 ∷ pos 43 ∷ pos 0 ∷ pos 0 ∷ pos 0 ∷ pos 0 ∷ pos 0 ∷ pos 0 ∷
          [],
    )
unfolding varied_glyph glyph_data_of points_by_all varied_along contour inferred tuples_of tuples_from tuple_at
    tuple_header_at header_at shared_points_of peak_at sides_at points_at listed_at count_at numbers_from next_number
    number_run_at deltas_from next_delta delta_run_at byte_in word_in signed_in slice_in share_after share_of_tuple_axis
part_of_a_tuple = refl

-- each contour moves by itself
two_contours : glyph_1 (0 ∷ 1 ∷ 0 ∷ 0 ∷ 0 ∷ 1 ∷ 0 ∷ 1 ∷ 0 ∷ 0 ∷ 0 ∷ 0x1C ∷ 0 ∷ 3 ∷ 0 ∷ 0 ∷ 0 ∷ 0 ∷ 0 ∷ 0x1E ∷ 0 ∷ 0 ∷ 0 ∷ 0 ∷
    0 ∷ 0xA ∷ 0 ∷ 0xA ∷ 0x40 ∷ 0 ∷ 0 ∷ 1 ∷ 0 ∷ 0xA ∷ 0 ∷ 0xA ∷ 0xA0 ∷ 0 ∷ 0x40 ∷ 0 ∷ 2 ∷ 1 ∷ 0 ∷ 6 ∷ 1 ∷ 0x10 ∷
    0xF0 ∷ 0x80 ∷ 0 ∷ 8 ∷ []) (pos 65536 ∷ []) (3 ∷ 7 ∷ []) (pos 0 ∷ pos 0 ∷ pos 64 ∷ pos 64 ∷ pos 96 ∷ pos 96 ∷
    pos 160 ∷ pos 160 ∷ []) (pos 0 ∷ pos 64 ∷ pos 64 ∷ pos 0 ∷ pos 0 ∷ pos 64 ∷ pos 64 ∷ pos 0 ∷ [])
    ≡ Ok (
      pos 16 ∷ pos 16 ∷ pos 80 ∷ pos 80 ∷ pos 80 ∷ pos 80 ∷ pos 144 ∷ pos 144 ∷ pos 0 ∷ pos 0 ∷ pos 0 ∷ pos 0 ∷
          [],
      pos 0 ∷ pos 64 ∷ pos 64 ∷ pos 0 ∷ pos 8 ∷ pos 72 ∷ pos 72 ∷ pos 8 ∷ pos 0 ∷ pos 0 ∷ pos 0 ∷ pos 0 ∷ [],
    )
unfolding varied_glyph glyph_data_of points_by_all varied_along contour inferred tuples_of tuples_from tuple_at
    tuple_header_at header_at shared_points_of peak_at sides_at points_at listed_at count_at numbers_from next_number
    number_run_at deltas_from next_delta delta_run_at byte_in word_in signed_in slice_in share_after share_of_tuple_axis
two_contours = refl

-- the second phantom point has a delta of its own; the others have none
phantom_points : glyph_1 (0 ∷ 1 ∷ 0 ∷ 0 ∷ 0 ∷ 1 ∷ 0 ∷ 1 ∷ 0 ∷ 0 ∷ 0 ∷ 0x1C ∷ 0 ∷ 3 ∷ 0 ∷ 0 ∷ 0 ∷ 0 ∷ 0 ∷ 0x1E ∷ 0 ∷ 0 ∷ 0 ∷ 0 ∷
    0 ∷ 0xB ∷ 0 ∷ 0xB ∷ 0x40 ∷ 0 ∷ 0 ∷ 1 ∷ 0 ∷ 0xA ∷ 0 ∷ 0xB ∷ 0xA0 ∷ 0 ∷ 0x40 ∷ 0 ∷ 3 ∷ 2 ∷ 0 ∷ 8 ∷ 1 ∷ 0 ∷ 0x10 ∷
    0x80 ∷ 0 ∷ 0x40 ∷ 0x82 ∷ 0 ∷ []) (pos 65536 ∷ []) (7 ∷ []) (pos 64 ∷ pos 96 ∷ pos 64 ∷ pos 128 ∷ pos 192 ∷ pos
    160 ∷ pos 192 ∷ pos 128 ∷ []) (pos 0 ∷ pos 32 ∷ pos 64 ∷ pos 96 ∷ pos 64 ∷ pos 32 ∷ pos 0 ∷ pos 0 ∷ [])
    ≡ Ok (
      pos 80 ∷ pos 112 ∷ pos 80 ∷ pos 144 ∷ pos 208 ∷ pos 176 ∷ pos 208 ∷ pos 144 ∷ pos 0 ∷ pos 64 ∷ pos 0 ∷
          pos 0 ∷ [],
      pos 0 ∷ pos 32 ∷ pos 64 ∷ pos 96 ∷ pos 64 ∷ pos 32 ∷ pos 0 ∷ pos 0 ∷ pos 0 ∷ pos 0 ∷ pos 0 ∷ pos 0
          ∷ [],
    )
unfolding varied_glyph glyph_data_of points_by_all varied_along contour inferred tuples_of tuples_from tuple_at
    tuple_header_at header_at shared_points_of peak_at sides_at points_at listed_at count_at numbers_from next_number
    number_run_at deltas_from next_delta delta_run_at byte_in word_in signed_in slice_in share_after share_of_tuple_axis
phantom_points = refl

-- two axes: the parts are multiplied
two_axes : glyph_1 (0 ∷ 1 ∷ 0 ∷ 0 ∷ 0 ∷ 2 ∷ 0 ∷ 3 ∷ 0 ∷ 0 ∷ 0 ∷ 0x1C ∷ 0 ∷ 3 ∷ 0 ∷ 0 ∷ 0 ∷ 0 ∷ 0 ∷ 0x28 ∷ 0 ∷ 0 ∷ 0 ∷ 0 ∷
    0 ∷ 0xA ∷ 0 ∷ 0xA ∷ 0x40 ∷ 0 ∷ 0 ∷ 0 ∷ 0 ∷ 0 ∷ 0x40 ∷ 0 ∷ 0x40 ∷ 0 ∷ 0x40 ∷ 0 ∷ 0 ∷ 1 ∷ 0 ∷ 0xC ∷ 0 ∷ 7 ∷ 0xA0
    ∷ 0 ∷ 0x15 ∷ 0x55 ∷ 0x2C ∷ 0xCD ∷ 0 ∷ 0x81 ∷ 1 ∷ 0x64 ∷ 0x64 ∷ 0x83 ∷ 0x87 ∷ 0 ∷ []) (pos 13173 ∷ pos 32932 ∷
    []) (3 ∷ []) (pos 64 ∷ pos 64 ∷ pos 192 ∷ pos 192 ∷ []) (pos 0 ∷ pos 128 ∷ pos 128 ∷ pos 0 ∷ [])
    ≡ Ok (
      pos 64 ∷ pos 64 ∷ pos 235 ∷ pos 235 ∷ pos 0 ∷ pos 0 ∷ pos 0 ∷ pos 0 ∷ [],
      pos 0 ∷ pos 128 ∷ pos 128 ∷ pos
          0 ∷ pos 0 ∷ pos 0 ∷ pos 0 ∷ pos 0 ∷ [],
    )
unfolding varied_glyph glyph_data_of points_by_all varied_along contour inferred tuples_of tuples_from tuple_at
    tuple_header_at header_at shared_points_of peak_at sides_at points_at listed_at count_at numbers_from next_number
    number_run_at deltas_from next_delta delta_run_at byte_in word_in signed_in slice_in share_after share_of_tuple_axis
two_axes = refl

-- data that are broken are refused at their place in gvar
a_run_past_the_deltas : glyph_1 (0 ∷ 1 ∷ 0 ∷ 0 ∷ 0 ∷ 1 ∷ 0 ∷ 1 ∷ 0 ∷ 0 ∷ 0 ∷ 0x1C ∷ 0 ∷ 3 ∷ 0 ∷ 0 ∷ 0 ∷ 0 ∷ 0 ∷ 0x1E ∷ 0 ∷ 0 ∷ 0 ∷ 0 ∷
    0 ∷ 7 ∷ 0 ∷ 7 ∷ 0x40 ∷ 0 ∷ 0 ∷ 1 ∷ 0 ∷ 0xA ∷ 0 ∷ 3 ∷ 0xA0 ∷ 0 ∷ 0x40 ∷ 0 ∷ 0 ∷ 0x88 ∷ 0x87 ∷ 0 ∷ []) (pos 65536
    ∷ []) (3 ∷ []) (pos 64 ∷ pos 64 ∷ pos 192 ∷ pos 192 ∷ []) (pos 0 ∷ pos 128 ∷ pos 128 ∷ pos 0 ∷ [])
    ≡ Err (fault_at gvar_tag 41 why.GlyphVariation)
unfolding varied_glyph glyph_data_of points_by_all varied_along contour inferred tuples_of tuples_from tuple_at
    tuple_header_at header_at shared_points_of peak_at sides_at points_at listed_at count_at numbers_from next_number
    number_run_at deltas_from next_delta delta_run_at byte_in word_in signed_in slice_in share_after share_of_tuple_axis
a_run_past_the_deltas = refl

-- a shared tuple that is not there
no_such_shared_tuple : glyph_1 (0 ∷ 1 ∷ 0 ∷ 0 ∷ 0 ∷ 1 ∷ 0 ∷ 1 ∷ 0 ∷ 0 ∷ 0 ∷ 0x1C ∷ 0 ∷ 3 ∷ 0 ∷ 0 ∷ 0 ∷ 0 ∷ 0 ∷ 0x1E ∷ 0 ∷ 0 ∷ 0 ∷ 0 ∷
    0 ∷ 8 ∷ 0 ∷ 8 ∷ 0x40 ∷ 0 ∷ 0 ∷ 1 ∷ 0 ∷ 8 ∷ 0 ∷ 7 ∷ 0x20 ∷ 3 ∷ 0 ∷ 0x81 ∷ 1 ∷ 0x40 ∷ 0x40 ∷ 0x83 ∷ 0x87 ∷ 0 ∷
    []) (pos 65536 ∷ []) (3 ∷ []) (pos 64 ∷ pos 64 ∷ pos 192 ∷ pos 192 ∷ []) (pos 0 ∷ pos 128 ∷ pos 128 ∷ pos 0 ∷
    [])
    ≡ Err (fault_at gvar_tag 36 why.GlyphVariation)
unfolding varied_glyph glyph_data_of points_by_all varied_along contour inferred tuples_of tuples_from tuple_at
    tuple_header_at header_at shared_points_of peak_at sides_at points_at listed_at count_at numbers_from next_number
    number_run_at deltas_from next_delta delta_run_at byte_in word_in signed_in slice_in share_after share_of_tuple_axis
no_such_shared_tuple = refl

-- control values of 100, 200 and 300 units at the end of the only axis; gvar has one shared tuple, with its peak there
abbrev shared_peak : Gvar
shared_peak = record { table = 0 ∷ 1 ∷ 0 ∷ 0 ∷ 0 ∷ 1 ∷ 0 ∷ 1 ∷ 0 ∷ 0 ∷ 0 ∷ 22 ∷ 0 ∷ 0 ∷ 0 ∷ 0 ∷ 0 ∷ 0 ∷ 0 ∷ 24 ∷ 0 ∷ 0 ∷ 0x40 ∷ 0 ∷ []; axes = 1 }

abbrev moved_values : List ℕ → List ℤ
moved_values cvar =
    map moved_units (varied_values shared_peak cvar (pos 65536 ∷ []) (pos 100 ∷ pos 200 ∷ pos 300 ∷ []))

-- all values; the second; the second and one that is not there; the second, by shared numbers
control_values : map moved_values ((0 ∷ 1 ∷ 0 ∷ 0 ∷ 0 ∷ 1 ∷ 0 ∷ 0xE ∷ 0 ∷ 5 ∷ 0xA0 ∷ 0 ∷ 0x40 ∷ 0 ∷ 0 ∷ 1 ∷ 0xC0 ∷ 0x32 ∷ 0x80 ∷
    []) ∷ (0 ∷ 1 ∷ 0 ∷ 0 ∷ 0 ∷ 1 ∷ 0 ∷ 0xE ∷ 0 ∷ 5 ∷ 0xA0 ∷ 0 ∷ 0x40 ∷ 0 ∷ 1 ∷ 0 ∷ 1 ∷ 0 ∷ 0x40 ∷ []) ∷ (0 ∷ 1 ∷ 0
    ∷ 0 ∷ 0 ∷ 1 ∷ 0 ∷ 0xE ∷ 0 ∷ 7 ∷ 0xA0 ∷ 0 ∷ 0x40 ∷ 0 ∷ 2 ∷ 1 ∷ 1 ∷ 8 ∷ 1 ∷ 0x40 ∷ 0x40 ∷ []) ∷ (0 ∷ 1 ∷ 0 ∷ 0 ∷
    0x80 ∷ 1 ∷ 0 ∷ 0xE ∷ 0 ∷ 2 ∷ 0x80 ∷ 0 ∷ 0x40 ∷ 0 ∷ 1 ∷ 0 ∷ 1 ∷ 0 ∷ 0x40 ∷ []) ∷ [])
    ≡ (pos 36 ∷ pos 250 ∷ pos 300 ∷ []) ∷ (pos 100 ∷ pos 264 ∷ pos 300 ∷ []) ∷ (pos 100 ∷ pos 264 ∷ pos 300 ∷ []) ∷
    (pos 100 ∷ pos 264 ∷ pos 300 ∷ []) ∷ []
unfolding varied_values values_by_all varied_along tuples_of tuples_from tuple_at tuple_header_at header_at
    shared_points_of peak_at sides_at points_at listed_at count_at numbers_from next_number number_run_at deltas_from
    next_delta delta_run_at byte_in word_in signed_in slice_in share_after share_of_tuple_axis
control_values = refl

-- all values, by the shared tuple of gvar
a_shared_peak : map moved_values ((0 ∷ 1 ∷ 0 ∷ 0 ∷ 0 ∷ 1 ∷ 0 ∷ 0xC ∷ 0 ∷ 5 ∷ 0x20 ∷ 0 ∷ 0 ∷ 1 ∷ 0xC0 ∷ 0x32 ∷ 0x80 ∷ []) ∷ [])
    ≡ (pos 36 ∷ pos 250 ∷ pos 300 ∷ []) ∷ []
unfolding varied_values values_by_all varied_along tuples_of tuples_from tuple_at tuple_header_at header_at
    shared_points_of peak_at sides_at points_at listed_at count_at numbers_from next_number number_run_at deltas_from
    next_delta delta_run_at byte_in word_in signed_in slice_in share_after share_of_tuple_axis
a_shared_peak = refl

-- no such shared tuple; broken in the second tuple, after a whole one; version 2: no value moves
no_cvar : map moved_values ((0 ∷ 1 ∷ 0 ∷ 0 ∷ 0 ∷ 1 ∷ 0 ∷ 0xC ∷ 0 ∷ 5 ∷ 0x20 ∷ 5 ∷ 0 ∷ 1 ∷ 0xC0 ∷ 0x32 ∷ 0x80 ∷ []) ∷ (0 ∷
    1 ∷ 0 ∷ 0 ∷ 0 ∷ 2 ∷ 0 ∷ 0x14 ∷ 0 ∷ 5 ∷ 0xA0 ∷ 0 ∷ 0x40 ∷ 0 ∷ 0 ∷ 5 ∷ 0xA0 ∷ 0 ∷ 0x40 ∷ 0 ∷ 1 ∷ 0 ∷ 1 ∷ 0 ∷ 0x40
    ∷ 0 ∷ 2 ∷ 0xC0 ∷ 0x32 ∷ []) ∷ (0 ∷ 2 ∷ 0 ∷ 0 ∷ 0 ∷ 1 ∷ 0 ∷ 0xE ∷ 0 ∷ 5 ∷ 0xA0 ∷ 0 ∷ 0x40 ∷ 0 ∷ 0 ∷ 1 ∷ 0xC0 ∷
    0x32 ∷ 0x80 ∷ []) ∷ [])
    ≡ (pos 100 ∷ pos 200 ∷ pos 300 ∷ []) ∷ (pos 100 ∷ pos 200 ∷ pos 300 ∷ []) ∷ (pos 100 ∷ pos 200 ∷ pos 300 ∷ [])
    ∷ []
unfolding varied_values values_by_all varied_along tuples_of tuples_from tuple_at tuple_header_at header_at
    shared_points_of peak_at sides_at points_at listed_at count_at numbers_from next_number number_run_at deltas_from
    next_delta delta_run_at byte_in word_in signed_in slice_in share_after share_of_tuple_axis
no_cvar = refl
