-- Worked values: glyphs at an instance, from the bytes of gvar to pixels. FreeType 2.12.1 was asked for the same glyphs. The
-- em has 1,024 units; the square has the corners (64, 0) and (192, 128), and an advance of 256.
use Rattle.std.specs.Prelude.{◌≡◌, refl, ℕ, ℤ, Bool, true, false, pos, List, [], ◌∷◌, Result, Ok, Err}
use Rattle.tt_core.specs.Faults.{Fault}
use Rattle.tt_core.specs.Outcomes.{◌>>=◌}
use Rattle.tt_axes.specs.Shares.{share_of_tuple_axis}
use Rattle.tt_deltas_inference.specs.Inference.{contour, inferred}
use Rattle.tt_tuples.specs.Bytes.{byte_in, word_in, signed_in, slice_in}
use Rattle.tt_tuples.specs.Deltas.{deltas_from, next_delta, delta_run_at}
use Rattle.tt_tuples.specs.Headers.{header_at, tuple_header_at, peak_at, sides_at}
use Rattle.tt_tuples.specs.PointNumbers.{points_at, listed_at, count_at, numbers_from, next_number, number_run_at}
use Rattle.tt_tuples.specs.Regions.{share_after}
use Rattle.tt_tuples.specs.Tuples.{tuples_of, tuples_from, tuple_at, shared_points_of}
use Rattle.tt_deltas.specs.Along.{varied_along}
use Rattle.tt_deltas.specs.Glyphs.{points_by_all, varied_glyph}
use Rattle.tt_deltas.specs.Gvar.{Gvar, glyph_data_of}
use Rattle.tt_fit_outline.specs.declared.rules.Scaling.TheVariants as scaling
use Rattle.tt_fit_outline.specs.Outline.{PhantomPoints}
use Rattle.tt_fit_outline.specs.Scaling.{coordinate_fault}
use Rattle.tt_fit_outline.specs.Size.{FontSize, size_by}
use Rattle.tt_glyf.specs.declared.raw.RawPoint.{RawPoint}
use Rattle.tt_fit_variation.specs.Ends.{advance_by_ends, end_deltas, ends_in_units, fine_ends}
use Rattle.tt_fit_variation.specs.Glyph.{composite_deltas, simple_deltas}
use Rattle.tt_fit_variation.specs.Moved.{instance_places, instance_point, instance_points, moved_coordinate}

abbrev on_curve : ℤ → ℤ → RawPoint
on_curve x y = record { x = x; y = y; on = true }

abbrev square : List RawPoint
square = on_curve (pos 64) (pos 0) ∷ on_curve (pos 64) (pos 128) ∷ on_curve (pos 192) (pos 128) ∷ on_curve (pos 192) (pos 0) ∷ []

-- from 0 to a right end
abbrev ends_to : ℤ → PhantomPoints
ends_to right = record { left = (pos 0, pos 0); right = (right, pos 0); ascent = (pos 0, pos 256); descent = (pos 0, pos 0) }

abbrev of_one_axis : List ℕ → Gvar
of_one_axis table = record { table = table; axes = 1 }

-- the points and the phantom points of a simple glyph 1 that begins at 0
abbrev square_at : FontSize → List ℕ → ℤ → Result (List (ℤ × ℤ × Bool) × PhantomPoints) Fault
square_at z gvar c = simple_deltas (of_one_axis gvar) (c ∷ []) 1 square (3 ∷ []) >>= λ v.
    instance_points z 0 square v.xs v.ys >>= λ ps. Ok (instance_places ps, fine_ends z.scale (ends_to (pos 256)) (end_deltas false 4 v))

-- at the axis' end the right side and the advance move by 7 units, and the upper side by -5
abbrev by_7_and_5 : List ℕ
by_7_and_5 =
    0 ∷ 1 ∷ 0 ∷ 0 ∷ 0 ∷ 1 ∷ 0 ∷ 1 ∷ 0 ∷ 0 ∷ 0 ∷ 28 ∷ 0 ∷ 3 ∷ 0 ∷ 0 ∷ 0 ∷ 0 ∷ 0 ∷ 30 ∷ 0 ∷ 0 ∷ 0 ∷ 0 ∷ 0 ∷ 12 ∷ 0 ∷ 12 ∷ 64 ∷ 0 ∷
    0 ∷ 1 ∷ 0 ∷ 10 ∷ 0 ∷ 14 ∷ 160 ∷ 0 ∷ 64 ∷ 0 ∷ 0 ∷ 129 ∷ 1 ∷ 7 ∷ 7 ∷ 128 ∷ 0 ∷ 7 ∷ 129 ∷ 128 ∷ 1 ∷ 251 ∷ 251 ∷ 132 ∷ []

-- at 4915 of 65536 they move by 34/64 and -24/64
parts_of_a_unit : square_at (size_by scaling.Rounded 300 1024) by_7_and_5 (pos 4915)
    ≡ Ok (
      (pos 1200, pos 0, true) ∷ (pos 1200, pos 2393, true) ∷ (pos 3610, pos 2393, true) ∷ (pos 3610, pos 0, true) ∷ [],
      record { left = (pos 0, pos 0); right = (pos 4810, pos 0); ascent = (pos 0, pos 4800); descent = (pos 0, pos 0) },
    )
unfolding varied_glyph glyph_data_of points_by_all varied_along contour inferred tuples_of tuples_from tuple_at
    tuple_header_at header_at shared_points_of peak_at sides_at points_at listed_at count_at numbers_from next_number
    number_run_at deltas_from next_delta delta_run_at byte_in word_in signed_in slice_in share_after share_of_tuple_axis
    instance_point moved_coordinate
parts_of_a_unit = refl

-- at 44171 of 65536, by the exact scale
parts_by_the_exact_scale : square_at (size_by scaling.Exact 300 1024) by_7_and_5 (pos 44171)
    ≡ Ok (
      (pos 1200, pos 0, true) ∷ (pos 1200, pos 2337, true) ∷ (pos 3688, pos 2337, true) ∷ (pos 3688, pos 0, true) ∷ [],
      record { left = (pos 0, pos 0); right = (pos 4888, pos 0); ascent = (pos 0, pos 4800); descent = (pos 0, pos 0) },
    )
unfolding varied_glyph glyph_data_of points_by_all varied_along contour inferred tuples_of tuples_from tuple_at
    tuple_header_at header_at shared_points_of peak_at sides_at points_at listed_at count_at numbers_from next_number
    number_run_at deltas_from next_delta delta_run_at byte_in word_in signed_in slice_in share_after share_of_tuple_axis
    instance_point moved_coordinate
parts_by_the_exact_scale = refl

-- the right side moves by 32,700 units
past_16_bits : square_at (size_by scaling.Rounded 16 1024)
    (0 ∷ 1 ∷ 0 ∷ 0 ∷ 0 ∷ 1 ∷ 0 ∷ 1 ∷ 0 ∷ 0 ∷ 0 ∷ 28 ∷ 0 ∷ 3 ∷ 0 ∷ 0 ∷ 0 ∷ 0 ∷ 0 ∷ 30 ∷ 0 ∷ 0 ∷ 0 ∷ 0 ∷ 0 ∷ 10 ∷ 0 ∷ 10 ∷ 64 ∷ 0 ∷
    0 ∷ 1 ∷ 0 ∷ 10 ∷ 0 ∷ 9 ∷ 160 ∷ 0 ∷ 64 ∷ 0 ∷ 0 ∷ 129 ∷ 65 ∷ 127 ∷ 188 ∷ 127 ∷ 188 ∷ 131 ∷ 135 ∷ 0 ∷ []) (pos 65536)
    ≡ Err (coordinate_fault 0)
unfolding varied_glyph glyph_data_of points_by_all varied_along contour inferred tuples_of tuples_from tuple_at
    tuple_header_at header_at shared_points_of peak_at sides_at points_at listed_at count_at numbers_from next_number
    number_run_at deltas_from next_delta delta_run_at byte_in word_in signed_in slice_in share_after share_of_tuple_axis
    instance_point moved_coordinate
past_16_bits = refl

-- both ends of the advance move, by 16 and by 99 units
abbrev by_16_and_99 : List ℕ
by_16_and_99 =
    0 ∷ 1 ∷ 0 ∷ 0 ∷ 0 ∷ 1 ∷ 0 ∷ 1 ∷ 0 ∷ 0 ∷ 0 ∷ 28 ∷ 0 ∷ 3 ∷ 0 ∷ 0 ∷ 0 ∷ 0 ∷ 0 ∷ 30 ∷ 0 ∷ 0 ∷ 0 ∷ 0 ∷ 0 ∷ 10 ∷ 0 ∷ 10 ∷ 64 ∷ 0 ∷
    0 ∷ 1 ∷ 0 ∷ 10 ∷ 0 ∷ 9 ∷ 160 ∷ 0 ∷ 64 ∷ 0 ∷ 0 ∷ 129 ∷ 3 ∷ 64 ∷ 64 ∷ 16 ∷ 99 ∷ 129 ∷ 135 ∷ 0 ∷ []

-- where HVAR makes the advance 288, the right end stays there
abbrev ends_at : Bool → ℤ → Result PhantomPoints Fault
ends_at by_hvar right = simple_deltas (of_one_axis by_16_and_99) (pos 65536 ∷ []) 1 square (3 ∷ []) >>= λ v.
    ends_in_units 0 (ends_to right) (end_deltas by_hvar 4 v)

the_left_end_alone : ends_at true (pos 288) ∷ ends_at false (pos 256) ∷ []
    ≡ Ok (record { left = (pos 16, pos 0); right = (pos 288, pos 0); ascent = (pos 0, pos 256); descent = (pos 0, pos 0) })
    ∷ Ok (record { left = (pos 16, pos 0); right = (pos 355, pos 0); ascent = (pos 0, pos 256); descent = (pos 0, pos 0) }) ∷ []
unfolding varied_glyph glyph_data_of points_by_all varied_along contour inferred tuples_of tuples_from tuple_at
    tuple_header_at header_at shared_points_of peak_at sides_at points_at listed_at count_at numbers_from next_number
    number_run_at deltas_from next_delta delta_run_at byte_in word_in signed_in slice_in share_after share_of_tuple_axis
    ends_in_units
the_left_end_alone = refl

-- an empty glyph 0, whose right end moves by 64 units
abbrev empty_at_the_end : Result (PhantomPoints × ℕ) Fault
empty_at_the_end = composite_deltas (of_one_axis
    (0 ∷ 1 ∷ 0 ∷ 0 ∷ 0 ∷ 1 ∷ 0 ∷ 1 ∷ 0 ∷ 0 ∷ 0 ∷ 28 ∷ 0 ∷ 3 ∷ 0 ∷ 0 ∷ 0 ∷ 0 ∷ 0 ∷ 30 ∷ 0 ∷ 0 ∷ 0 ∷ 8 ∷ 0 ∷ 8 ∷ 0 ∷ 8 ∷ 64 ∷ 0 ∷
    0 ∷ 1 ∷ 0 ∷ 10 ∷ 0 ∷ 6 ∷ 160 ∷ 0 ∷ 64 ∷ 0 ∷ 0 ∷ 128 ∷ 0 ∷ 64 ∷ 129 ∷ 131 ∷ [])) (pos 65536 ∷ []) 0 [] >>= λ v.
    ends_in_units 0 (ends_to (pos 256)) (end_deltas false 0 v) >>= λ p. Ok (p, advance_by_ends 256 (end_deltas false 0 v))

an_empty_glyph : empty_at_the_end ≡ Ok (ends_to (pos 320), 320)
unfolding varied_glyph glyph_data_of points_by_all varied_along contour inferred tuples_of tuples_from tuple_at
    tuple_header_at header_at shared_points_of peak_at sides_at points_at listed_at count_at numbers_from next_number
    number_run_at deltas_from next_delta delta_run_at byte_in word_in signed_in slice_in share_after share_of_tuple_axis
    ends_in_units
an_empty_glyph = refl
