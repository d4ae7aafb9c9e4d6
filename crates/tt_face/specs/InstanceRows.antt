-- Worked values: whole fonts at an instance. Each is built by hand, and FreeType 2.12.1 was asked for the same places.
use Rattle.std.specs.Prelude.{◌≡◌, refl, ℕ, ◌+◌, Bool, true, false, List, [], ◌∷◌, ◌++◌, length, take, drop, map, option_map, codes, Option, Some, None, Result, Ok, Err, ℤ, pos, negsuc}
use Rattle.std.specs.List.{range_with_len}
use Rattle.tt_axes.specs.Avar.{all_mapped, avar_of, is_avar, mapped}
use Rattle.tt_axes.specs.Axes.{axis_of, coordinate_on}
use Rattle.tt_axes.specs.declared.values.AxisValue.{AxisValue}
use Rattle.tt_axes.specs.Fvar.{fvar_in, fvar_of, fvar_tag}
use Rattle.tt_axes.specs.InstanceCoordinates.{coordinates_of}
use Rattle.tt_axes.specs.Instances.{coordinates_in, named_instance, no_axis, no_instance, weight}
use Rattle.tt_axes.specs.Shares.{share_of_region_axis}
use Rattle.tt_cmap.specs.Format4.{segments_at}
use Rattle.tt_cmap.specs.Halves.{reached_within}
use Rattle.tt_cmap.specs.Lookup.{cmap_of}
use Rattle.tt_cmap.specs.Subtables.{records_of}
use Rattle.tt_cmap.specs.WideLookup.{wide_cmap_of}
use Rattle.tt_core.specs.Collections.{directory_by, face_offset, offset_of}
use Rattle.tt_core.specs.declared.collection.Reading.TheVariants as reading
use Rattle.tt_core.specs.declared.fault.Why.TheVariants as why
use Rattle.tt_core.specs.Directory.{file_directory, needed_table, read_directory, table_of}
use Rattle.tt_core.specs.Faults.{Fault, fault_at}
use Rattle.tt_core.specs.Outcomes.{◌>>=◌}
use Rattle.tt_deltas.specs.Gvar.{gvar_in, gvar_tag, shape_fault}
use Rattle.tt_metrics.specs.Head.{head_of, head_in}
use Rattle.tt_metrics.specs.Hhea.{hhea_of, hhea_in}
use Rattle.tt_metrics.specs.Hmtx.{hmtx_of}
use Rattle.tt_metrics.specs.Maxp.{maxp_of, maxp_in}
use Rattle.tt_metrics.specs.Metrics.{advance_of, ascent_of, descent_of, metrics_of}
use Rattle.tt_variation_store.specs.Deltas.{fine_delta}
use Rattle.tt_variation_store.specs.Numbers.{number}
use Rattle.tt_face.specs.Faces.{Face, FaceInstance, finds_advances}
use Rattle.tt_face.specs.Files.{face_at, face_by}
use Rattle.tt_face.specs.Instance.{Named, asked_coordinates, by_name, by_number, face_at_coordinates, face_at_instance, named_count}
use Rattle.tt_face.specs.Listed.{variations_of}
use Rattle.tt_face.specs.Names.{name_of}
use Rattle.tt_face.specs.Rules.{plain_opening, ruled, table_bytes}

-- coordinates, ascent, descent, and the advances of glyphs 1 and 2
abbrev coordinates_in_use : Option FaceInstance → List ℤ
coordinates_in_use None = []
coordinates_in_use (Some i) = i.coordinates

abbrev told : Face → List ℤ × ℤ × ℤ × ℕ × ℕ
told face = (coordinates_in_use face.instance, ascent_of face.metrics, descent_of face.metrics, advance_of face.metrics 1, advance_of face.metrics 2)

abbrev told_of : List ℕ → Option Named → List AxisValue → Result (List ℤ × ℤ × ℤ × ℕ × ℕ) Fault
told_of file named axes =
    face_at_instance file (plain_opening reading.Strict) (Some (record { named = named; axes = axes })) >>= λ face. Ok (told face)

-- weights from 100 to 900 whose default is 400; instances at 100, 650, 900 and 900, the second named Medium
abbrev named_instances : List ℕ
named_instances =
    0 ∷ 1 ∷ 0 ∷ 0 ∷ 0 ∷ 10 ∷ 0 ∷ 128 ∷ 0 ∷ 3 ∷ 0 ∷ 32 ∷ 99 ∷ 109 ∷ 97 ∷ 112 ∷ 0 ∷ 0 ∷ 0 ∷ 0 ∷ 0 ∷ 0 ∷ 0 ∷ 172 ∷ 0 ∷
    0 ∷ 0 ∷ 44 ∷ 102 ∷ 118 ∷ 97 ∷ 114 ∷ 0 ∷ 0 ∷ 0 ∷ 0 ∷ 0 ∷ 0 ∷ 0 ∷ 216 ∷ 0 ∷ 0 ∷ 0 ∷ 68 ∷ 103 ∷ 108 ∷ 121 ∷ 102 ∷ 0 ∷
    0 ∷ 0 ∷ 0 ∷ 0 ∷ 0 ∷ 1 ∷ 28 ∷ 0 ∷ 0 ∷ 0 ∷ 44 ∷ 103 ∷ 118 ∷ 97 ∷ 114 ∷ 0 ∷ 0 ∷ 0 ∷ 0 ∷ 0 ∷ 0 ∷ 1 ∷ 72 ∷ 0 ∷ 0 ∷ 0 ∷
    60 ∷ 104 ∷ 101 ∷ 97 ∷ 100 ∷ 0 ∷ 0 ∷ 0 ∷ 0 ∷ 0 ∷ 0 ∷ 1 ∷ 132 ∷ 0 ∷ 0 ∷ 0 ∷ 54 ∷ 104 ∷ 104 ∷ 101 ∷ 97 ∷ 0 ∷ 0 ∷ 0 ∷
    0 ∷ 0 ∷ 0 ∷ 1 ∷ 188 ∷ 0 ∷ 0 ∷ 0 ∷ 36 ∷ 104 ∷ 109 ∷ 116 ∷ 120 ∷ 0 ∷ 0 ∷ 0 ∷ 0 ∷ 0 ∷ 0 ∷ 1 ∷ 224 ∷ 0 ∷ 0 ∷ 0 ∷ 12 ∷
    108 ∷ 111 ∷ 99 ∷ 97 ∷ 0 ∷ 0 ∷ 0 ∷ 0 ∷ 0 ∷ 0 ∷ 1 ∷ 236 ∷ 0 ∷ 0 ∷ 0 ∷ 8 ∷ 109 ∷ 97 ∷ 120 ∷ 112 ∷ 0 ∷ 0 ∷ 0 ∷ 0 ∷ 0 ∷
    0 ∷ 1 ∷ 244 ∷ 0 ∷ 0 ∷ 0 ∷ 32 ∷ 110 ∷ 97 ∷ 109 ∷ 101 ∷ 0 ∷ 0 ∷ 0 ∷ 0 ∷ 0 ∷ 0 ∷ 2 ∷ 20 ∷ 0 ∷ 0 ∷ 0 ∷ 136 ∷ 0 ∷ 0 ∷
    0 ∷ 1 ∷ 0 ∷ 3 ∷ 0 ∷ 1 ∷ 0 ∷ 0 ∷ 0 ∷ 12 ∷ 0 ∷ 4 ∷ 0 ∷ 32 ∷ 0 ∷ 0 ∷ 0 ∷ 4 ∷ 0 ∷ 4 ∷ 0 ∷ 1 ∷ 0 ∷ 0 ∷ 0 ∷ 66 ∷ 255 ∷
    255 ∷ 0 ∷ 0 ∷ 0 ∷ 65 ∷ 255 ∷ 255 ∷ 255 ∷ 192 ∷ 0 ∷ 1 ∷ 0 ∷ 0 ∷ 0 ∷ 0 ∷ 0 ∷ 1 ∷ 0 ∷ 0 ∷ 0 ∷ 16 ∷ 0 ∷ 2 ∷ 0 ∷ 1 ∷
    0 ∷ 20 ∷ 0 ∷ 4 ∷ 0 ∷ 8 ∷ 119 ∷ 103 ∷ 104 ∷ 116 ∷ 0 ∷ 100 ∷ 0 ∷ 0 ∷ 1 ∷ 144 ∷ 0 ∷ 0 ∷ 3 ∷ 132 ∷ 0 ∷ 0 ∷ 0 ∷ 0 ∷ 1 ∷
    0 ∷ 1 ∷ 2 ∷ 0 ∷ 0 ∷ 0 ∷ 100 ∷ 0 ∷ 0 ∷ 1 ∷ 3 ∷ 0 ∷ 0 ∷ 2 ∷ 138 ∷ 0 ∷ 0 ∷ 1 ∷ 4 ∷ 0 ∷ 0 ∷ 3 ∷ 132 ∷ 0 ∷ 0 ∷ 1 ∷ 3 ∷
    0 ∷ 0 ∷ 3 ∷ 132 ∷ 0 ∷ 0 ∷ 0 ∷ 1 ∷ 0 ∷ 64 ∷ 0 ∷ 0 ∷ 0 ∷ 192 ∷ 0 ∷ 128 ∷ 0 ∷ 3 ∷ 0 ∷ 0 ∷ 51 ∷ 53 ∷ 51 ∷ 21 ∷ 64 ∷
    128 ∷ 128 ∷ 128 ∷ 0 ∷ 1 ∷ 0 ∷ 0 ∷ 0 ∷ 0 ∷ 0 ∷ 64 ∷ 0 ∷ 64 ∷ 0 ∷ 3 ∷ 0 ∷ 0 ∷ 49 ∷ 53 ∷ 51 ∷ 21 ∷ 64 ∷ 64 ∷ 64 ∷ 0 ∷
    0 ∷ 1 ∷ 0 ∷ 0 ∷ 0 ∷ 1 ∷ 0 ∷ 1 ∷ 0 ∷ 0 ∷ 0 ∷ 28 ∷ 0 ∷ 3 ∷ 0 ∷ 0 ∷ 0 ∷ 0 ∷ 0 ∷ 30 ∷ 0 ∷ 0 ∷ 0 ∷ 0 ∷ 0 ∷ 15 ∷ 0 ∷
    15 ∷ 64 ∷ 0 ∷ 0 ∷ 2 ∷ 0 ∷ 16 ∷ 0 ∷ 7 ∷ 160 ∷ 0 ∷ 64 ∷ 0 ∷ 0 ∷ 7 ∷ 160 ∷ 0 ∷ 192 ∷ 0 ∷ 0 ∷ 129 ∷ 1 ∷ 64 ∷ 64 ∷
    131 ∷ 135 ∷ 0 ∷ 129 ∷ 1 ∷ 224 ∷ 224 ∷ 131 ∷ 135 ∷ 0 ∷ 1 ∷ 0 ∷ 0 ∷ 0 ∷ 1 ∷ 0 ∷ 0 ∷ 0 ∷ 0 ∷ 0 ∷ 0 ∷ 95 ∷ 15 ∷ 60 ∷
    245 ∷ 0 ∷ 0 ∷ 4 ∷ 0 ∷ 0 ∷ 0 ∷ 0 ∷ 0 ∷ 0 ∷ 0 ∷ 0 ∷ 0 ∷ 0 ∷ 0 ∷ 0 ∷ 0 ∷ 0 ∷ 0 ∷ 0 ∷ 0 ∷ 0 ∷ 0 ∷ 0 ∷ 0 ∷ 1 ∷ 0 ∷ 1 ∷
    0 ∷ 0 ∷ 0 ∷ 0 ∷ 8 ∷ 0 ∷ 2 ∷ 0 ∷ 0 ∷ 0 ∷ 0 ∷ 0 ∷ 0 ∷ 0 ∷ 1 ∷ 0 ∷ 0 ∷ 1 ∷ 0 ∷ 0 ∷ 0 ∷ 0 ∷ 0 ∷ 1 ∷ 0 ∷ 0 ∷ 0 ∷ 0 ∷
    0 ∷ 1 ∷ 0 ∷ 0 ∷ 1 ∷ 0 ∷ 0 ∷ 0 ∷ 0 ∷ 0 ∷ 0 ∷ 0 ∷ 0 ∷ 0 ∷ 0 ∷ 0 ∷ 0 ∷ 0 ∷ 0 ∷ 0 ∷ 3 ∷ 1 ∷ 0 ∷ 0 ∷ 0 ∷ 1 ∷ 0 ∷ 0 ∷
    64 ∷ 1 ∷ 0 ∷ 0 ∷ 0 ∷ 0 ∷ 0 ∷ 0 ∷ 0 ∷ 0 ∷ 11 ∷ 0 ∷ 22 ∷ 0 ∷ 1 ∷ 0 ∷ 0 ∷ 0 ∷ 3 ∷ 0 ∷ 0 ∷ 0 ∷ 0 ∷ 0 ∷ 0 ∷ 0 ∷ 0 ∷ 0 ∷
    0 ∷ 0 ∷ 4 ∷ 0 ∷ 4 ∷ 0 ∷ 0 ∷ 0 ∷ 0 ∷ 0 ∷ 64 ∷ 0 ∷ 0 ∷ 0 ∷ 0 ∷ 0 ∷ 0 ∷ 0 ∷ 0 ∷ 0 ∷ 5 ∷ 0 ∷ 66 ∷ 0 ∷ 3 ∷ 0 ∷ 1 ∷ 4 ∷
    9 ∷ 0 ∷ 4 ∷ 0 ∷ 14 ∷ 0 ∷ 0 ∷ 0 ∷ 3 ∷ 0 ∷ 1 ∷ 4 ∷ 9 ∷ 1 ∷ 0 ∷ 0 ∷ 12 ∷ 0 ∷ 14 ∷ 0 ∷ 3 ∷ 0 ∷ 1 ∷ 4 ∷ 9 ∷ 1 ∷ 2 ∷ 0 ∷
    8 ∷ 0 ∷ 26 ∷ 0 ∷ 3 ∷ 0 ∷ 1 ∷ 4 ∷ 9 ∷ 1 ∷ 3 ∷ 0 ∷ 12 ∷ 0 ∷ 34 ∷ 0 ∷ 3 ∷ 0 ∷ 1 ∷ 4 ∷ 9 ∷ 1 ∷ 4 ∷ 0 ∷ 24 ∷ 0 ∷ 46 ∷
    0 ∷ 84 ∷ 0 ∷ 101 ∷ 0 ∷ 115 ∷ 0 ∷ 116 ∷ 0 ∷ 32 ∷ 0 ∷ 86 ∷ 0 ∷ 70 ∷ 0 ∷ 87 ∷ 0 ∷ 101 ∷ 0 ∷ 105 ∷ 0 ∷ 103 ∷ 0 ∷ 104 ∷
    0 ∷ 116 ∷ 0 ∷ 84 ∷ 0 ∷ 104 ∷ 0 ∷ 105 ∷ 0 ∷ 110 ∷ 0 ∷ 77 ∷ 0 ∷ 101 ∷ 0 ∷ 100 ∷ 0 ∷ 105 ∷ 0 ∷ 117 ∷ 0 ∷ 109 ∷ 0 ∷
    66 ∷ 0 ∷ 108 ∷ 0 ∷ 97 ∷ 0 ∷ 99 ∷ 0 ∷ 107 ∷ 0 ∷ 32 ∷ 0 ∷ 38 ∷ 0 ∷ 32 ∷ 0 ∷ 119 ∷ 0 ∷ 105 ∷ 0 ∷ 100 ∷ 0 ∷ 101 ∷ []

by_its_number : told_of named_instances (Some (by_number 2)) []
    ≡ Ok (pos 65536 ∷ [], pos 256, pos 0, 256, 256)
unfolding face_at_instance face_by face_at directory_by offset_of face_offset read_directory metrics_of head_of head_in maxp_of maxp_in hhea_of hhea_in hmtx_of needed_table table_of wide_cmap_of cmap_of records_of segments_at reached_within asked_coordinates coordinates_of fvar_of fvar_in coordinates_in axis_of coordinate_on avar_of is_avar all_mapped mapped face_at_coordinates gvar_in table_bytes ruled number fine_delta share_of_region_axis
by_its_number = refl

by_its_name : told_of named_instances (Some (by_name (codes "Medium"))) []
    ≡ Ok (pos 32768 ∷ [], pos 256, pos 0, 256, 256)
unfolding face_at_instance face_by face_at directory_by offset_of face_offset read_directory metrics_of head_of head_in maxp_of maxp_in hhea_of hhea_in hmtx_of needed_table table_of wide_cmap_of cmap_of records_of segments_at reached_within asked_coordinates coordinates_of fvar_of fvar_in coordinates_in axis_of coordinate_on avar_of is_avar all_mapped mapped face_at_coordinates gvar_in table_bytes ruled number fine_delta share_of_region_axis
by_its_name = refl

an_instance_and_an_axis : told_of named_instances (Some (by_name (codes "Medium"))) (weight (pos 6553600) ∷ [])
    ≡ Ok (negsuc 65535 ∷ [], pos 256, pos 0, 256, 256)
unfolding face_at_instance face_by face_at directory_by offset_of face_offset read_directory metrics_of head_of head_in maxp_of maxp_in hhea_of hhea_in hmtx_of needed_table table_of wide_cmap_of cmap_of records_of segments_at reached_within asked_coordinates coordinates_of fvar_of fvar_in coordinates_in axis_of coordinate_on avar_of is_avar all_mapped mapped face_at_coordinates gvar_in table_bytes ruled number fine_delta share_of_region_axis
an_instance_and_an_axis = refl

the_default : told_of named_instances None (weight (pos 26214400) ∷ [])
    ≡ Ok ([], pos 256, pos 0, 256, 256)
unfolding face_at_instance face_by face_at directory_by offset_of face_offset read_directory metrics_of head_of head_in maxp_of maxp_in hhea_of hhea_in hmtx_of needed_table table_of wide_cmap_of cmap_of records_of segments_at reached_within asked_coordinates coordinates_of fvar_of fvar_in coordinates_in axis_of coordinate_on avar_of is_avar all_mapped mapped face_at_coordinates gvar_in table_bytes ruled number fine_delta share_of_region_axis
the_default = refl

no_such_number : told_of named_instances (Some (by_number 4)) []
    ≡ Err no_instance
unfolding face_at_instance face_by face_at directory_by offset_of face_offset read_directory metrics_of head_of head_in maxp_of maxp_in hhea_of hhea_in hmtx_of needed_table table_of wide_cmap_of cmap_of records_of segments_at reached_within asked_coordinates coordinates_of fvar_of fvar_in coordinates_in axis_of coordinate_on avar_of is_avar all_mapped mapped face_at_coordinates gvar_in table_bytes ruled number fine_delta share_of_region_axis
no_such_number = refl

no_such_name : told_of named_instances (Some (by_name (codes "Mediu"))) []
    ≡ Err no_instance
unfolding face_at_instance face_by face_at directory_by offset_of face_offset read_directory metrics_of head_of head_in maxp_of maxp_in hhea_of hhea_in hmtx_of needed_table table_of wide_cmap_of cmap_of records_of segments_at reached_within asked_coordinates coordinates_of fvar_of fvar_in coordinates_in axis_of coordinate_on avar_of is_avar all_mapped mapped face_at_coordinates gvar_in table_bytes ruled number fine_delta share_of_region_axis
no_such_name = refl

no_such_axis : told_of named_instances None (record { tag = codes "wdth"; value = pos 6553600 } ∷ [])
    ≡ Err no_axis
unfolding face_at_instance face_by face_at directory_by offset_of face_offset read_directory metrics_of head_of head_in maxp_of maxp_in hhea_of hhea_in hmtx_of needed_table table_of wide_cmap_of cmap_of records_of segments_at reached_within asked_coordinates coordinates_of fvar_of fvar_in coordinates_in axis_of coordinate_on avar_of is_avar all_mapped mapped face_at_coordinates gvar_in table_bytes ruled number fine_delta share_of_region_axis
no_such_axis = refl

-- the font with other bytes at an offset
abbrev with_bytes : ℕ → List ℕ → List ℕ
with_bytes at bytes = take at named_instances ++ (bytes ++ drop (at + length bytes) named_instances)

-- the empty text is no name, though the instances of a font without names have the empty one
the_empty_name : told_of (with_bytes 156 (codes "namf")) (Some (by_name [])) []
    ≡ Err no_instance
unfolding face_at_instance face_by face_at directory_by offset_of face_offset read_directory metrics_of head_of head_in maxp_of maxp_in hhea_of hhea_in hmtx_of needed_table table_of wide_cmap_of cmap_of records_of segments_at reached_within asked_coordinates coordinates_of fvar_of fvar_in coordinates_in axis_of coordinate_on avar_of is_avar all_mapped mapped face_at_coordinates gvar_in table_bytes ruled number fine_delta share_of_region_axis
the_empty_name = refl

no_fvar : told_of (with_bytes 28 (codes "fvaz")) None (weight (pos 58982400) ∷ [])
    ≡ Err (fault_at fvar_tag 0 why.NoTable)
unfolding face_at_instance face_by face_at directory_by offset_of face_offset read_directory metrics_of head_of head_in maxp_of maxp_in hhea_of hhea_in hmtx_of needed_table table_of wide_cmap_of cmap_of records_of segments_at reached_within asked_coordinates coordinates_of fvar_of fvar_in coordinates_in axis_of coordinate_on avar_of is_avar all_mapped mapped face_at_coordinates gvar_in table_bytes ruled number fine_delta share_of_region_axis
no_fvar = refl

-- gvar is looked at where a coordinate is not 0
no_gvar : told_of (with_bytes 60 (codes "gvaz")) None (weight (pos 58982400) ∷ [])
    ≡ Err (fault_at gvar_tag 0 why.NoTable)
unfolding face_at_instance face_by face_at directory_by offset_of face_offset read_directory metrics_of head_of head_in maxp_of maxp_in hhea_of hhea_in hmtx_of needed_table table_of wide_cmap_of cmap_of records_of segments_at reached_within asked_coordinates coordinates_of fvar_of fvar_in coordinates_in axis_of coordinate_on avar_of is_avar all_mapped mapped face_at_coordinates gvar_in table_bytes ruled number fine_delta share_of_region_axis
no_gvar = refl

the_default_without_gvar : told_of (with_bytes 60 (codes "gvaz")) None (weight (pos 26214400) ∷ [])
    ≡ Ok ([], pos 256, pos 0, 256, 256)
unfolding face_at_instance face_by face_at directory_by offset_of face_offset read_directory metrics_of head_of head_in maxp_of maxp_in hhea_of hhea_in hmtx_of needed_table table_of wide_cmap_of cmap_of records_of segments_at reached_within asked_coordinates coordinates_of fvar_of fvar_in coordinates_in axis_of coordinate_on avar_of is_avar all_mapped mapped face_at_coordinates gvar_in table_bytes ruled number fine_delta share_of_region_axis
the_default_without_gvar = refl

-- 256 shared tuples
shared_tuples_past_the_end : told_of (with_bytes 334 (1 ∷ 0 ∷ [])) None (weight (pos 58982400) ∷ [])
    ≡ Err (shape_fault 8)
unfolding face_at_instance face_by face_at directory_by offset_of face_offset read_directory metrics_of head_of head_in maxp_of maxp_in hhea_of hhea_in hmtx_of needed_table table_of wide_cmap_of cmap_of records_of segments_at reached_within asked_coordinates coordinates_of fvar_of fvar_in coordinates_in axis_of coordinate_on avar_of is_avar all_mapped mapped face_at_coordinates gvar_in table_bytes ruled number fine_delta share_of_region_axis
shared_tuples_past_the_end = refl

-- what a list of faces has: the axis' name, and the instances' names
its_axis : option_map (λ f. name_of (axis_of f 0).name (file_directory named_instances)) (variations_of (file_directory named_instances))
    ≡ Some (codes "Weight")
unfolding fvar_of fvar_in needed_table table_of axis_of name_of
its_axis = refl

its_instances : option_map (λ f. map (λ k. name_of (named_instance f k).name (file_directory named_instances)) (range_with_len 0 (named_count f)))
    (variations_of (file_directory named_instances))
    ≡ Some (codes "Thin" ∷ codes "Medium" ∷ codes "Black & wide" ∷ codes "Medium" ∷ [])
unfolding fvar_of fvar_in needed_table table_of name_of
its_instances = refl

-- HVAR with deltas of 33 and -33 for glyphs 1 and 2
abbrev with_hvar : List ℕ
with_hvar =
    0 ∷ 1 ∷ 0 ∷ 0 ∷ 0 ∷ 10 ∷ 0 ∷ 128 ∷ 0 ∷ 3 ∷ 0 ∷ 32 ∷ 72 ∷ 86 ∷ 65 ∷ 82 ∷ 0 ∷ 0 ∷ 0 ∷ 0 ∷ 0 ∷ 0 ∷ 0 ∷ 172 ∷ 0 ∷ 0 ∷
    0 ∷ 53 ∷ 99 ∷ 109 ∷ 97 ∷ 112 ∷ 0 ∷ 0 ∷ 0 ∷ 0 ∷ 0 ∷ 0 ∷ 0 ∷ 228 ∷ 0 ∷ 0 ∷ 0 ∷ 44 ∷ 102 ∷ 118 ∷ 97 ∷ 114 ∷ 0 ∷ 0 ∷
    0 ∷ 0 ∷ 0 ∷ 0 ∷ 1 ∷ 16 ∷ 0 ∷ 0 ∷ 0 ∷ 36 ∷ 103 ∷ 108 ∷ 121 ∷ 102 ∷ 0 ∷ 0 ∷ 0 ∷ 0 ∷ 0 ∷ 0 ∷ 1 ∷ 52 ∷ 0 ∷ 0 ∷ 0 ∷
    44 ∷ 103 ∷ 118 ∷ 97 ∷ 114 ∷ 0 ∷ 0 ∷ 0 ∷ 0 ∷ 0 ∷ 0 ∷ 1 ∷ 96 ∷ 0 ∷ 0 ∷ 0 ∷ 50 ∷ 104 ∷ 101 ∷ 97 ∷ 100 ∷ 0 ∷ 0 ∷ 0 ∷
    0 ∷ 0 ∷ 0 ∷ 1 ∷ 148 ∷ 0 ∷ 0 ∷ 0 ∷ 54 ∷ 104 ∷ 104 ∷ 101 ∷ 97 ∷ 0 ∷ 0 ∷ 0 ∷ 0 ∷ 0 ∷ 0 ∷ 1 ∷ 204 ∷ 0 ∷ 0 ∷ 0 ∷ 36 ∷
    104 ∷ 109 ∷ 116 ∷ 120 ∷ 0 ∷ 0 ∷ 0 ∷ 0 ∷ 0 ∷ 0 ∷ 1 ∷ 240 ∷ 0 ∷ 0 ∷ 0 ∷ 12 ∷ 108 ∷ 111 ∷ 99 ∷ 97 ∷ 0 ∷ 0 ∷ 0 ∷ 0 ∷
    0 ∷ 0 ∷ 1 ∷ 252 ∷ 0 ∷ 0 ∷ 0 ∷ 8 ∷ 109 ∷ 97 ∷ 120 ∷ 112 ∷ 0 ∷ 0 ∷ 0 ∷ 0 ∷ 0 ∷ 0 ∷ 2 ∷ 4 ∷ 0 ∷ 0 ∷ 0 ∷ 32 ∷ 0 ∷ 1 ∷
    0 ∷ 0 ∷ 0 ∷ 0 ∷ 0 ∷ 20 ∷ 0 ∷ 0 ∷ 0 ∷ 0 ∷ 0 ∷ 0 ∷ 0 ∷ 0 ∷ 0 ∷ 0 ∷ 0 ∷ 0 ∷ 0 ∷ 1 ∷ 0 ∷ 0 ∷ 0 ∷ 12 ∷ 0 ∷ 1 ∷ 0 ∷ 0 ∷
    0 ∷ 22 ∷ 0 ∷ 1 ∷ 0 ∷ 1 ∷ 0 ∷ 0 ∷ 64 ∷ 0 ∷ 64 ∷ 0 ∷ 0 ∷ 3 ∷ 0 ∷ 0 ∷ 0 ∷ 1 ∷ 0 ∷ 0 ∷ 0 ∷ 33 ∷ 223 ∷ 0 ∷ 0 ∷ 0 ∷ 0 ∷
    0 ∷ 0 ∷ 1 ∷ 0 ∷ 3 ∷ 0 ∷ 1 ∷ 0 ∷ 0 ∷ 0 ∷ 12 ∷ 0 ∷ 4 ∷ 0 ∷ 32 ∷ 0 ∷ 0 ∷ 0 ∷ 4 ∷ 0 ∷ 4 ∷ 0 ∷ 1 ∷ 0 ∷ 0 ∷ 0 ∷ 66 ∷
    255 ∷ 255 ∷ 0 ∷ 0 ∷ 0 ∷ 65 ∷ 255 ∷ 255 ∷ 255 ∷ 192 ∷ 0 ∷ 1 ∷ 0 ∷ 0 ∷ 0 ∷ 0 ∷ 0 ∷ 1 ∷ 0 ∷ 0 ∷ 0 ∷ 16 ∷ 0 ∷ 2 ∷ 0 ∷
    1 ∷ 0 ∷ 20 ∷ 0 ∷ 0 ∷ 0 ∷ 8 ∷ 119 ∷ 103 ∷ 104 ∷ 116 ∷ 0 ∷ 100 ∷ 0 ∷ 0 ∷ 1 ∷ 144 ∷ 0 ∷ 0 ∷ 3 ∷ 132 ∷ 0 ∷ 0 ∷ 0 ∷ 0 ∷
    1 ∷ 0 ∷ 0 ∷ 1 ∷ 0 ∷ 64 ∷ 0 ∷ 0 ∷ 0 ∷ 192 ∷ 0 ∷ 128 ∷ 0 ∷ 3 ∷ 0 ∷ 0 ∷ 51 ∷ 53 ∷ 51 ∷ 21 ∷ 64 ∷ 128 ∷ 128 ∷ 128 ∷
    0 ∷ 1 ∷ 0 ∷ 0 ∷ 0 ∷ 0 ∷ 0 ∷ 64 ∷ 0 ∷ 64 ∷ 0 ∷ 3 ∷ 0 ∷ 0 ∷ 49 ∷ 53 ∷ 51 ∷ 21 ∷ 64 ∷ 64 ∷ 64 ∷ 0 ∷ 0 ∷ 1 ∷ 0 ∷ 0 ∷
    0 ∷ 1 ∷ 0 ∷ 1 ∷ 0 ∷ 0 ∷ 0 ∷ 28 ∷ 0 ∷ 3 ∷ 0 ∷ 0 ∷ 0 ∷ 0 ∷ 0 ∷ 30 ∷ 0 ∷ 0 ∷ 0 ∷ 0 ∷ 0 ∷ 10 ∷ 0 ∷ 10 ∷ 64 ∷ 0 ∷ 0 ∷
    1 ∷ 0 ∷ 10 ∷ 0 ∷ 10 ∷ 160 ∷ 0 ∷ 64 ∷ 0 ∷ 0 ∷ 129 ∷ 1 ∷ 64 ∷ 64 ∷ 128 ∷ 0 ∷ 64 ∷ 129 ∷ 135 ∷ 0 ∷ 0 ∷ 0 ∷ 1 ∷ 0 ∷
    0 ∷ 0 ∷ 1 ∷ 0 ∷ 0 ∷ 0 ∷ 0 ∷ 0 ∷ 0 ∷ 95 ∷ 15 ∷ 60 ∷ 245 ∷ 0 ∷ 0 ∷ 4 ∷ 0 ∷ 0 ∷ 0 ∷ 0 ∷ 0 ∷ 0 ∷ 0 ∷ 0 ∷ 0 ∷ 0 ∷ 0 ∷
    0 ∷ 0 ∷ 0 ∷ 0 ∷ 0 ∷ 0 ∷ 0 ∷ 0 ∷ 0 ∷ 0 ∷ 1 ∷ 0 ∷ 1 ∷ 0 ∷ 0 ∷ 0 ∷ 0 ∷ 8 ∷ 0 ∷ 2 ∷ 0 ∷ 0 ∷ 0 ∷ 0 ∷ 0 ∷ 0 ∷ 0 ∷ 1 ∷
    0 ∷ 0 ∷ 1 ∷ 0 ∷ 0 ∷ 0 ∷ 0 ∷ 0 ∷ 1 ∷ 0 ∷ 0 ∷ 0 ∷ 0 ∷ 0 ∷ 1 ∷ 0 ∷ 0 ∷ 1 ∷ 0 ∷ 0 ∷ 0 ∷ 0 ∷ 0 ∷ 0 ∷ 0 ∷ 0 ∷ 0 ∷ 0 ∷
    0 ∷ 0 ∷ 0 ∷ 0 ∷ 0 ∷ 3 ∷ 1 ∷ 0 ∷ 0 ∷ 0 ∷ 1 ∷ 0 ∷ 0 ∷ 64 ∷ 1 ∷ 0 ∷ 0 ∷ 0 ∷ 0 ∷ 0 ∷ 0 ∷ 0 ∷ 0 ∷ 11 ∷ 0 ∷ 22 ∷ 0 ∷ 1 ∷
    0 ∷ 0 ∷ 0 ∷ 3 ∷ 0 ∷ 0 ∷ 0 ∷ 0 ∷ 0 ∷ 0 ∷ 0 ∷ 0 ∷ 0 ∷ 0 ∷ 0 ∷ 4 ∷ 0 ∷ 4 ∷ 0 ∷ 0 ∷ 0 ∷ 0 ∷ 0 ∷ 64 ∷ 0 ∷ 0 ∷ 0 ∷ 0 ∷
    0 ∷ 0 ∷ []

half_of_it : told_of with_hvar None (weight (pos 42598400) ∷ [])
    ≡ Ok (pos 32768 ∷ [], pos 256, pos 0, 273, 240)
unfolding face_at_instance face_by face_at directory_by offset_of face_offset read_directory metrics_of head_of head_in maxp_of maxp_in hhea_of hhea_in hmtx_of needed_table table_of wide_cmap_of cmap_of records_of segments_at reached_within asked_coordinates coordinates_of fvar_of fvar_in coordinates_in axis_of coordinate_on avar_of is_avar all_mapped mapped face_at_coordinates gvar_in table_bytes ruled number fine_delta share_of_region_axis
half_of_it = refl

-- MVAR with 64 for the ascent and -64 for the descent
abbrev with_mvar : List ℕ
with_mvar =
    0 ∷ 1 ∷ 0 ∷ 0 ∷ 0 ∷ 10 ∷ 0 ∷ 128 ∷ 0 ∷ 3 ∷ 0 ∷ 32 ∷ 77 ∷ 86 ∷ 65 ∷ 82 ∷ 0 ∷ 0 ∷ 0 ∷ 0 ∷ 0 ∷ 0 ∷ 0 ∷ 172 ∷ 0 ∷ 0 ∷
    0 ∷ 69 ∷ 99 ∷ 109 ∷ 97 ∷ 112 ∷ 0 ∷ 0 ∷ 0 ∷ 0 ∷ 0 ∷ 0 ∷ 0 ∷ 244 ∷ 0 ∷ 0 ∷ 0 ∷ 44 ∷ 102 ∷ 118 ∷ 97 ∷ 114 ∷ 0 ∷ 0 ∷
    0 ∷ 0 ∷ 0 ∷ 0 ∷ 1 ∷ 32 ∷ 0 ∷ 0 ∷ 0 ∷ 36 ∷ 103 ∷ 108 ∷ 121 ∷ 102 ∷ 0 ∷ 0 ∷ 0 ∷ 0 ∷ 0 ∷ 0 ∷ 1 ∷ 68 ∷ 0 ∷ 0 ∷ 0 ∷
    44 ∷ 103 ∷ 118 ∷ 97 ∷ 114 ∷ 0 ∷ 0 ∷ 0 ∷ 0 ∷ 0 ∷ 0 ∷ 1 ∷ 112 ∷ 0 ∷ 0 ∷ 0 ∷ 48 ∷ 104 ∷ 101 ∷ 97 ∷ 100 ∷ 0 ∷ 0 ∷ 0 ∷
    0 ∷ 0 ∷ 0 ∷ 1 ∷ 160 ∷ 0 ∷ 0 ∷ 0 ∷ 54 ∷ 104 ∷ 104 ∷ 101 ∷ 97 ∷ 0 ∷ 0 ∷ 0 ∷ 0 ∷ 0 ∷ 0 ∷ 1 ∷ 216 ∷ 0 ∷ 0 ∷ 0 ∷ 36 ∷
    104 ∷ 109 ∷ 116 ∷ 120 ∷ 0 ∷ 0 ∷ 0 ∷ 0 ∷ 0 ∷ 0 ∷ 1 ∷ 252 ∷ 0 ∷ 0 ∷ 0 ∷ 12 ∷ 108 ∷ 111 ∷ 99 ∷ 97 ∷ 0 ∷ 0 ∷ 0 ∷ 0 ∷
    0 ∷ 0 ∷ 2 ∷ 8 ∷ 0 ∷ 0 ∷ 0 ∷ 8 ∷ 109 ∷ 97 ∷ 120 ∷ 112 ∷ 0 ∷ 0 ∷ 0 ∷ 0 ∷ 0 ∷ 0 ∷ 2 ∷ 16 ∷ 0 ∷ 0 ∷ 0 ∷ 32 ∷ 0 ∷ 1 ∷
    0 ∷ 0 ∷ 0 ∷ 0 ∷ 0 ∷ 8 ∷ 0 ∷ 3 ∷ 0 ∷ 36 ∷ 104 ∷ 97 ∷ 115 ∷ 99 ∷ 0 ∷ 0 ∷ 0 ∷ 0 ∷ 104 ∷ 100 ∷ 115 ∷ 99 ∷ 0 ∷ 0 ∷ 0 ∷
    1 ∷ 104 ∷ 108 ∷ 103 ∷ 112 ∷ 0 ∷ 0 ∷ 0 ∷ 2 ∷ 0 ∷ 1 ∷ 0 ∷ 0 ∷ 0 ∷ 12 ∷ 0 ∷ 1 ∷ 0 ∷ 0 ∷ 0 ∷ 22 ∷ 0 ∷ 1 ∷ 0 ∷ 1 ∷ 0 ∷
    0 ∷ 64 ∷ 0 ∷ 64 ∷ 0 ∷ 0 ∷ 3 ∷ 0 ∷ 0 ∷ 0 ∷ 1 ∷ 0 ∷ 0 ∷ 64 ∷ 192 ∷ 32 ∷ 0 ∷ 0 ∷ 0 ∷ 0 ∷ 0 ∷ 0 ∷ 1 ∷ 0 ∷ 3 ∷ 0 ∷ 1 ∷
    0 ∷ 0 ∷ 0 ∷ 12 ∷ 0 ∷ 4 ∷ 0 ∷ 32 ∷ 0 ∷ 0 ∷ 0 ∷ 4 ∷ 0 ∷ 4 ∷ 0 ∷ 1 ∷ 0 ∷ 0 ∷ 0 ∷ 66 ∷ 255 ∷ 255 ∷ 0 ∷ 0 ∷ 0 ∷ 65 ∷
    255 ∷ 255 ∷ 255 ∷ 192 ∷ 0 ∷ 1 ∷ 0 ∷ 0 ∷ 0 ∷ 0 ∷ 0 ∷ 1 ∷ 0 ∷ 0 ∷ 0 ∷ 16 ∷ 0 ∷ 2 ∷ 0 ∷ 1 ∷ 0 ∷ 20 ∷ 0 ∷ 0 ∷ 0 ∷ 8 ∷
    119 ∷ 103 ∷ 104 ∷ 116 ∷ 0 ∷ 100 ∷ 0 ∷ 0 ∷ 1 ∷ 144 ∷ 0 ∷ 0 ∷ 3 ∷ 132 ∷ 0 ∷ 0 ∷ 0 ∷ 0 ∷ 1 ∷ 0 ∷ 0 ∷ 1 ∷ 0 ∷ 64 ∷ 0 ∷
    0 ∷ 0 ∷ 192 ∷ 0 ∷ 128 ∷ 0 ∷ 3 ∷ 0 ∷ 0 ∷ 51 ∷ 53 ∷ 51 ∷ 21 ∷ 64 ∷ 128 ∷ 128 ∷ 128 ∷ 0 ∷ 1 ∷ 0 ∷ 0 ∷ 0 ∷ 0 ∷ 0 ∷
    64 ∷ 0 ∷ 64 ∷ 0 ∷ 3 ∷ 0 ∷ 0 ∷ 49 ∷ 53 ∷ 51 ∷ 21 ∷ 64 ∷ 64 ∷ 64 ∷ 0 ∷ 0 ∷ 1 ∷ 0 ∷ 0 ∷ 0 ∷ 1 ∷ 0 ∷ 1 ∷ 0 ∷ 0 ∷ 0 ∷
    28 ∷ 0 ∷ 3 ∷ 0 ∷ 0 ∷ 0 ∷ 0 ∷ 0 ∷ 30 ∷ 0 ∷ 0 ∷ 0 ∷ 0 ∷ 0 ∷ 9 ∷ 0 ∷ 9 ∷ 64 ∷ 0 ∷ 0 ∷ 1 ∷ 0 ∷ 8 ∷ 0 ∷ 10 ∷ 32 ∷ 0 ∷
    0 ∷ 129 ∷ 1 ∷ 64 ∷ 64 ∷ 128 ∷ 0 ∷ 64 ∷ 129 ∷ 135 ∷ 0 ∷ 1 ∷ 0 ∷ 0 ∷ 0 ∷ 1 ∷ 0 ∷ 0 ∷ 0 ∷ 0 ∷ 0 ∷ 0 ∷ 95 ∷ 15 ∷ 60 ∷
    245 ∷ 0 ∷ 0 ∷ 4 ∷ 0 ∷ 0 ∷ 0 ∷ 0 ∷ 0 ∷ 0 ∷ 0 ∷ 0 ∷ 0 ∷ 0 ∷ 0 ∷ 0 ∷ 0 ∷ 0 ∷ 0 ∷ 0 ∷ 0 ∷ 0 ∷ 0 ∷ 0 ∷ 0 ∷ 1 ∷ 0 ∷ 1 ∷
    0 ∷ 0 ∷ 0 ∷ 0 ∷ 8 ∷ 0 ∷ 2 ∷ 0 ∷ 0 ∷ 0 ∷ 0 ∷ 0 ∷ 0 ∷ 0 ∷ 1 ∷ 0 ∷ 0 ∷ 1 ∷ 0 ∷ 0 ∷ 0 ∷ 0 ∷ 0 ∷ 1 ∷ 0 ∷ 0 ∷ 0 ∷ 0 ∷
    0 ∷ 1 ∷ 0 ∷ 0 ∷ 1 ∷ 0 ∷ 0 ∷ 0 ∷ 0 ∷ 0 ∷ 0 ∷ 0 ∷ 0 ∷ 0 ∷ 0 ∷ 0 ∷ 0 ∷ 0 ∷ 0 ∷ 0 ∷ 3 ∷ 1 ∷ 0 ∷ 0 ∷ 0 ∷ 1 ∷ 0 ∷ 0 ∷
    64 ∷ 1 ∷ 0 ∷ 0 ∷ 0 ∷ 0 ∷ 0 ∷ 0 ∷ 0 ∷ 0 ∷ 11 ∷ 0 ∷ 22 ∷ 0 ∷ 1 ∷ 0 ∷ 0 ∷ 0 ∷ 3 ∷ 0 ∷ 0 ∷ 0 ∷ 0 ∷ 0 ∷ 0 ∷ 0 ∷ 0 ∷ 0 ∷
    0 ∷ 0 ∷ 4 ∷ 0 ∷ 4 ∷ 0 ∷ 0 ∷ 0 ∷ 0 ∷ 0 ∷ 64 ∷ 0 ∷ 0 ∷ 0 ∷ 0 ∷ 0 ∷ 0 ∷ []

rise_and_depth : told_of with_mvar None (weight (pos 58982400) ∷ [])
    ≡ Ok (pos 65536 ∷ [], pos 320, negsuc 63, 256, 256)
unfolding face_at_instance face_by face_at directory_by offset_of face_offset read_directory metrics_of head_of head_in maxp_of maxp_in hhea_of hhea_in hmtx_of needed_table table_of wide_cmap_of cmap_of records_of segments_at reached_within asked_coordinates coordinates_of fvar_of fvar_in coordinates_in axis_of coordinate_on avar_of is_avar all_mapped mapped face_at_coordinates gvar_in table_bytes ruled number fine_delta share_of_region_axis
rise_and_depth = refl

-- advances are found by phantom points at an instance without HVAR alone
abbrev finds : List ℕ → ℤ → Result Bool Fault
finds file v = face_at_instance file (plain_opening reading.Strict) (Some (record { named = None; axes = weight v ∷ [] })) >>= λ face. Ok (finds_advances face)

found_without_hvar : finds named_instances (pos 58982400) ∷ finds named_instances (pos 26214400) ∷ finds with_hvar (pos 58982400) ∷ []
    ≡ Ok true ∷ Ok false ∷ Ok false ∷ []
unfolding face_at_instance face_by face_at directory_by offset_of face_offset read_directory metrics_of head_of head_in maxp_of maxp_in hhea_of hhea_in hmtx_of needed_table table_of wide_cmap_of cmap_of records_of segments_at reached_within asked_coordinates coordinates_of fvar_of fvar_in coordinates_in axis_of coordinate_on avar_of is_avar all_mapped mapped face_at_coordinates gvar_in table_bytes ruled number fine_delta share_of_region_axis
found_without_hvar = refl
