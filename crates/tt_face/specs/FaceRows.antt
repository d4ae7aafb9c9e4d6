-- Worked values: the faces of a collection of two faces that share all tables but hmtx, and of the collection with some
-- bytes changed. OpenType, "TrueType Collections". The collection is built by hand.
use Rattle.std.specs.Prelude.{◌≡◌, refl, ℕ, ◌+◌, List, [], ◌∷◌, ◌++◌, length, take, drop, codes, Result, Ok, Err}
use Rattle.tt_cmap.specs.Format4.{segments_at}
use Rattle.tt_cmap.specs.Halves.{reached_within}
use Rattle.tt_cmap.specs.Lookup.{cmap_of}
use Rattle.tt_cmap.specs.Maps.{glyph_by}
use Rattle.tt_cmap.specs.Subtables.{records_of}
use Rattle.tt_cmap.specs.WideLookup.{wide_cmap_of}
use Rattle.tt_core.specs.Collections.{face_offset, offset_of, directory_by}
use Rattle.tt_core.specs.declared.collection.Reading.{Reading}
use Rattle.tt_core.specs.declared.collection.Reading.TheVariants as reading
use Rattle.tt_core.specs.declared.fault.Why.TheVariants as why
use Rattle.tt_core.specs.Directory.{read_directory, needed_table, table_of}
use Rattle.tt_core.specs.Faults.{Fault, fault_at, file_fault}
use Rattle.tt_core.specs.Outcomes.{◌>>=◌}
use Rattle.tt_metrics.specs.Head.{head_of, head_in}
use Rattle.tt_metrics.specs.Hhea.{hhea_of, hhea_in}
use Rattle.tt_metrics.specs.Hmtx.{hmtx_of}
use Rattle.tt_metrics.specs.Maxp.{maxp_of, maxp_in}
use Rattle.tt_metrics.specs.Metrics.{metrics_of, advance_of}
use Rattle.tt_face.specs.Files.{face_at, face_by}

abbrev collection : List ℕ
collection =
    116 ∷ 116 ∷ 99 ∷ 102 ∷ 0 ∷ 1 ∷ 0 ∷ 0 ∷ 0 ∷ 0 ∷ 0 ∷ 2 ∷ 0 ∷ 0 ∷ 0 ∷ 20 ∷ 0 ∷ 0 ∷ 0 ∷ 144 ∷ 0 ∷ 1 ∷ 0 ∷ 0 ∷ 0 ∷
    7 ∷ 0 ∷ 64 ∷ 0 ∷ 2 ∷ 0 ∷ 48 ∷ 99 ∷ 109 ∷ 97 ∷ 112 ∷ 0 ∷ 0 ∷ 0 ∷ 0 ∷ 0 ∷ 0 ∷ 1 ∷ 12 ∷ 0 ∷ 0 ∷ 0 ∷ 44 ∷ 103 ∷
    108 ∷ 121 ∷ 102 ∷ 0 ∷ 0 ∷ 0 ∷ 0 ∷ 0 ∷ 0 ∷ 1 ∷ 56 ∷ 0 ∷ 0 ∷ 0 ∷ 22 ∷ 104 ∷ 101 ∷ 97 ∷ 100 ∷ 0 ∷ 0 ∷ 0 ∷ 0 ∷ 0 ∷
    0 ∷ 1 ∷ 80 ∷ 0 ∷ 0 ∷ 0 ∷ 54 ∷ 104 ∷ 104 ∷ 101 ∷ 97 ∷ 0 ∷ 0 ∷ 0 ∷ 0 ∷ 0 ∷ 0 ∷ 1 ∷ 136 ∷ 0 ∷ 0 ∷ 0 ∷ 36 ∷ 104 ∷
    109 ∷ 116 ∷ 120 ∷ 0 ∷ 0 ∷ 0 ∷ 0 ∷ 0 ∷ 0 ∷ 1 ∷ 172 ∷ 0 ∷ 0 ∷ 0 ∷ 12 ∷ 108 ∷ 111 ∷ 99 ∷ 97 ∷ 0 ∷ 0 ∷ 0 ∷ 0 ∷ 0 ∷
    0 ∷ 1 ∷ 184 ∷ 0 ∷ 0 ∷ 0 ∷ 8 ∷ 109 ∷ 97 ∷ 120 ∷ 112 ∷ 0 ∷ 0 ∷ 0 ∷ 0 ∷ 0 ∷ 0 ∷ 1 ∷ 192 ∷ 0 ∷ 0 ∷ 0 ∷ 32 ∷ 0 ∷ 1 ∷
    0 ∷ 0 ∷ 0 ∷ 7 ∷ 0 ∷ 64 ∷ 0 ∷ 2 ∷ 0 ∷ 48 ∷ 99 ∷ 109 ∷ 97 ∷ 112 ∷ 0 ∷ 0 ∷ 0 ∷ 0 ∷ 0 ∷ 0 ∷ 1 ∷ 12 ∷ 0 ∷ 0 ∷ 0 ∷
    44 ∷ 103 ∷ 108 ∷ 121 ∷ 102 ∷ 0 ∷ 0 ∷ 0 ∷ 0 ∷ 0 ∷ 0 ∷ 1 ∷ 56 ∷ 0 ∷ 0 ∷ 0 ∷ 22 ∷ 104 ∷ 101 ∷ 97 ∷ 100 ∷ 0 ∷ 0 ∷
    0 ∷ 0 ∷ 0 ∷ 0 ∷ 1 ∷ 80 ∷ 0 ∷ 0 ∷ 0 ∷ 54 ∷ 104 ∷ 104 ∷ 101 ∷ 97 ∷ 0 ∷ 0 ∷ 0 ∷ 0 ∷ 0 ∷ 0 ∷ 1 ∷ 136 ∷ 0 ∷ 0 ∷ 0 ∷
    36 ∷ 104 ∷ 109 ∷ 116 ∷ 120 ∷ 0 ∷ 0 ∷ 0 ∷ 0 ∷ 0 ∷ 0 ∷ 1 ∷ 224 ∷ 0 ∷ 0 ∷ 0 ∷ 12 ∷ 108 ∷ 111 ∷ 99 ∷ 97 ∷ 0 ∷ 0 ∷
    0 ∷ 0 ∷ 0 ∷ 0 ∷ 1 ∷ 184 ∷ 0 ∷ 0 ∷ 0 ∷ 8 ∷ 109 ∷ 97 ∷ 120 ∷ 112 ∷ 0 ∷ 0 ∷ 0 ∷ 0 ∷ 0 ∷ 0 ∷ 1 ∷ 192 ∷ 0 ∷ 0 ∷ 0 ∷
    32 ∷ 0 ∷ 0 ∷ 0 ∷ 1 ∷ 0 ∷ 3 ∷ 0 ∷ 1 ∷ 0 ∷ 0 ∷ 0 ∷ 12 ∷ 0 ∷ 4 ∷ 0 ∷ 32 ∷ 0 ∷ 0 ∷ 0 ∷ 4 ∷ 0 ∷ 4 ∷ 0 ∷ 1 ∷ 0 ∷ 0 ∷
    0 ∷ 66 ∷ 255 ∷ 255 ∷ 0 ∷ 0 ∷ 0 ∷ 65 ∷ 255 ∷ 255 ∷ 255 ∷ 192 ∷ 0 ∷ 1 ∷ 0 ∷ 0 ∷ 0 ∷ 0 ∷ 0 ∷ 1 ∷ 0 ∷ 64 ∷ 0 ∷ 0 ∷
    0 ∷ 192 ∷ 0 ∷ 128 ∷ 0 ∷ 3 ∷ 0 ∷ 0 ∷ 51 ∷ 53 ∷ 51 ∷ 21 ∷ 64 ∷ 128 ∷ 128 ∷ 128 ∷ 0 ∷ 0 ∷ 0 ∷ 1 ∷ 0 ∷ 0 ∷ 0 ∷ 1 ∷
    0 ∷ 0 ∷ 0 ∷ 0 ∷ 0 ∷ 0 ∷ 95 ∷ 15 ∷ 60 ∷ 245 ∷ 0 ∷ 0 ∷ 4 ∷ 0 ∷ 0 ∷ 0 ∷ 0 ∷ 0 ∷ 0 ∷ 0 ∷ 0 ∷ 0 ∷ 0 ∷ 0 ∷ 0 ∷ 0 ∷
    0 ∷ 0 ∷ 0 ∷ 0 ∷ 0 ∷ 0 ∷ 0 ∷ 0 ∷ 1 ∷ 0 ∷ 1 ∷ 0 ∷ 0 ∷ 0 ∷ 0 ∷ 8 ∷ 0 ∷ 2 ∷ 0 ∷ 0 ∷ 0 ∷ 0 ∷ 0 ∷ 0 ∷ 0 ∷ 1 ∷ 0 ∷ 0 ∷
    1 ∷ 0 ∷ 0 ∷ 0 ∷ 0 ∷ 0 ∷ 1 ∷ 0 ∷ 0 ∷ 0 ∷ 0 ∷ 0 ∷ 1 ∷ 0 ∷ 0 ∷ 1 ∷ 0 ∷ 0 ∷ 0 ∷ 0 ∷ 0 ∷ 0 ∷ 0 ∷ 0 ∷ 0 ∷ 0 ∷ 0 ∷ 0 ∷
    0 ∷ 0 ∷ 0 ∷ 3 ∷ 1 ∷ 0 ∷ 0 ∷ 0 ∷ 1 ∷ 0 ∷ 0 ∷ 64 ∷ 1 ∷ 0 ∷ 0 ∷ 0 ∷ 0 ∷ 0 ∷ 0 ∷ 0 ∷ 0 ∷ 11 ∷ 0 ∷ 11 ∷ 0 ∷ 1 ∷ 0 ∷
    0 ∷ 0 ∷ 3 ∷ 0 ∷ 0 ∷ 0 ∷ 0 ∷ 0 ∷ 0 ∷ 0 ∷ 0 ∷ 0 ∷ 0 ∷ 0 ∷ 4 ∷ 0 ∷ 4 ∷ 0 ∷ 0 ∷ 0 ∷ 0 ∷ 0 ∷ 64 ∷ 0 ∷ 0 ∷ 0 ∷ 0 ∷
    0 ∷ 0 ∷ 2 ∷ 0 ∷ 0 ∷ 0 ∷ 2 ∷ 0 ∷ 0 ∷ 64 ∷ 2 ∷ 0 ∷ 0 ∷ 0 ∷ []

-- the collection with these bytes at an offset
abbrev with_bytes : ℕ → List ℕ → List ℕ
with_bytes at bytes = take at collection ++ bytes ++ drop (at + length bytes) collection

-- the glyph and the advance of A, or the file's first fault
abbrev letter_by : List ℕ → Reading → Result (ℕ × ℕ) Fault
letter_by file r = face_by file r >>= λ f. Ok (glyph_by f.cmap 65, advance_of f.metrics (glyph_by f.cmap 65))

a_collection_is_no_font : letter_by collection reading.Strict ≡ Err (file_fault 0 why.BadVersion)
unfolding face_by face_at directory_by offset_of face_offset read_directory metrics_of head_of head_in maxp_of maxp_in hhea_of hhea_in hmtx_of needed_table table_of wide_cmap_of cmap_of records_of segments_at reached_within
a_collection_is_no_font = refl

face_0 : letter_by collection (reading.Wide 0) ≡ Ok (1, 256)
unfolding face_by face_at directory_by offset_of face_offset read_directory metrics_of head_of head_in maxp_of maxp_in hhea_of hhea_in hmtx_of needed_table table_of wide_cmap_of cmap_of records_of segments_at reached_within
face_0 = refl

face_1 : letter_by collection (reading.Wide 1) ≡ Ok (1, 512)
unfolding face_by face_at directory_by offset_of face_offset read_directory metrics_of head_of head_in maxp_of maxp_in hhea_of hhea_in hmtx_of needed_table table_of wide_cmap_of cmap_of records_of segments_at reached_within
face_1 = refl

face_2 : letter_by collection (reading.Wide 2) ≡ Err (file_fault 8 why.NoFace)
unfolding face_by face_at directory_by offset_of face_offset read_directory metrics_of head_of head_in maxp_of maxp_in hhea_of hhea_in hmtx_of needed_table table_of wide_cmap_of cmap_of records_of segments_at reached_within
face_2 = refl

version_2 : letter_by (with_bytes 4 (0 ∷ 2 ∷ 0 ∷ 0 ∷ [])) (reading.Wide 1) ≡ Ok (1, 512)
unfolding face_by face_at directory_by offset_of face_offset read_directory metrics_of head_of head_in maxp_of maxp_in hhea_of hhea_in hmtx_of needed_table table_of wide_cmap_of cmap_of records_of segments_at reached_within
version_2 = refl

version_3 : letter_by (with_bytes 4 (0 ∷ 3 ∷ 0 ∷ 0 ∷ [])) (reading.Wide 0) ≡ Err (file_fault 4 why.CollectionVersion)
unfolding face_by face_at directory_by offset_of face_offset read_directory metrics_of head_of head_in maxp_of maxp_in hhea_of hhea_in hmtx_of needed_table table_of wide_cmap_of cmap_of records_of segments_at reached_within
version_3 = refl

version_0 : letter_by (with_bytes 4 (0 ∷ 0 ∷ 0 ∷ 0 ∷ [])) (reading.Wide 0) ≡ Err (file_fault 4 why.CollectionVersion)
unfolding face_by face_at directory_by offset_of face_offset read_directory metrics_of head_of head_in maxp_of maxp_in hhea_of hhea_in hmtx_of needed_table table_of wide_cmap_of cmap_of records_of segments_at reached_within
version_0 = refl

no_faces : letter_by (with_bytes 8 (0 ∷ 0 ∷ 0 ∷ 0 ∷ [])) (reading.Wide 0) ≡ Err (file_fault 8 why.NoFace)
unfolding face_by face_at directory_by offset_of face_offset read_directory metrics_of head_of head_in maxp_of maxp_in hhea_of hhea_in hmtx_of needed_table table_of wide_cmap_of cmap_of records_of segments_at reached_within
no_faces = refl

-- numFonts is 0 too
version_before_number : letter_by (with_bytes 4 (0 ∷ 3 ∷ 0 ∷ 0 ∷ 0 ∷ 0 ∷ 0 ∷ 0 ∷ [])) (reading.Wide 0) ≡ Err (file_fault 4 why.CollectionVersion)
unfolding face_by face_at directory_by offset_of face_offset read_directory metrics_of head_of head_in maxp_of maxp_in hhea_of hhea_in hmtx_of needed_table table_of wide_cmap_of cmap_of records_of segments_at reached_within
version_before_number = refl

four_billion_faces : letter_by (with_bytes 8 (255 ∷ 255 ∷ 255 ∷ 255 ∷ [])) (reading.Wide 200) ≡ Err (file_fault 492 why.DirShort)
unfolding face_by face_at directory_by offset_of face_offset read_directory metrics_of head_of head_in maxp_of maxp_in hhea_of hhea_in hmtx_of needed_table table_of wide_cmap_of cmap_of records_of segments_at reached_within
four_billion_faces = refl

header_cut_off : letter_by (take 11 collection) (reading.Wide 0) ≡ Err (file_fault 11 why.DirShort)
unfolding face_by face_at directory_by offset_of face_offset read_directory metrics_of head_of head_in maxp_of maxp_in hhea_of hhea_in hmtx_of needed_table table_of wide_cmap_of cmap_of records_of segments_at reached_within
header_cut_off = refl

entry_cut_off : letter_by (take 12 collection) (reading.Wide 0) ≡ Err (file_fault 12 why.DirShort)
unfolding face_by face_at directory_by offset_of face_offset read_directory metrics_of head_of head_in maxp_of maxp_in hhea_of hhea_in hmtx_of needed_table table_of wide_cmap_of cmap_of records_of segments_at reached_within
entry_cut_off = refl

no_face_2_in_a_header : letter_by (take 12 collection) (reading.Wide 2) ≡ Err (file_fault 8 why.NoFace)
unfolding face_by face_at directory_by offset_of face_offset read_directory metrics_of head_of head_in maxp_of maxp_in hhea_of hhea_in hmtx_of needed_table table_of wide_cmap_of cmap_of records_of segments_at reached_within
no_face_2_in_a_header = refl

far_offset : letter_by (with_bytes 16 (255 ∷ 255 ∷ 255 ∷ 240 ∷ [])) (reading.Wide 1) ≡ Err (file_fault 492 why.DirShort)
unfolding face_by face_at directory_by offset_of face_offset read_directory metrics_of head_of head_in maxp_of maxp_in hhea_of hhea_in hmtx_of needed_table table_of wide_cmap_of cmap_of records_of segments_at reached_within
far_offset = refl

far_offset_of_another : letter_by (with_bytes 16 (255 ∷ 255 ∷ 255 ∷ 240 ∷ [])) (reading.Wide 0) ≡ Ok (1, 256)
unfolding face_by face_at directory_by offset_of face_offset read_directory metrics_of head_of head_in maxp_of maxp_in hhea_of hhea_in hmtx_of needed_table table_of wide_cmap_of cmap_of records_of segments_at reached_within
far_offset_of_another = refl

header_as_directory : letter_by (with_bytes 16 (0 ∷ 0 ∷ 0 ∷ 0 ∷ [])) (reading.Wide 1) ≡ Err (file_fault 0 why.BadVersion)
unfolding face_by face_at directory_by offset_of face_offset read_directory metrics_of head_of head_in maxp_of maxp_in hhea_of hhea_in hmtx_of needed_table table_of wide_cmap_of cmap_of records_of segments_at reached_within
header_as_directory = refl

two_equal_offsets : letter_by (with_bytes 16 (0 ∷ 0 ∷ 0 ∷ 20 ∷ [])) (reading.Wide 1) ≡ Ok (1, 256)
unfolding face_by face_at directory_by offset_of face_offset read_directory metrics_of head_of head_in maxp_of maxp_in hhea_of hhea_in hmtx_of needed_table table_of wide_cmap_of cmap_of records_of segments_at reached_within
two_equal_offsets = refl

-- version OTTO
cff_face : letter_by (with_bytes 20 (79 ∷ 84 ∷ 84 ∷ 79 ∷ [])) (reading.Wide 0) ≡ Err (file_fault 20 why.BadVersion)
unfolding face_by face_at directory_by offset_of face_offset read_directory metrics_of head_of head_in maxp_of maxp_in hhea_of hhea_in hmtx_of needed_table table_of wide_cmap_of cmap_of records_of segments_at reached_within
cff_face = refl

face_beside_cff : letter_by (with_bytes 20 (79 ∷ 84 ∷ 84 ∷ 79 ∷ [])) (reading.Wide 1) ≡ Ok (1, 512)
unfolding face_by face_at directory_by offset_of face_offset read_directory metrics_of head_of head_in maxp_of maxp_in hhea_of hhea_in hmtx_of needed_table table_of wide_cmap_of cmap_of records_of segments_at reached_within
face_beside_cff = refl

-- hmtx of face 1 is one byte longer
table_past_the_end : letter_by (with_bytes 232 (0 ∷ 0 ∷ 0 ∷ 13 ∷ [])) (reading.Wide 1) ≡ Err (file_fault 220 why.TableRange)
unfolding face_by face_at directory_by offset_of face_offset read_directory metrics_of head_of head_in maxp_of maxp_in hhea_of hhea_in hmtx_of needed_table table_of wide_cmap_of cmap_of records_of segments_at reached_within
table_past_the_end = refl

-- the tag is hmty
no_hmtx : letter_by (with_bytes 220 (104 ∷ 109 ∷ 116 ∷ 121 ∷ [])) (reading.Wide 1) ≡ Err (fault_at (codes "hmtx") 0 why.NoTable)
unfolding face_by face_at directory_by offset_of face_offset read_directory metrics_of head_of head_in maxp_of maxp_in hhea_of hhea_in hmtx_of needed_table table_of wide_cmap_of cmap_of records_of segments_at reached_within
no_hmtx = refl

-- face 1 has 64 records
many_records : letter_by (with_bytes 148 (0 ∷ 64 ∷ [])) (reading.Wide 1) ≡ Err (file_fault 492 why.DirShort)
unfolding face_by face_at directory_by offset_of face_offset read_directory metrics_of head_of head_in maxp_of maxp_in hhea_of hhea_in hmtx_of needed_table table_of wide_cmap_of cmap_of records_of segments_at reached_within
many_records = refl
