-- OpenType, "TrueType Collections": a header of 12 bytes, and an offset for each font's directory. A reading says which
-- directory of a file is read. A collection's minor version, and the three words that version 2.0 has after the
-- offsets, are not used (profile).
use Rattle.std.specs.Prelude.{◌≡◌, refl, ℕ, ◌+◌, ◌*◌, ◌<◌, ◌≤◌, Bool, true, false, not, ◌||◌, ◌==◌, nat_lt, nat_le, if◌then◌else◌, List, [], ◌∷◌, length, take, map, Result, Ok, Err, IsOkAnd, ◌⊎◌}
use Rattle.tt_core.specs.declared.collection.Reading.{Reading}
use Rattle.tt_core.specs.declared.collection.Reading.TheVariants as reading
use Rattle.tt_core.specs.declared.fault.Why.TheVariants as why
use Rattle.tt_core.specs.Directory.{Directory, read_directory, IsDirectoryDefect}
use Rattle.tt_core.specs.Faults.{Fault, file_fault}
use Rattle.tt_core.specs.Numbers.{unsigned_at}
use Rattle.tt_core.specs.Outcomes.{◌>>=◌}

-- 'ttcf'
abbrev pub is_collection : List ℕ → Bool
is_collection file = unsigned_at file 0 4 == 0x74746366

-- majorVersion
abbrev pub major_version : List ℕ → ℕ
major_version file = unsigned_at file 4 2

abbrev pub is_major_version : ℕ → Bool
is_major_version v = (v == 1) || (v == 2)

-- numFonts
abbrev pub font_count : List ℕ → ℕ
font_count file = unsigned_at file 8 4

-- the offset of the header's entry for font n
abbrev pub entry_place : ℕ → ℕ
entry_place n = 12 + 4 * n

-- the offset of font n's directory in a collection
abbrev pub collected_offset : List ℕ → ℕ → Result ℕ Fault
collected_offset file n =
    if not (is_major_version (major_version file)) then Err (file_fault 4 why.CollectionVersion)
    else (if nat_le (font_count file) n then Err (file_fault 8 why.NoFace)
    else (if nat_lt (length file) (entry_place n + 4) then Err (file_fault (length file) why.DirShort)
    else Ok (unsigned_at file (entry_place n) 4)))

-- the directory of a file that is no collection is at the file's start, and the file has one face
abbrev pub only_offset : ℕ → Result ℕ Fault
only_offset n = if not (n == 0) then Err (file_fault 0 why.NoFace) else Ok 0

-- the offset of face n's directory
unfoldable pub face_offset : List ℕ → ℕ → Result ℕ Fault
face_offset file n = if not (is_collection file) then only_offset n else collected_offset file n

abbrev pub offset_with : List ℕ → Reading → Result ℕ Fault
offset_with file reading.Strict = Ok 0
offset_with file (reading.Wide n) = face_offset file n

-- the offset of the directory that is read
unfoldable pub offset_of : List ℕ → Reading → Result ℕ Fault
offset_of file reading =
    if nat_lt (length file) 12 then Err (file_fault (length file) why.DirShort) else offset_with file reading

abbrev pub directory_at : List ℕ → ℕ → Directory
directory_at file at = record { file = file; at = at }

-- the directory that is read, or its first fault
unfoldable pub directory_by : List ℕ → Reading → Result Directory Fault
directory_by file reading = offset_of file reading >>= λ at. read_directory (directory_at file at)

-- the number of faces, if the file has one
unfoldable pub count_of : List ℕ → Result ℕ Fault
count_of file = offset_of file (reading.Wide 0) >>= λ at. Ok (if not (is_collection file) then 1 else font_count file)

-- The defects of refused files, whatever the order of the tests.

-- the header of a collection, or its entry for font n, has a defect; or the file has no font n
abbrev pub IsBadFace : List ℕ → ℕ → Fault → Type 0
IsBadFace file n fault =
    ((is_collection file ≡ false) × (0 < n) × (fault ≡ file_fault 0 why.NoFace))
    ⊎ ((is_collection file ≡ true) × (is_major_version (major_version file) ≡ false)
    × (fault ≡ file_fault 4 why.CollectionVersion))
    ⊎ ((is_collection file ≡ true) × (font_count file ≤ n) × (fault ≡ file_fault 8 why.NoFace))
    ⊎ ((is_collection file ≡ true) × (length file < entry_place n + 4)
    × (fault ≡ file_fault (length file) why.DirShort))

abbrev pub IsBadReading : List ℕ → Reading → Fault → Type 0
IsBadReading file reading.Strict fault = ⊥
IsBadReading file (reading.Wide n) fault = (12 ≤ length file) × IsBadFace file n fault

-- a defect of the place of the directory
abbrev pub IsOffsetDefect : List ℕ → Reading → Fault → Type 0
IsOffsetDefect file reading fault =
    ((length file < 12) × (fault ≡ file_fault (length file) why.DirShort)) ⊎ IsBadReading file reading fault

-- a defect of the directory that is read, or of its place
abbrev pub IsDirectoryDefectBy : List ℕ → Reading → Fault → Type 0
IsDirectoryDefectBy file reading fault =
    IsOffsetDefect file reading fault ⊎ IsOkAnd (offset_of file reading) (λ at. IsDirectoryDefect (directory_at file at) fault)

-- worked values: headers with two offsets, 20 and 144, of each version; one with any other version; and a file with one
-- font
abbrev collection : ℕ → List ℕ
collection version = 116 ∷ 116 ∷ 99 ∷ 102 ∷ 0 ∷ version ∷ 0 ∷ 0 ∷ 0 ∷ 0 ∷ 0 ∷ 2 ∷ 0 ∷ 0 ∷ 0 ∷ 20 ∷ 0 ∷ 0 ∷ 0 ∷ 144 ∷ []

abbrev one_font : List ℕ
one_font = 0 ∷ 1 ∷ 0 ∷ 0 ∷ 0 ∷ 0 ∷ 0 ∷ 0 ∷ 0 ∷ 0 ∷ 0 ∷ 0 ∷ []

each_face : map (λ n. offset_of (collection 1) (reading.Wide n)) (0 ∷ 1 ∷ 2 ∷ [])
    ≡ Ok 20 ∷ Ok 144 ∷ Err (file_fault 8 why.NoFace) ∷ []
unfolding offset_of face_offset
each_face = refl

of_version_2 : offset_of (collection 2) (reading.Wide 1) ≡ Ok 144
unfolding offset_of face_offset
of_version_2 = refl

other_versions : map (λ v. offset_of (collection v) (reading.Wide 0)) (0 ∷ 3 ∷ [])
    ≡ Err (file_fault 4 why.CollectionVersion) ∷ Err (file_fault 4 why.CollectionVersion) ∷ []
unfolding offset_of face_offset
other_versions = refl

a_collection_is_no_font : directory_by (collection 1) reading.Strict ≡ Err (file_fault 0 why.BadVersion)
unfolding directory_by offset_of face_offset read_directory
a_collection_is_no_font = refl

the_only_face : map (λ n. offset_of one_font (reading.Wide n)) (0 ∷ 1 ∷ []) ≡ Ok 0 ∷ Err (file_fault 0 why.NoFace) ∷ []
unfolding offset_of face_offset
the_only_face = refl

-- one byte too few for a header, and a header without its second entry; the first entry is there
short_headers : map (λ k. offset_of (take k (collection 1)) (reading.Wide 1)) (11 ∷ 19 ∷ [])
    ≡ Err (file_fault 11 why.DirShort) ∷ Err (file_fault 19 why.DirShort) ∷ []
unfolding offset_of face_offset
short_headers = refl

the_entry_that_is_needed : offset_of (take 19 (collection 1)) (reading.Wide 0) ≡ Ok 20
unfolding offset_of face_offset
the_entry_that_is_needed = refl

no_font_before_a_short_header : offset_of (take 12 (collection 1)) (reading.Wide 2) ≡ Err (file_fault 8 why.NoFace)
unfolding offset_of face_offset
no_font_before_a_short_header = refl

both_are_counted : map count_of (collection 1 ∷ one_font ∷ []) ≡ Ok 2 ∷ Ok 1 ∷ []
unfolding count_of offset_of face_offset
both_are_counted = refl
