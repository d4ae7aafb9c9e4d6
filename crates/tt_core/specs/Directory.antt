-- Apple TrueType Reference Manual, "The Font Directory": the offset subtable of 12 bytes, and a record of 16 bytes for
-- each table. OpenType, "TrueType Collections": a directory may be anywhere in its file, and a table's offset counts
-- from the file's start. Search words, checksums, the order of the records and alignment are not tested (profile).
use Rattle.std.specs.Prelude.{◌≡◌, ℕ, ◌+◌, ◌*◌, ◌<◌, ◌≤◌, Bool, false, not, ◌||◌, ◌==◌, nat_lt, if◌then◌else◌, List, [], ◌∷◌, length, take, slice_range, codes, bytes_eq, Option, Some, None, is_some, Result, Ok, Err, IsOkAnd, OnOk, ◌⊎◌, refl, map}
use Rattle.std.proofs.Common.{inl, inr, subst}
use Rattle.tt_core.specs.declared.fault.Why.TheVariants as why
use Rattle.tt_core.specs.Faults.{Fault, fault_at, file_fault}
use Rattle.tt_core.specs.Numbers.{unsigned_at}
use Rattle.tt_core.specs.Outcomes.{◌>>=◌}
use Rattle.tt_core.specs.Search.{first_below}

-- a directory: its file, and its offset in the file
pub record Directory : Type 0 where
  pub file : List ℕ
  pub at : ℕ

-- the supported versions: 1.0 and 'true'
abbrev pub is_version : ℕ → Bool
is_version v = (v == 0x00010000) || (v == 0x74727565)

abbrev pub version : Directory → ℕ
version d = unsigned_at d.file d.at 4

abbrev pub record_count : Directory → ℕ
record_count d = unsigned_at d.file (d.at + 4) 2

-- the offset of record i in the file
abbrev pub record_place : Directory → ℕ → ℕ
record_place d i = d.at + 12 + 16 * i

-- the offset of the directory's end in the file
abbrev pub directory_end : Directory → ℕ
directory_end d = record_place d (record_count d)

abbrev pub record_tag : Directory → ℕ → List ℕ
record_tag d i = slice_range d.file (record_place d i) (record_place d i + 4)

-- the offset of record i's table in the file
abbrev pub record_offset : Directory → ℕ → ℕ
record_offset d i = unsigned_at d.file (record_place d i + 8) 4

-- the end of record i's table; the sum has no bound
abbrev pub record_end : Directory → ℕ → ℕ
record_end d i = record_offset d i + unsigned_at d.file (record_place d i + 12) 4

-- the directory itself, or its first fault
unfoldable pub read_directory : Directory → Result Directory Fault
read_directory d =
    if nat_lt (length d.file) (d.at + 12) then Err (file_fault (length d.file) why.DirShort)
    else (if not (is_version (version d)) then Err (file_fault d.at why.BadVersion)
    else (if nat_lt (length d.file) (directory_end d) then Err (file_fault (length d.file) why.DirShort) else Ok d))

-- the directory of a file with one font is at the file's start
abbrev pub file_directory : List ℕ → Directory
file_directory file = record { file = file; at = 0 }

abbrev pub directory_of : List ℕ → Result Directory Fault
directory_of file = read_directory (file_directory file)

-- whether record i has the tag
abbrev pub has_tag : Directory → List ℕ → ℕ → Bool
has_tag d tag i = bytes_eq (record_tag d i) tag

-- the first record with a tag
abbrev pub record_of : Directory → List ℕ → Option ℕ
record_of d tag = first_below (record_count d) (has_tag d tag)

-- the bytes that a record names
abbrev pub named_by : Directory → Option ℕ → Result (Option (List ℕ)) Fault
named_by d None = Ok None
named_by d (Some i) =
    if nat_lt (length d.file) (record_end d i) then Err (file_fault (record_place d i) why.TableRange)
    else Ok (Some (slice_range d.file (record_offset d i) (record_end d i)))

-- the table with a tag: the slice that the first record with the tag names
unfoldable pub table_of : Directory → List ℕ → Result (Option (List ℕ)) Fault
table_of d tag = named_by d (record_of d tag)

-- a table that the font must have
abbrev pub or_missing : List ℕ → Option (List ℕ) → Result (List ℕ) Fault
or_missing tag None = Err (fault_at tag 0 why.NoTable)
or_missing tag (Some table) = Ok table

unfoldable pub needed_table : Directory → List ℕ → Result (List ℕ) Fault
needed_table d tag = table_of d tag >>= or_missing tag

-- The defects of refused files, whatever the order of the tests.

-- a defect of the directory itself: it does not fit, or its version is not supported
abbrev pub IsDirectoryDefect : Directory → Fault → Type 0
IsDirectoryDefect d fault =
    (((length d.file < d.at + 12) ⊎ (length d.file < directory_end d))
    × (fault ≡ file_fault (length d.file) why.DirShort))
    ⊎ ((d.at + 4 ≤ length d.file) × (is_version (version d) ≡ false) × (fault ≡ file_fault d.at why.BadVersion))

-- a record names bytes past the end of the file
abbrev pub RecordPassesEnd : Directory → Option ℕ → Fault → Type 0
RecordPassesEnd d None fault = ⊥
RecordPassesEnd d (Some i) fault = (length d.file < record_end d i)
    × (fault ≡ file_fault (record_place d i) why.TableRange)

-- the first record with the tag names bytes past the end of the file
abbrev pub PassesEnd : Directory → List ℕ → Fault → Type 0
PassesEnd d tag fault = RecordPassesEnd d (record_of d tag) fault

-- a needed table is missing, or passes the end of the file
abbrev pub IsTableDefect : Directory → List ℕ → Fault → Type 0
IsTableDefect d tag fault = PassesEnd d tag fault ⊎ ((is_some (record_of d tag) ≡ false)
    × (fault ≡ fault_at tag 0 why.NoTable))

-- a defect of a table: it is missing, it passes the end of the file, or its bytes are bad
abbrev pub IsDefectIn : Directory → List ℕ → (List ℕ → Fault → Type 0) → Fault → Type 0
IsDefectIn d tag IsBad fault = IsTableDefect d tag fault ⊎ IsOkAnd (needed_table d tag) (λ table. IsBad table fault)

-- no defect of this kind exists
abbrev pub HasNo : (Fault → Type 0) → Type 0
HasNo IsOne = (fault : Fault) → ¬ IsOne fault

-- a table that exists and whose bytes are good has no defect
pub HasNo-IsDefectIn : (d : Directory) (tag table : List ℕ) (IsBad : List ℕ → Fault → Type 0)
    → needed_table d tag ≡ Ok table → HasNo (IsTableDefect d tag) → HasNo (IsBad table)
    → HasNo (IsDefectIn d tag IsBad)
HasNo-IsDefectIn d tag table IsBad there kept good = λ fault. λ defect. elim defect [
  | inl missing ↦ kept fault missing
  | inr bad ↦ let P : Result (List ℕ) Fault → Type 0 = λ r. IsOkAnd r (λ t. IsBad t fault) in good fault
      (subst P there bad)
]

-- the corresponding statement for a call's result
pub OnOk-HasNo-IsDefectIn : {X : Type 0} (r : Result X Fault) (d : Directory) (tag table : List ℕ)
    (IsBad : List ℕ → Fault → Type 0) → needed_table d tag ≡ Ok table → HasNo (IsTableDefect d tag)
    → OnOk r (HasNo (IsBad table)) → OnOk r (HasNo (IsDefectIn d tag IsBad))
OnOk-HasNo-IsDefectIn (Err e) d tag table IsBad there kept good = tt
OnOk-HasNo-IsDefectIn (Ok x) d tag table IsBad there kept good =
    HasNo-IsDefectIn d tag table IsBad there kept good

-- worked values: a file with one table of two bytes
abbrev one_table : List ℕ
one_table =
    0 ∷ 1 ∷ 0 ∷ 0 ∷ 0 ∷ 1 ∷ 0 ∷ 0 ∷ 0 ∷ 0 ∷ 0 ∷ 0
    ∷ 104 ∷ 101 ∷ 97 ∷ 100 ∷ 0 ∷ 0 ∷ 0 ∷ 0 ∷ 0 ∷ 0 ∷ 0 ∷ 28 ∷ 0 ∷ 0 ∷ 0 ∷ 2 ∷ 7 ∷ 8 ∷ []

its_directory : directory_of one_table ≡ Ok (file_directory one_table)
unfolding read_directory
its_directory = refl

its_maxp : needed_table (file_directory one_table) (codes "maxp") ≡ Err (fault_at (codes "maxp") 0 why.NoTable)
unfolding needed_table table_of
its_maxp = refl

a_table_past_the_end : table_of (file_directory (take 29 one_table)) (codes "head") ≡ Err (file_fault 12 why.TableRange)
unfolding table_of
a_table_past_the_end = refl

a_short_file : directory_of (take 11 one_table) ≡ Err (file_fault 11 why.DirShort)
unfolding read_directory
a_short_file = refl

-- a directory behind its table: the table's offset counts from the file's start
abbrev behind_its_table : List ℕ
behind_its_table =
    7 ∷ 8
    ∷ 0 ∷ 1 ∷ 0 ∷ 0 ∷ 0 ∷ 1 ∷ 0 ∷ 0 ∷ 0 ∷ 0 ∷ 0 ∷ 0
    ∷ 104 ∷ 101 ∷ 97 ∷ 100 ∷ 0 ∷ 0 ∷ 0 ∷ 0 ∷ 0 ∷ 0 ∷ 0 ∷ 0 ∷ 0 ∷ 0 ∷ 0 ∷ 2 ∷ []

abbrev at_2 : List ℕ → Directory
at_2 file = record { file = file; at = 2 }

elsewhere : read_directory (at_2 behind_its_table) ≡ Ok (at_2 behind_its_table)
unfolding read_directory
elsewhere = refl

-- the same table, behind its directory and before it
head_of_each : map (λ d. table_of d (codes "head")) (file_directory one_table ∷ at_2 behind_its_table ∷ [])
    ≡ Ok (Some (7 ∷ 8 ∷ [])) ∷ Ok (Some (7 ∷ 8 ∷ [])) ∷ []
unfolding table_of
head_of_each = refl

maxp_elsewhere : needed_table (at_2 behind_its_table) (codes "maxp") ≡ Err (fault_at (codes "maxp") 0 why.NoTable)
unfolding needed_table table_of
maxp_elsewhere = refl

past_the_end_elsewhere : table_of (record { file = 7 ∷ take 28 one_table; at = 1 }) (codes "head")
    ≡ Err (file_fault 13 why.TableRange)
unfolding table_of
past_the_end_elsewhere = refl

no_version_elsewhere : read_directory (record { file = behind_its_table; at = 1 }) ≡ Err (file_fault 1 why.BadVersion)
unfolding read_directory
no_version_elsewhere = refl

short_elsewhere : read_directory (at_2 (take 29 behind_its_table)) ≡ Err (file_fault 29 why.DirShort)
unfolding read_directory
short_elsewhere = refl
