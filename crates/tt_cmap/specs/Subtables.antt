-- OpenType, "cmap: Character to Glyph Index Mapping Table": version, count of encoding records, and records of
-- platform, encoding and offset. Only subtables of formats 12 and 4 are used, format 12 first (profile).
use Rattle.std.specs.Prelude.{◌≡◌, ℕ, ◌+◌, ◌*◌, ◌<◌, Bool, false, ◌&&◌, ◌==◌, nat_lt, nat_le, if◌then◌else◌, List, [], ◌∷◌, length, codes, Option, Some, None, option_map, Result, Ok, Err, ◌⊎◌, refl}
use Rattle.std.proofs.Common.{inl, inr}
use Rattle.tt_core.specs.Faults.{Fault}
use Rattle.tt_core.specs.declared.fault.Why.{Why}
use Rattle.tt_core.specs.declared.fault.Why.TheVariants as why
use Rattle.tt_core.specs.Faults.{fault_at}
use Rattle.tt_core.specs.Numbers.{unsigned_at}
use Rattle.tt_core.specs.Search.{first_below, IsLeast, first_below_least, first_below_nothing}
use Rattle.tt_cmap.specs.declared.records.Format.{Format}
use Rattle.tt_cmap.specs.declared.records.Format.TheVariants.{Segments, Groups}
use Rattle.tt_cmap.specs.declared.records.Choice.{Choice}
use Rattle.tt_cmap.specs.declared.records.Platform.{Platform}
use Rattle.tt_cmap.specs.declared.records.Platform.TheVariants.{Windows, Unicode}

-- a fault of cmap
abbrev pub cmap_fault : ℕ → Why → Fault
cmap_fault offset why = fault_at (codes "cmap") offset why

abbrev pub record_count : List ℕ → ℕ
record_count table = unsigned_at table 2 2

-- the offset of record i
abbrev pub record_place : ℕ → ℕ
record_place i = 4 + 8 * i

abbrev pub platform_of : List ℕ → ℕ → ℕ
platform_of table i = unsigned_at table (record_place i) 2

abbrev pub encoding_of : List ℕ → ℕ → ℕ
encoding_of table i = unsigned_at table (record_place i + 2) 2

-- the offset of record i's subtable
abbrev pub subtable_of : List ℕ → ℕ → ℕ
subtable_of table i = unsigned_at table (record_place i + 4) 4

-- the number of records, if the header and the records fit
unfoldable pub records_of : List ℕ → Result ℕ Fault
records_of table =
    if nat_lt (length table) 4 then Err (cmap_fault (length table) why.CmapShape)
    else (if nat_lt (length table) (record_place (record_count table)) then Err (cmap_fault (length table) why.CmapShape)
    else Ok (record_count table))

-- the number of a format: 4 is segment mapping to delta values, 12 is segmented coverage
abbrev pub format_number : Format → ℕ
format_number Segments = 4
format_number Groups = 12

-- the encoding of Windows for a format: Unicode's Basic Multilingual Plane, or its full repertoire
abbrev pub windows_encoding : Format → ℕ
windows_encoding Segments = 1
windows_encoding Groups = 10

-- whether record i is for the platform; on Windows, its encoding must be that of the format
abbrev pub is_for : Platform → Format → List ℕ → ℕ → Bool
is_for Windows format table i = (platform_of table i == 3) && (encoding_of table i == windows_encoding format)
is_for Unicode format table i = platform_of table i == 0

-- whether the subtable has a format word, and that word is this format
abbrev pub has_format : Format → List ℕ → ℕ → Bool
has_format format table at = nat_le (at + 2) (length table) && (unsigned_at table at 2 == format_number format)

-- whether the record is for the platform, and its subtable has the format
abbrev pub is_wanted : Platform → Format → List ℕ → ℕ → Bool
is_wanted platform format table i = is_for platform format table i && has_format format table (subtable_of table i)

-- the subtable of the platform's first record whose subtable has the format
abbrev pub first_subtable : Platform → Format → List ℕ → Option ℕ
first_subtable platform format table =
    option_map (subtable_of table) (first_below (record_count table) (is_wanted platform format table))

-- a subtable by its format and its offset
abbrev pub choice_of : Format → ℕ → Choice
choice_of format at = record { format = format; at = at }

-- the first of two, if it exists; else the second
abbrev pub or_else : {A : Type 0} → Option A → Option A → Option A
or_else None other = other
or_else (Some x) other = Some x

-- the first subtable of a format: that of Windows before that of Unicode
abbrev pub first_of : Format → List ℕ → Option Choice
first_of format table =
    option_map (choice_of format) (or_else (first_subtable Windows format table) (first_subtable Unicode format table))

-- the chosen subtable: format 12 before format 4
abbrev pub chosen_subtable : List ℕ → Option Choice
chosen_subtable table = or_else (first_of Groups table) (first_of Segments table)

-- no record of the platform has a subtable of the format
abbrev pub HasNone : Platform → Format → List ℕ → Type 0
HasNone platform format table = (i : ℕ) → i < record_count table → is_wanted platform format table i ≡ false

-- record i is the first for a format: the least of Windows, or, if Windows has none, the least of Unicode
abbrev pub IsFirst : Format → List ℕ → ℕ → Type 0
IsFirst format table i =
    IsLeast (is_wanted Windows format table) (record_count table) i
    ⊎ (HasNone Windows format table × IsLeast (is_wanted Unicode format table) (record_count table) i)

abbrev pub HasNoFirst : Format → List ℕ → Type 0
HasNoFirst format table = HasNone Windows format table × HasNone Unicode format table

-- record i serves with a subtable of the format; format 4 serves only if format 12 has no record
abbrev pub Serves : Format → List ℕ → ℕ → Type 0
Serves Groups table i = IsFirst Groups table i
Serves Segments table i = HasNoFirst Groups table × IsFirst Segments table i

abbrev pub NoneServes : List ℕ → Type 0
NoneServes table = HasNoFirst Groups table × HasNoFirst Segments table

is_first_of : (format : Format) (table : List ℕ) (i : ℕ) → IsFirst format table i → first_of format table
    ≡ Some (choice_of format (subtable_of table i))
is_first_of format table i (inl least) =
    rw (first_below_least (is_wanted Windows format table) (record_count table) i least) refl
is_first_of format table i (inr least) =
    let windows = first_below_nothing (is_wanted Windows format table) (record_count table) least.0 in
    let unicode = first_below_least (is_wanted Unicode format table) (record_count table) i least.1 in
    rw (windows, unicode) refl

none_of : (format : Format) (table : List ℕ) → HasNoFirst format table → first_of format table ≡ None
none_of format table none =
    let windows = first_below_nothing (is_wanted Windows format table) (record_count table) none.0 in
    let unicode = first_below_nothing (is_wanted Unicode format table) (record_count table) none.1 in
    rw (windows, unicode) refl

pub chosen_serves : (format : Format) (table : List ℕ) (i : ℕ) → Serves format table i → chosen_subtable table
    ≡ Some (choice_of format (subtable_of table i))
chosen_serves Groups table i first = rw (is_first_of Groups table i first) refl
chosen_serves Segments table i first = rw (none_of Groups table first.0, is_first_of Segments table i first.1) refl

pub none_chosen : (table : List ℕ) → NoneServes table → chosen_subtable table ≡ None
none_chosen table none = rw (none_of Groups table none.0, none_of Segments table none.1) refl

-- worked values: a record of Unicode with a subtable of format 4, and a record of Windows with the given encoding and
-- format
abbrev two_records : ℕ → ℕ → List ℕ
two_records encoding format =
    0 ∷ 0 ∷ 0 ∷ 2 ∷ 0 ∷ 0 ∷ 0 ∷ 3 ∷ 0 ∷ 0 ∷ 0 ∷ 20 ∷ 0 ∷ 3 ∷ 0 ∷ encoding ∷ 0 ∷ 0 ∷ 0 ∷ 22 ∷ 0 ∷ 4 ∷ 0 ∷ format ∷ []

windows_before_unicode : chosen_subtable (two_records 1 4) ≡ Some (choice_of Segments 22)
windows_before_unicode = refl

another_format : chosen_subtable (two_records 1 6) ≡ Some (choice_of Segments 20)
another_format = refl

groups_before_segments : chosen_subtable (two_records 10 12) ≡ Some (choice_of Groups 22)
groups_before_segments = refl

groups_of_another_encoding : chosen_subtable (two_records 1 12) ≡ Some (choice_of Segments 20)
groups_of_another_encoding = refl
