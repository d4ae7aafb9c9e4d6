-- OpenType, "name: Naming Table": a header of 6 bytes, a record of 12 bytes for each name, and the strings. A name of a
-- face is printed by its first 64 characters in ASCII; a defect of the table is an empty name (profile).
use Rattle.std.specs.Prelude.{◌≡◌, refl, ℕ, ◌+◌, ◌*◌, ◌/◌, min, Bool, true, false, not, ◌&&◌, ◌||◌, ◌==◌, nat_lt, nat_le, if◌then◌else◌, List, [], ◌∷◌, length, map, take, drop, codes, slice_range, Option, Some, None, Result, Ok, Err}
use Rattle.std.specs.List.{range_with_len}
use Rattle.tt_core.specs.Directory.{Directory, file_directory, table_of}
use Rattle.tt_core.specs.Faults.{Fault}
use Rattle.tt_core.specs.Numbers.{unsigned_at}
use Rattle.tt_core.specs.Search.{first_below}

-- 'name'
abbrev pub name_tag : List ℕ
name_tag = codes "name"

-- count
abbrev pub name_count : List ℕ → ℕ
name_count t = unsigned_at t 2 2

-- the offset of record i
abbrev pub name_place : ℕ → ℕ
name_place i = 6 + 12 * i

-- whether the header and all records fit
abbrev pub has_records : List ℕ → Bool
has_records t = if nat_lt (length t) 6 then false else not (nat_lt (length t) (name_place (name_count t)))

-- nameID of the family's name and of the full name
abbrev pub family_name : ℕ
family_name = 1

abbrev pub full_name : ℕ
full_name = 4

-- whether record i is a name with this nameID for Windows, and in American English if that is wanted: platformID,
-- nameID and languageID
abbrev pub is_name : ℕ → Bool → List ℕ → ℕ → Bool
is_name id english t i =
    (unsigned_at t (name_place i) 2 == 3) && ((unsigned_at t (name_place i + 6) 2 == id)
    && (not english || (unsigned_at t (name_place i + 4) 2 == 0x0409)))

abbrev pub first_name : ℕ → Bool → List ℕ → Option ℕ
first_name id english t = first_below (name_count t) (is_name id english t)

abbrev pub or_other : Option ℕ → Option ℕ → Option ℕ
or_other None other = other
or_other (Some i) other = Some i

-- the record of the name that is printed: in American English before any other
abbrev pub chosen_name : ℕ → List ℕ → Option ℕ
chosen_name id t = or_other (first_name id true t) (first_name id false t)

-- the offset of record i's string: storageOffset and stringOffset
abbrev pub string_start : List ℕ → ℕ → ℕ
string_start t i = unsigned_at t 4 2 + unsigned_at t (name_place i + 10) 2

abbrev pub string_end : List ℕ → ℕ → ℕ
string_end t i = string_start t i + unsigned_at t (name_place i + 8) 2

-- the string of record i, empty if it does not fit
abbrev pub string_at : List ℕ → ℕ → List ℕ
string_at t i = if nat_lt (length t) (string_end t i) then [] else slice_range t (string_start t i) (string_end t i)

abbrev pub string_by : List ℕ → Option ℕ → List ℕ
string_by t None = []
string_by t (Some i) = string_at t i

abbrev pub chosen_string : ℕ → List ℕ → List ℕ
chosen_string id t = string_by t (chosen_name id t)

-- the string in a table of names, if the records fit
abbrev pub string_in : ℕ → List ℕ → List ℕ
string_in id t = if has_records t then chosen_string id t else []

abbrev pub string_of : ℕ → Result (Option (List ℕ)) Fault → List ℕ
string_of id (Ok (Some t)) = string_in id t
string_of id (Ok None) = []
string_of id (Err fault) = []

-- a character as ASCII: itself from blank to tilde, else a question mark
abbrev pub told_character : ℕ → ℕ
told_character c = if nat_le 0x20 c && nat_le c 0x7E then c else 0x3F

-- the characters of a string are words, and the first 64 are printed
abbrev pub told_text : List ℕ → List ℕ
told_text string = map (λ k. told_character (unsigned_at string (2 * k) 2)) (range_with_len 0 (min 64 (length string / 2)))

-- the name of a face with this nameID
unfoldable pub name_of : ℕ → Directory → List ℕ
name_of id d = told_text (string_of id (table_of d name_tag))

-- the full name of a face
unfoldable pub full_name_of : Directory → List ℕ
full_name_of d = told_text (string_of full_name (table_of d name_tag))

-- the name of its family
unfoldable pub family_name_of : Directory → List ℕ
family_name_of d = told_text (string_of family_name (table_of d name_tag))

-- worked values: a table with the full name 'M' for Macintosh, the family name 'Z', and the full names 'B', 'a' with two
-- dots in German and 'A', tilde in American English
abbrev four_names : List ℕ
four_names =
    0 ∷ 0 ∷ 0 ∷ 4 ∷ 0 ∷ 54
    ∷ 0 ∷ 1 ∷ 0 ∷ 0 ∷ 0 ∷ 0 ∷ 0 ∷ 4 ∷ 0 ∷ 1 ∷ 0 ∷ 0
    ∷ 0 ∷ 3 ∷ 0 ∷ 1 ∷ 4 ∷ 9 ∷ 0 ∷ 1 ∷ 0 ∷ 2 ∷ 0 ∷ 1
    ∷ 0 ∷ 3 ∷ 0 ∷ 1 ∷ 4 ∷ 7 ∷ 0 ∷ 4 ∷ 0 ∷ 4 ∷ 0 ∷ 3
    ∷ 0 ∷ 3 ∷ 0 ∷ 1 ∷ 4 ∷ 9 ∷ 0 ∷ 4 ∷ 0 ∷ 4 ∷ 0 ∷ 7
    ∷ 77 ∷ 0 ∷ 90 ∷ 0 ∷ 66 ∷ 0 ∷ 228 ∷ 0 ∷ 65 ∷ 0 ∷ 126 ∷ []

in_american_english : told_text (string_in full_name four_names) ≡ 65 ∷ 126 ∷ []
in_american_english = refl

-- without the fourth record
in_german : told_text (string_in full_name (0 ∷ 0 ∷ 0 ∷ 3 ∷ drop 4 four_names)) ≡ 66 ∷ 63 ∷ []
in_german = refl

no_full_name : told_text (string_in full_name (0 ∷ 0 ∷ 0 ∷ 2 ∷ drop 4 four_names)) ≡ []
no_full_name = refl

records_cut_off : told_text (string_in full_name (take 53 four_names)) ≡ []
records_cut_off = refl

string_cut_off : told_text (string_in full_name (take 64 four_names)) ≡ []
string_cut_off = refl

header_cut_off : told_text (string_in full_name (take 5 four_names)) ≡ []
header_cut_off = refl

in_its_family : told_text (string_in family_name four_names) ≡ 90 ∷ []
in_its_family = refl

half_a_character : told_text (0 ∷ 65 ∷ 0 ∷ []) ≡ 65 ∷ []
half_a_character = refl

no_ascii : told_text (0 ∷ 31 ∷ 0 ∷ 32 ∷ 0 ∷ 127 ∷ 1 ∷ 65 ∷ []) ≡ 63 ∷ 32 ∷ 63 ∷ 63 ∷ []
no_ascii = refl

no_table : full_name_of (file_directory (0 ∷ 1 ∷ 0 ∷ 0 ∷ 0 ∷ 0 ∷ 0 ∷ 0 ∷ 0 ∷ 0 ∷ 0 ∷ 0 ∷ [])) ≡ []
unfolding full_name_of table_of
no_table = refl

no_name : name_of 258 (file_directory (0 ∷ 1 ∷ 0 ∷ 0 ∷ 0 ∷ 0 ∷ 0 ∷ 0 ∷ 0 ∷ 0 ∷ 0 ∷ 0 ∷ [])) ≡ []
unfolding name_of table_of
no_name = refl

full_names_are_names : (d : Directory) → full_name_of d ≡ name_of full_name d
unfolding full_name_of name_of
full_names_are_names d = refl
