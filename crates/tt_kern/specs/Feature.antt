-- OpenType, "GPOS" and "OpenType Layout Common Table Formats": the lookups of the feature kern for Latin, in the default
-- language. Other languages and the required feature are not looked at (profile).
use Rattle.std.specs.Prelude.{ℕ, ◌+◌, ◌*◌, Bool, ◌&&◌, ◌==◌, nat_lt, if◌then◌else◌, List, Option, Some, None}
use Rattle.tt_core.specs.Search.{first_below}
use Rattle.tt_kern.specs.Words.{word, long}

-- as many of a list's entries as are looked at, the first 256 (profile)
abbrev pub looked_at : ℕ → ℕ
looked_at n = if nat_lt 256 n then 256 else n

-- the tags latn, DFLT and kern
abbrev pub latin : ℕ
latin = 0x6C61746E

abbrev pub default_script : ℕ
default_script = 0x44464C54

abbrev pub kern : ℕ
kern = 0x6B65726E

-- the place of an offset that counts from another place on; an offset of 0 has none
abbrev pub offset_from : ℕ → ℕ → Option ℕ
offset_from from offset = if offset == 0 then None else Some (from + offset)

-- record i of a list has the tag; records are a tag and an offset, after a count
abbrev pub has_tag : List ℕ → ℕ → ℕ → ℕ → Bool
has_tag b list tag i = long b (list + 2 + 6 * i) == tag

-- the offset in record i, which counts from the list on
abbrev pub record_offset : List ℕ → ℕ → ℕ → ℕ
record_offset b list i = word b (list + 6 + 6 * i)

abbrev pub script_at : List ℕ → ℕ → Option ℕ → Option ℕ
script_at b list None = None
script_at b list (Some i) = offset_from list (record_offset b list i)

-- the first script with the tag
abbrev pub script_with : List ℕ → ℕ → ℕ → Option ℕ
script_with b list tag = script_at b list (first_below (looked_at (word b list)) (has_tag b list tag))

abbrev pub or_else : Option ℕ → Option ℕ → Option ℕ
or_else None other = other
or_else (Some x) other = Some x

-- the script of Latin, or else the default script
abbrev pub script_of : List ℕ → Option ℕ
script_of b = or_else (script_with b (word b 4) latin) (script_with b (word b 4) default_script)

-- the default language of a script
abbrev pub language_in : List ℕ → Option ℕ → Option ℕ
language_in b None = None
language_in b (Some script) = offset_from script (word b script)

-- whether the feature with a number, of n features in a list, is a feature kern
abbrev pub is_kern_of : List ℕ → ℕ → ℕ → ℕ → Bool
is_kern_of b list n number = nat_lt number n && has_tag b list kern number

-- whether number i of a language's features is that of a feature kern
abbrev pub is_kern : List ℕ → ℕ → ℕ → Bool
is_kern b language i = is_kern_of b (word b 6) (looked_at (word b (word b 6))) (word b (language + 6 + 2 * i))

abbrev pub feature_at : List ℕ → ℕ → Option ℕ → Option ℕ
feature_at b language None = None
feature_at b language (Some i) = Some (word b 6 + record_offset b (word b 6) (word b (language + 6 + 2 * i)))

abbrev pub feature_in : List ℕ → Option ℕ → Option ℕ
feature_in b None = None
feature_in b (Some language) = feature_at b language (first_below (looked_at (word b (language + 4))) (is_kern b language))

-- version 1, whatever its minor number, and lists of scripts, features and lookups
abbrev pub has_lists : List ℕ → Bool
has_lists b = (word b 0 == 1) && nat_lt 0 (word b 4) && nat_lt 0 (word b 6) && nat_lt 0 (word b 8)

-- the offset of the feature kern
unfoldable pub feature_of : List ℕ → Option ℕ
feature_of b = if has_lists b then feature_in b (language_in b (script_of b)) else None
