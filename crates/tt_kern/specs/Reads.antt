-- The counts of numbers that are read: for two glyphs, and when the tables are opened.
use Rattle.std.specs.Prelude.{ℕ, zero, suc, ◌+◌, ◌*◌, ◌/◌, ◌%◌, ◌-◌, ◌&&◌, ◌==◌, nat_lt, nat_le, if◌then◌else◌, List, [], ◌∷◌, Option, Some, None, ℤ}
use Rattle.tt_core.specs.Search.{first_below}
use Rattle.tt_kern.specs.declared.kern_table.KernVersion.{KernVersion}
use Rattle.tt_kern.specs.declared.kern_table.KernVersion.TheVariants.{OpenType, Apple}
use Rattle.tt_kern.specs.declared.pairs.list.PairSubtable.{PairSubtable}
use Rattle.tt_kern.specs.declared.search.KeySize.{KeySize}
use Rattle.tt_kern.specs.declared.search.KeySize.TheVariants as size
use Rattle.tt_kern.specs.Coverage.{range_of, coverage_index, class_of}
use Rattle.tt_kern.specs.Feature.{looked_at, latin, default_script, has_tag, script_with, script_of, language_in, is_kern, has_lists, feature_of}
use Rattle.tt_kern.specs.Halves.{asked, reached}
use Rattle.tt_kern.specs.Kerning.{Tables}
use Rattle.tt_kern.specs.KernTable.{version_of, count_taken, list_place, is_usable, pairs_place, pair_count, value_in, subtables_from}
use Rattle.tt_kern.specs.Listed.{pairs_of}
use Rattle.tt_kern.specs.Pair.{values_size, pair_value}
use Rattle.tt_kern.specs.Pairs.{lookups_of, lookup_place, subtable_place, subtable_count}
use Rattle.tt_kern.specs.Search.{is_at_least, found}
use Rattle.tt_kern.specs.Variation.{PairVariation, device_offset}
use Rattle.tt_kern.specs.Words.{word}

-- a number where there is a value, and where there is none
abbrev pub if_some : {A : Type 0} → Option A → ℕ → ℕ
if_some None n = 0
if_some (Some x) n = n

abbrev pub if_none : {A : Type 0} → Option A → ℕ → ℕ
if_none None n = n
if_none (Some x) n = 0

-- a search reads the keys that it tests, and the key where it ends
abbrev pub found_reads : KeySize → List ℕ → ℕ → ℕ → ℕ → ℕ → ℕ
found_reads size b at step n key =
    asked n (is_at_least size b at step key) + (if nat_lt (reached n (is_at_least size b at step key)) n then 1 else 0)

-- the count of ranges, and a search by last glyphs, which ends at a first glyph
unfoldable pub range_reads : List ℕ → ℕ → ℕ → ℕ
range_reads b c g =
    1 + asked (word b (c + 2)) (is_at_least size.Word b (c + 6) 6 g)
    + (if nat_lt (reached (word b (c + 2)) (is_at_least size.Word b (c + 6) 6 g)) (word b (c + 2)) then 1 else 0)

unfoldable pub coverage_reads : List ℕ → ℕ → ℕ → ℕ
coverage_reads b c g =
    if word b c == 1 then 2 + found_reads size.Word b (c + 4) 2 (word b (c + 2)) g
    else (if word b c == 2 then 1 + range_reads b c g + if_some (range_of b c g) 2 else 1)

abbrev pub listed_reads : List ℕ → ℕ → ℕ → ℕ
listed_reads b c g =
    if nat_le (word b (c + 2)) g && nat_lt (g - word b (c + 2)) (word b (c + 4)) then 3 else 2

unfoldable pub class_reads : List ℕ → ℕ → ℕ → ℕ
class_reads b c g =
    if word b c == 1 then 1 + listed_reads b c g
    else (if word b c == 2 then 1 + range_reads b c g + if_some (range_of b c g) 1 else 1)

-- the format, and the advance if the format has one
abbrev pub advance_reads : List ℕ → ℕ → ℕ
advance_reads b s = if word b (s + 4) / 4 % 2 == 1 then 2 else 1

-- the format of a device table, and its indexes if it has any
abbrev pub indexes_reads : List ℕ → ℕ → ℕ → ℕ
indexes_reads b parent offset = if offset == 0 then 0 else (if word b (parent + offset + 4) == 0x8000 then 3 else 1)

-- the format of the values, and the offset of the device table if the format has one
abbrev pub offset_reads : List ℕ → ℕ → ℕ
offset_reads b s = if word b (s + 4) / 64 % 2 == 1 then 2 else 1

-- both, and the device table
unfoldable pub device_reads : List ℕ → ℕ → ℕ → ℕ → ℕ
device_reads b s parent values = offset_reads b s + indexes_reads b parent (device_offset b s values)

-- a device table is read where GDEF has a store
abbrev pub value_at_reads : PairVariation → List ℕ → ℕ → ℕ → ℕ → ℕ
value_at_reads v b s parent values = advance_reads b s + if_some v.store (device_reads b s parent values)

abbrev pub record_reads : PairVariation → List ℕ → ℕ → ℕ → Option ℕ → ℕ
record_reads v b s set None = 0
record_reads v b s set (Some i) = value_at_reads v b s set (set + 2 + (2 + values_size b s) * i + 2)

-- two formats, the count, a search and the values
unfoldable pub set_reads : PairVariation → List ℕ → ℕ → ℕ → ℕ → ℕ
set_reads v b s set h =
    3 + found_reads size.Word b (set + 2) (2 + values_size b s) (word b set) h
    + record_reads v b s set (found size.Word b (set + 2) (2 + values_size b s) (word b set) h)

abbrev pub by_sets_reads : PairVariation → List ℕ → ℕ → ℕ → ℕ → ℕ
by_sets_reads v b s index h =
    if nat_lt index (word b (s + 8)) then 2 + set_reads v b s (s + word b (s + 10 + 2 * index)) h else 1

-- two offsets, two classes and their counts, two formats and the values
unfoldable pub by_classes_reads : PairVariation → List ℕ → ℕ → ℕ → ℕ → ℕ
by_classes_reads v b s g h =
    4 + class_reads b (s + word b (s + 8)) g + class_reads b (s + word b (s + 10)) h
    + (if nat_lt (class_of b (s + word b (s + 8)) g) (word b (s + 12)) && nat_lt (class_of b (s + word b (s + 10)) h) (word b (s + 14))
    then 2 + value_at_reads v b s s (s + 16 + values_size b s * (class_of b (s + word b (s + 8)) g * word b (s + 14) + class_of b (s + word b (s + 10)) h))
    else 0)

abbrev pub index_reads : PairVariation → List ℕ → ℕ → ℕ → ℕ → Option ℕ → ℕ
index_reads v b s g h None = 0
index_reads v b s g h (Some index) =
    if word b s == 1 then 1 + by_sets_reads v b s index h
    else (if word b s == 2 then 1 + by_classes_reads v b s g h else 1)

-- the numbers read of a pair subtable
unfoldable pub pair_reads : PairVariation → List ℕ → ℕ → ℕ → ℕ → ℕ
pair_reads v b s g h =
    1 + coverage_reads b (s + word b (s + 2)) g + index_reads v b s g h (coverage_index b (s + word b (s + 2)) g)

abbrev pub if_applied : Option ℤ → ℕ → ℕ → ℕ
if_applied None applied passed = passed
if_applied (Some v) applied passed = applied

-- those of a list of pair subtables; lookups below a number have ended
abbrev pub reads_from : PairVariation → List ℕ → ℕ → ℕ → ℕ → List PairSubtable → ℕ
reads_from v b g h ended [] = 0
reads_from v b g h ended (p ∷ ps) =
    if nat_lt p.lookup ended then reads_from v b g h ended ps
    else pair_reads v b p.at g h
    + if_applied (pair_value v b p.at g h) (reads_from v b g h (p.lookup + 1) ps) (reads_from v b g h ended ps)

-- the coverage of a subtable of kern is read again for a value, but not in Apple's version
abbrev pub overrides_reads : KernVersion → ℕ
overrides_reads OpenType = 1
overrides_reads Apple = 0

-- the count, a search and the value
abbrev pub value_reads : KernVersion → List ℕ → ℕ → ℕ → ℕ → ℕ
value_reads m b p g h =
    1 + found_reads size.Long b (pairs_place m p) 6 (pair_count m b p) (65536 * g + h)
    + if_some (found size.Long b (pairs_place m p) 6 (pair_count m b p) (65536 * g + h)) 1

unfoldable pub subtable_reads : KernVersion → List ℕ → ℕ → ℕ → ℕ → ℕ
subtable_reads m b g h p =
    if is_usable m b p then 1 + value_reads m b p g h + if_some (value_in m b p g h) (overrides_reads m) else 1

-- each subtable, and its length
abbrev pub subtables_reads : KernVersion → List ℕ → ℕ → ℕ → List ℕ → ℕ
subtables_reads m b g h [] = 0
subtables_reads m b g h (p ∷ ps) = subtable_reads m b g h p + 1 + subtables_reads m b g h ps

abbrev pub kern_reads_by : Option KernVersion → List ℕ → ℕ → ℕ → ℕ
kern_reads_by None b g h = 0
kern_reads_by (Some m) b g h = 1 + subtables_reads m b g h (subtables_from m b (count_taken m b) (list_place m))

-- the version, the count of subtables, and the subtables
unfoldable pub kern_reads : List ℕ → ℕ → ℕ → ℕ
kern_reads b g h = (if word b 0 == 0 then 1 else 2) + kern_reads_by (version_of b) b g h

abbrev pub reads_by : Option ℕ → Tables → ℕ → ℕ → ℕ
reads_by None t g h = kern_reads t.kern g h
reads_by (Some feature) t g h = reads_from t.variation t.gpos g h 0 (pairs_of t.gpos)

-- the count of numbers that the kerning of two glyphs reads
abbrev pub reads_of : Tables → ℕ → ℕ → ℕ
reads_of t g h = reads_by (feature_of t.gpos) t g h

-- the tags of records up to the first that is wanted, and its offset
abbrev pub records_read : ℕ → Option ℕ → ℕ
records_read n None = n
records_read n (Some i) = i + 2

abbrev pub script_reads : List ℕ → ℕ → ℕ → ℕ
script_reads b list tag = 1 + records_read (looked_at (word b list)) (first_below (looked_at (word b list)) (has_tag b list tag))

abbrev pub scripts_reads : List ℕ → ℕ
scripts_reads b =
    1 + script_reads b (word b 4) latin + if_none (script_with b (word b 4) latin) (script_reads b (word b 4) default_script)

abbrev pub language_reads : List ℕ → ℕ
language_reads b = scripts_reads b + if_some (script_of b) 1

-- the numbers of features and their tags, up to the first that is wanted, and its offset
abbrev pub features_read : ℕ → Option ℕ → ℕ
features_read n None = 2 * n
features_read n (Some i) = 2 * i + 3

abbrev pub features_reads : List ℕ → Option ℕ → ℕ
features_reads b None = 0
features_reads b (Some language) =
    3 + features_read (looked_at (word b (language + 4))) (first_below (looked_at (word b (language + 4))) (is_kern b language))

unfoldable pub feature_reads : List ℕ → ℕ
feature_reads b = if has_lists b then 4 + language_reads b + features_reads b (language_in b (script_of b)) else 4

abbrev pub extended_reads : List ℕ → ℕ → ℕ
extended_reads b s = if (word b s == 1) && (word b (s + 2) == 2) then 3 else 2

abbrev pub place_reads : ℕ → List ℕ → ℕ → ℕ
place_reads type b s = if type == 2 then 0 else (if type == 9 then extended_reads b s else 0)

-- the offsets of a lookup's first n subtables, and what an extension has
abbrev pub places_reads : List ℕ → ℕ → ℕ → ℕ
places_reads b lookup zero = 0
places_reads b lookup (suc n) = places_reads b lookup n + 1 + place_reads (word b lookup) b (subtable_place b lookup n)

-- two offsets, the type and the count, and the subtables
abbrev pub lookups_reads : List ℕ → List ℕ → ℕ
lookups_reads b [] = 0
lookups_reads b (number ∷ numbers) =
    4 + places_reads b (lookup_place b number) (subtable_count b (lookup_place b number)) + lookups_reads b numbers

-- the numbers of lookups and their count, the list of lookups and its count, and the lookups
abbrev pub pairs_reads : List ℕ → Option ℕ → ℕ
pairs_reads b None = 0
pairs_reads b (Some feature) = 3 + looked_at (word b (feature + 2)) + lookups_reads b (lookups_of b feature)

-- the count of numbers of GPOS that are read when the tables are opened
unfoldable pub opening_reads : List ℕ → ℕ
opening_reads b = feature_reads b + pairs_reads b (feature_of b)
