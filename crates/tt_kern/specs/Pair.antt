-- OpenType, "GPOS", lookup type 2: pair adjustment positioning. Placements and the second glyph's value are passed over
-- (profile).
use Rattle.std.specs.Prelude.{ℕ, ◌+◌, ◌*◌, ◌/◌, ◌%◌, ◌&&◌, ◌==◌, nat_lt, if◌then◌else◌, List, Option, Some, None, ℤ, pos}
use Rattle.tt_kern.specs.declared.search.KeySize.TheVariants as size
use Rattle.tt_kern.specs.Coverage.{coverage_index, class_of}
use Rattle.tt_kern.specs.Search.{found}
use Rattle.tt_kern.specs.Variation.{PairVariation, varied_advance}
use Rattle.tt_kern.specs.Words.{word, signed}

-- the count of bits that are set in the low byte of a value format; each has two bytes in a record
abbrev pub bits : ℕ → ℕ
bits v = v % 2 + v / 2 % 2 + v / 4 % 2 + v / 8 % 2 + v / 16 % 2 + v / 32 % 2 + v / 64 % 2 + v / 128 % 2

-- bytes of a record of both glyphs' values, by valueFormat1 and valueFormat2
abbrev pub values_size : List ℕ → ℕ → ℕ
values_size b s = 2 * bits (word b (s + 4)) + 2 * bits (word b (s + 6))

-- XAdvance of the first glyph, bit 4 of its format, after XPlacement and YPlacement, bits 1 and 2; 0 without it
abbrev pub advance_at : List ℕ → ℕ → ℕ → ℤ
advance_at b s values =
    if word b (s + 4) / 4 % 2 == 1 then signed b (values + 2 * (word b (s + 4) % 2 + word b (s + 4) / 2 % 2))
    else pos 0

-- the first glyph's value in the values at an offset, at an instance by its device table, whose parent is given
abbrev pub value_at : PairVariation → List ℕ → ℕ → ℕ → ℕ → ℤ
value_at v b s parent values = varied_advance v b s parent values (advance_at b s values)

-- the value at record i of a set; each record is the second glyph and the values
abbrev pub value_of_record : PairVariation → List ℕ → ℕ → ℕ → Option ℕ → Option ℤ
value_of_record v b s set None = None
value_of_record v b s set (Some i) = Some (value_at v b s set (set + 2 + (2 + values_size b s) * i + 2))

abbrev pub value_in_set : PairVariation → List ℕ → ℕ → ℕ → ℕ → Option ℤ
value_in_set v b s set h =
    value_of_record v b s set (found size.Word b (set + 2) (2 + values_size b s) (word b set) h)

-- format 1: the first glyph's index gives its set, which is the parent of device tables
abbrev pub value_by_sets : PairVariation → List ℕ → ℕ → ℕ → ℕ → Option ℤ
value_by_sets v b s index h =
    if nat_lt index (word b (s + 8)) then value_in_set v b s (s + word b (s + 10 + 2 * index)) h else None

-- the record of two classes, if both are below their counts; the subtable is the parent of device tables
abbrev pub value_of_classes : PairVariation → List ℕ → ℕ → ℕ → ℕ → Option ℤ
value_of_classes v b s first second =
    if nat_lt first (word b (s + 12)) && nat_lt second (word b (s + 14))
    then Some (value_at v b s s (s + 16 + values_size b s * (first * word b (s + 14) + second)))
    else None

-- format 2: the classes of both glyphs, each by a class definition of its own
abbrev pub value_by_classes : PairVariation → List ℕ → ℕ → ℕ → ℕ → Option ℤ
value_by_classes v b s g h =
    value_of_classes v b s (class_of b (s + word b (s + 8)) g) (class_of b (s + word b (s + 10)) h)

abbrev pub value_by_index : PairVariation → List ℕ → ℕ → ℕ → ℕ → Option ℕ → Option ℤ
value_by_index v b s g h None = None
value_by_index v b s g h (Some index) =
    if word b s == 1 then value_by_sets v b s index h
    else (if word b s == 2 then value_by_classes v b s g h else None)

-- the value of two glyphs by the subtable at an offset, if the coverage has the first glyph and the subtable applies
abbrev pub pair_value : PairVariation → List ℕ → ℕ → ℕ → ℕ → Option ℤ
pair_value v b s g h = value_by_index v b s g h (coverage_index b (s + word b (s + 2)) g)
