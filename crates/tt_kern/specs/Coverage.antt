-- OpenType, "OpenType Layout Common Table Formats": coverage tables and class definition tables.
use Rattle.std.specs.Prelude.{ℕ, ◌+◌, ◌-◌, ◌*◌, ◌&&◌, ◌==◌, nat_lt, nat_le, if◌then◌else◌, List, Option, Some, None}
use Rattle.tt_kern.specs.declared.search.KeySize.TheVariants as size
use Rattle.tt_kern.specs.Halves.{reached}
use Rattle.tt_kern.specs.Search.{is_at_least, found}
use Rattle.tt_kern.specs.Words.{word}

-- range i, if there is one and it begins at the glyph or before it
abbrev pub range_at : List ℕ → ℕ → ℕ → ℕ → Option ℕ
range_at b c g i = if nat_lt i (word b (c + 2)) && nat_le (word b (c + 4 + 6 * i)) g then Some (c + 4 + 6 * i) else None

-- the offset of a glyph's range: three words, its first glyph, its last glyph and a number. The search is by last glyphs
abbrev pub range_of : List ℕ → ℕ → ℕ → Option ℕ
range_of b c g = range_at b c g (reached (word b (c + 2)) (is_at_least size.Word b (c + 6) 6 g))

-- the number of a range is the index of its first glyph
abbrev pub ranged_index : List ℕ → ℕ → Option ℕ → Option ℕ
ranged_index b g None = None
ranged_index b g (Some r) = Some (word b (r + 4) + (g - word b r))

-- the index of a glyph in a coverage: format 1 lists glyphs, format 2 ranges
abbrev pub coverage_index : List ℕ → ℕ → ℕ → Option ℕ
coverage_index b c g =
    if word b c == 1 then found size.Word b (c + 4) 2 (word b (c + 2)) g
    else (if word b c == 2 then ranged_index b g (range_of b c g) else None)

-- format 1: the classes of consecutive glyphs
abbrev pub listed_class : List ℕ → ℕ → ℕ → ℕ
listed_class b c g =
    if nat_le (word b (c + 2)) g && nat_lt (g - word b (c + 2)) (word b (c + 4)) then word b (c + 6 + 2 * (g - word b (c + 2)))
    else 0

-- format 2: the number of a range is its class
abbrev pub ranged_class : List ℕ → Option ℕ → ℕ
ranged_class b None = 0
ranged_class b (Some r) = word b (r + 4)

-- the class of a glyph
abbrev pub class_of : List ℕ → ℕ → ℕ → ℕ
class_of b c g =
    if word b c == 1 then listed_class b c g
    else (if word b c == 2 then ranged_class b (range_of b c g) else 0)
