-- OpenType, "kern: Kerning", and Apple TrueType Reference Manual, "The 'kern' table": subtables of format 0. Other formats
-- are passed over (profile).
use Rattle.std.specs.Prelude.{ℕ, zero, suc, ◌+◌, ◌-◌, ◌*◌, ◌/◌, ◌%◌, Bool, false, ◌&&◌, ◌==◌, nat_lt, if◌then◌else◌, List, [], ◌∷◌, length, Option, Some, None, ℤ, pos, ◌+ℤ◌}
use Rattle.tt_kern.specs.declared.kern_table.KernVersion.{KernVersion}
use Rattle.tt_kern.specs.declared.kern_table.KernVersion.TheVariants.{OpenType, Apple}
use Rattle.tt_kern.specs.declared.search.KeySize.TheVariants as size
use Rattle.tt_kern.specs.Search.{found}
use Rattle.tt_kern.specs.Words.{word, long, signed}

-- the version: a word of 0, or a long of 00010000
abbrev pub version_of : List ℕ → Option KernVersion
version_of b = if word b 0 == 0 then Some OpenType else (if long b 0 == 65536 then Some Apple else None)

-- the offset of the first subtable, and the count of subtables
abbrev pub list_place : KernVersion → ℕ
list_place OpenType = 4
list_place Apple = 8

abbrev pub count_told : KernVersion → List ℕ → ℕ
count_told OpenType b = word b 2
count_told Apple b = long b 4

-- the first 32 are taken (profile)
abbrev pub count_taken : KernVersion → List ℕ → ℕ
count_taken m b = if nat_lt 32 (count_told m b) then 32 else count_told m b

-- bytes before the pairs' count
abbrev pub header_size : KernVersion → ℕ
header_size OpenType = 6
header_size Apple = 8

abbrev pub length_told : KernVersion → List ℕ → ℕ → ℕ
length_told OpenType b p = word b (p + 2)
length_told Apple b p = long b p

-- coverage: format 0, horizontal, not minimum and not cross-stream; of Apple's, also no variation
abbrev pub is_usable_by : KernVersion → ℕ → Bool
is_usable_by OpenType coverage = (coverage / 256 == 0) && (coverage % 8 == 1)
is_usable_by Apple coverage = (coverage / 8192 == 0) && (coverage % 256 == 0)

abbrev pub is_usable : KernVersion → List ℕ → ℕ → Bool
is_usable m b p = is_usable_by m (word b (p + 4))

-- whether a value takes the place of the sum so far
abbrev pub overrides_by : KernVersion → ℕ → Bool
overrides_by OpenType coverage = coverage / 8 % 2 == 1
overrides_by Apple coverage = false

abbrev pub overrides : KernVersion → List ℕ → ℕ → Bool
overrides m b p = overrides_by m (word b (p + 4))

-- the offsets of at most n subtables from p on. A list ends where fewer than 8 bytes are left, and after a subtable
-- whose length is below that of its header (profile)
abbrev pub subtables_from : KernVersion → List ℕ → ℕ → ℕ → List ℕ
subtables_from m b zero p = []
subtables_from m b (suc n) p =
    if nat_lt (length b) (p + 8) then []
    else p ∷ (if nat_lt (length_told m b p) (header_size m) then [] else subtables_from m b n (p + length_told m b p))

-- the offset of the pairs: two glyphs and a value
abbrev pub pairs_place : KernVersion → ℕ → ℕ
pairs_place m p = p + header_size m + 8

-- as many pairs as the subtable counts, or as fit into the table. The subtable's length is not used, since lists of more
-- than 10,920 pairs have a length that went round 65,536 (profile)
abbrev pub pair_count : KernVersion → List ℕ → ℕ → ℕ
pair_count m b p =
    if nat_lt (word b (p + header_size m)) ((length b - pairs_place m p) / 6) then word b (p + header_size m)
    else (length b - pairs_place m p) / 6

abbrev pub value_of_pair : KernVersion → List ℕ → ℕ → Option ℕ → Option ℤ
value_of_pair m b p None = None
value_of_pair m b p (Some i) = Some (signed b (pairs_place m p + 6 * i + 4))

-- the value of two glyphs in a subtable
abbrev pub value_in : KernVersion → List ℕ → ℕ → ℕ → ℕ → Option ℤ
value_in m b p g h = value_of_pair m b p (found size.Long b (pairs_place m p) 6 (pair_count m b p) (65536 * g + h))

-- a value is added to the sum so far, or takes its place
abbrev pub after_value : Bool → ℤ → Option ℤ → ℤ
after_value replaces total None = total
after_value replaces total (Some v) = if replaces then v else total +ℤ v

abbrev pub after_subtable : KernVersion → List ℕ → ℕ → ℕ → ℤ → ℕ → ℤ
after_subtable m b g h total p =
    if is_usable m b p then after_value (overrides m b p) total (value_in m b p g h) else total

-- the sum so far, after the subtables at some offsets
abbrev pub sum_after : KernVersion → List ℕ → ℕ → ℕ → ℤ → List ℕ → ℤ
sum_after m b g h total [] = total
sum_after m b g h total (p ∷ ps) = sum_after m b g h (after_subtable m b g h total p) ps

abbrev pub sum_by : Option KernVersion → List ℕ → ℕ → ℕ → ℤ
sum_by None b g h = pos 0
sum_by (Some m) b g h = sum_after m b g h (pos 0) (subtables_from m b (count_taken m b) (list_place m))

-- the kerning of two glyphs by the table
unfoldable pub kern_sum : List ℕ → ℕ → ℕ → ℤ
kern_sum b g h = sum_by (version_of b) b g h
