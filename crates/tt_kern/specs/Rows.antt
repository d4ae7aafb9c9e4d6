-- Worked values: whole tables, and the kerning of glyphs 1 and 1. Each is built by hand; HarfBuzz and FreeType were asked
-- for the same fonts.
use Rattle.std.specs.Prelude.{◌≡◌, refl, ℕ, List, [], ◌∷◌, ◌++◌, ℤ, pos, negsuc}
use Rattle.tt_kern.specs.Feature.{feature_of}
use Rattle.tt_kern.specs.Halves.{asked_within, reached_within}
use Rattle.tt_kern.specs.Kerning.{Tables, kerning}
use Rattle.tt_kern.specs.KernTable.{kern_sum}
use Rattle.tt_kern.specs.Listed.{pairs_of}
use Rattle.tt_kern.specs.Pairs.{subtables_of}
use Rattle.tt_kern.specs.Reads.{range_reads, coverage_reads, class_reads, set_reads, by_classes_reads, pair_reads, subtable_reads, kern_reads, reads_of, feature_reads, opening_reads}
use Rattle.tt_kern.specs.Variation.{no_variation}
use Rattle.tt_kern.specs.Words.{word, long}

abbrev by_tables : List ℕ → List ℕ → ℤ
by_tables gpos kern = kerning (record { gpos = gpos; kern = kern; variation = no_variation }) 1 1

-- a subtable of the table kern with one pair, by the coverage and the value
abbrev kern_pair : ℕ → ℕ → ℕ → ℕ → List ℕ
kern_pair format coverage high low =
    0 ∷ 0 ∷ 0 ∷ 20 ∷ format ∷ coverage ∷ 0 ∷ 1 ∷ 0 ∷ 6 ∷ 0 ∷ 0 ∷ 0 ∷ 0 ∷ 0 ∷ 1 ∷ 0 ∷ 1 ∷ high ∷ low ∷ []

abbrev one_pair : ℕ → ℕ → ℕ → ℕ → List ℕ
one_pair format coverage high low = 0 ∷ 0 ∷ 0 ∷ 1 ∷ kern_pair format coverage high low

no_tables : by_tables [] [] ≡ pos 0
unfolding word long feature_of subtables_of kern_sum reached_within
no_tables = refl

minus_64 : by_tables [] (one_pair 0 1 0xFF 0xC0) ≡ negsuc 63
unfolding word long feature_of subtables_of kern_sum reached_within
minus_64 = refl

minus_33 : by_tables [] (one_pair 0 1 0xFF 0xDF) ≡ negsuc 32
unfolding word long feature_of subtables_of kern_sum reached_within
minus_33 = refl

minus_32 : by_tables [] (one_pair 0 1 0xFF 0xE0) ≡ negsuc 31
unfolding word long feature_of subtables_of kern_sum reached_within
minus_32 = refl

minus_300 : by_tables [] (one_pair 0 1 0xFE 0xD4) ≡ negsuc 299
unfolding word long feature_of subtables_of kern_sum reached_within
minus_300 = refl

-- glyphs 1 and 2, and the other way round
abbrev of_1_and_2 : Tables
of_1_and_2 = record {
  gpos = [];
  kern = 0 ∷ 0 ∷ 0 ∷ 1 ∷ 0 ∷ 0 ∷ 0 ∷ 20 ∷ 0 ∷ 1 ∷ 0 ∷ 1 ∷ 0 ∷ 6 ∷ 0 ∷ 0 ∷ 0 ∷ 0 ∷ 0 ∷ 1 ∷ 0 ∷ 2 ∷ 0xFF ∷ 0xC0 ∷ [];
  variation = no_variation;
}

in_order : kerning of_1_and_2 1 2 ≡ negsuc 63
unfolding word long feature_of subtables_of kern_sum reached_within
in_order = refl

the_other_way_round : kerning of_1_and_2 2 1 ≡ pos 0
unfolding word long feature_of subtables_of kern_sum reached_within
the_other_way_round = refl

-- minimum, cross-stream, vertical, and format 2
minimum : by_tables [] (one_pair 0 3 0xFF 0xC0) ≡ pos 0
unfolding word long feature_of subtables_of kern_sum reached_within
minimum = refl

cross_stream : by_tables [] (one_pair 0 5 0xFF 0xC0) ≡ pos 0
unfolding word long feature_of subtables_of kern_sum reached_within
cross_stream = refl

vertical : by_tables [] (one_pair 0 0 0xFF 0xC0) ≡ pos 0
unfolding word long feature_of subtables_of kern_sum reached_within
vertical = refl

of_format_2 : by_tables [] (one_pair 2 1 0xFF 0xC0) ≡ pos 0
unfolding word long feature_of subtables_of kern_sum reached_within
of_format_2 = refl

-- Apple's version
of_apple : by_tables [] (0 ∷ 1 ∷ 0 ∷ 0 ∷ 0 ∷ 0 ∷ 0 ∷ 1 ∷ 0 ∷ 0 ∷ 0 ∷ 22 ∷ 0 ∷ 0 ∷ 0 ∷ 0 ∷ 0 ∷ 1 ∷ 0 ∷ 6 ∷ 0 ∷ 0 ∷ 0 ∷ 0 ∷
    0 ∷ 1 ∷ 0 ∷ 1 ∷ 0xFF ∷ 0xC0 ∷ []) ≡ negsuc 63
unfolding word long feature_of subtables_of kern_sum reached_within
of_apple = refl

-- two subtables: their values are added; a value that overrides takes the place of the sum
added : by_tables [] (0 ∷ 0 ∷ 0 ∷ 2 ∷ (kern_pair 0 1 0xFF 0xC0 ++ kern_pair 0 1 0 32)) ≡ negsuc 31
unfolding word long feature_of subtables_of kern_sum reached_within
added = refl

overridden : by_tables [] (0 ∷ 0 ∷ 0 ∷ 2 ∷ (kern_pair 0 1 0xFF 0xC0 ++ kern_pair 0 9 0 32)) ≡ pos 32
unfolding word long feature_of subtables_of kern_sum reached_within
overridden = refl

-- two pairs counted, one there
one_of_two : by_tables [] (0 ∷ 0 ∷ 0 ∷ 1 ∷ 0 ∷ 0 ∷ 0 ∷ 26 ∷ 0 ∷ 1 ∷ 0 ∷ 2 ∷ 0 ∷ 12 ∷ 0 ∷ 1 ∷ 0 ∷ 0 ∷ 0 ∷ 1 ∷ 0 ∷ 1 ∷ 0xFF ∷ 0xC0 ∷ [])
    ≡ negsuc 63
unfolding word long feature_of subtables_of kern_sum reached_within
one_of_two = refl

three_bytes : by_tables [] (0 ∷ 0 ∷ 0 ∷ []) ≡ pos 0
unfolding word long feature_of subtables_of kern_sum reached_within
three_bytes = refl

-- GPOS with one script, whose tag is given, one feature and one lookup; then the lookup
abbrev gpos_for : List ℕ → List ℕ → List ℕ → List ℕ
gpos_for script feature lookup =
    0 ∷ 1 ∷ 0 ∷ 0 ∷ 0 ∷ 10 ∷ 0 ∷ 30 ∷ 0 ∷ 44 ∷ 0 ∷ 1 ∷ (script ++ 0 ∷ 8 ∷ 0 ∷ 4 ∷ 0 ∷ 0 ∷ 0 ∷ 0 ∷ 0xFF ∷ 0xFF ∷ 0 ∷ 1 ∷ 0 ∷ 0 ∷
    0 ∷ 1 ∷ (feature ++ 0 ∷ 8 ∷ 0 ∷ 0 ∷ 0 ∷ 1 ∷ 0 ∷ 0 ∷ 0 ∷ 1 ∷ 0 ∷ 4 ∷ lookup))

abbrev tag_dflt : List ℕ
tag_dflt = 0x44 ∷ 0x46 ∷ 0x4C ∷ 0x54 ∷ []

abbrev tag_cyrl : List ℕ
tag_cyrl = 0x63 ∷ 0x79 ∷ 0x72 ∷ 0x6C ∷ []

abbrev tag_kern : List ℕ
tag_kern = 0x6B ∷ 0x65 ∷ 0x72 ∷ 0x6E ∷ []

abbrev tag_mark : List ℕ
tag_mark = 0x6D ∷ 0x61 ∷ 0x72 ∷ 0x6B ∷ []

abbrev gpos_with : List ℕ → List ℕ
gpos_with lookup = gpos_for tag_dflt tag_kern lookup

-- a lookup of type 2 with one subtable
abbrev one_subtable : List ℕ → List ℕ
one_subtable subtable = 0 ∷ 2 ∷ 0 ∷ 0 ∷ 0 ∷ 1 ∷ 0 ∷ 8 ∷ subtable

-- format 1: the coverage's offset, the value format, and the value of glyphs 1 and 1
abbrev sets : ℕ → ℕ → ℕ → ℕ → ℕ → List ℕ
sets coverage_high coverage_low format high low =
    0 ∷ 1 ∷ coverage_high ∷ coverage_low ∷ 0 ∷ format ∷ 0 ∷ 0 ∷ 0 ∷ 1 ∷ 0 ∷ 12 ∷ 0 ∷ 1 ∷ 0 ∷ 1 ∷ high ∷ low ∷
    0 ∷ 1 ∷ 0 ∷ 1 ∷ 0 ∷ 1 ∷ []

-- format 2: class 1 has the glyph 1
abbrev classes : List ℕ
classes =
    0 ∷ 2 ∷ 0 ∷ 24 ∷ 0 ∷ 4 ∷ 0 ∷ 0 ∷ 0 ∷ 30 ∷ 0 ∷ 30 ∷ 0 ∷ 2 ∷ 0 ∷ 2 ∷ 0 ∷ 0 ∷ 0 ∷ 0 ∷ 0 ∷ 0 ∷ 0xFF ∷ 0xC0 ∷
    0 ∷ 1 ∷ 0 ∷ 1 ∷ 0 ∷ 1 ∷ 0 ∷ 2 ∷ 0 ∷ 1 ∷ 0 ∷ 1 ∷ 0 ∷ 1 ∷ 0 ∷ 1 ∷ []

by_sets : by_tables (gpos_with (one_subtable (sets 0 18 4 0xFF 0xC0))) [] ≡ negsuc 63
unfolding word long feature_of subtables_of kern_sum reached_within
by_sets = refl

by_classes : by_tables (gpos_with (one_subtable classes)) [] ≡ negsuc 63
unfolding word long feature_of subtables_of kern_sum reached_within
by_classes = refl

-- the record of class 0 of the second glyph applies with 0
of_class_0 : kerning (record { gpos = gpos_with (one_subtable classes); kern = []; variation = no_variation }) 1 2 ≡ pos 0
unfolding word long feature_of subtables_of kern_sum reached_within
of_class_0 = refl

-- a lookup of type 9; its subtable is an extension of the given type
abbrev extension : ℕ → List ℕ → List ℕ
extension type subtable = 0 ∷ 9 ∷ 0 ∷ 0 ∷ 0 ∷ 1 ∷ 0 ∷ 8 ∷ 0 ∷ 1 ∷ 0 ∷ type ∷ 0 ∷ 0 ∷ 0 ∷ 8 ∷ subtable

an_extension : by_tables (gpos_with (extension 2 (sets 0 18 4 0xFF 0xC0))) [] ≡ negsuc 63
unfolding word long feature_of subtables_of kern_sum reached_within
an_extension = refl

of_another_type : by_tables (gpos_with (extension 1 (sets 0 18 4 0xFF 0xC0))) [] ≡ pos 0
unfolding word long feature_of subtables_of kern_sum reached_within
of_another_type = refl

-- without Latin's script or the feature, the table kern counts
for_cyrillic : by_tables (gpos_for tag_cyrl tag_kern (one_subtable (sets 0 18 4 0xFF 0x80))) (one_pair 0 1 0xFF 0xC0) ≡ negsuc 63
unfolding word long feature_of subtables_of kern_sum reached_within
for_cyrillic = refl

of_marks : by_tables (gpos_for tag_dflt tag_mark (one_subtable (sets 0 18 4 0xFF 0x80))) (one_pair 0 1 0xFF 0xC0) ≡ negsuc 63
unfolding word long feature_of subtables_of kern_sum reached_within
of_marks = refl

-- with the feature, the table kern doesn't count
gpos_alone : by_tables (gpos_with (one_subtable (sets 0 18 4 0xFF 0x80))) (one_pair 0 1 0xFF 0xC0) ≡ negsuc 127
unfolding word long feature_of subtables_of kern_sum reached_within
gpos_alone = refl

coverage_past_the_end : by_tables (gpos_with (one_subtable (sets 0xFF 0xFF 4 0xFF 0xC0))) [] ≡ pos 0
unfolding word long feature_of subtables_of kern_sum reached_within
coverage_past_the_end = refl

-- XPlacement stands before XAdvance
after_placement : by_tables (gpos_with (one_subtable
    (0 ∷ 1 ∷ 0 ∷ 20 ∷ 0 ∷ 5 ∷ 0 ∷ 0 ∷ 0 ∷ 1 ∷ 0 ∷ 12 ∷ 0 ∷ 1 ∷ 0 ∷ 1 ∷ 0xFF ∷ 0 ∷ 0xFF ∷ 0xC0 ∷ 0 ∷ 1 ∷ 0 ∷ 1 ∷ 0 ∷ 1 ∷ []))) []
    ≡ negsuc 63
unfolding word long feature_of subtables_of kern_sum reached_within
after_placement = refl

without_advance : by_tables (gpos_with (one_subtable (sets 0 18 1 0xFF 0xC0))) [] ≡ pos 0
unfolding word long feature_of subtables_of kern_sum reached_within
without_advance = refl

-- a lookup of two subtables that both apply: the first counts
the_first : by_tables (gpos_with (0 ∷ 2 ∷ 0 ∷ 0 ∷ 0 ∷ 2 ∷ 0 ∷ 10 ∷ 0 ∷ 34 ∷ (sets 0 18 4 0xFF 0xC0 ++ sets 0 18 4 0xFF 0x80))) []
    ≡ negsuc 63
unfolding word long feature_of subtables_of kern_sum reached_within
the_first = refl

-- a subtable that applies with 0 ends its lookup
ended_by_0 : by_tables (gpos_with (0 ∷ 2 ∷ 0 ∷ 0 ∷ 0 ∷ 2 ∷ 0 ∷ 10 ∷ 0 ∷ 34 ∷ (sets 0 18 4 0 0 ++ sets 0 18 4 0xFF 0x80))) []
    ≡ pos 0
unfolding word long feature_of subtables_of kern_sum reached_within
ended_by_0 = refl

-- two lookups, and each applies: their values are added
abbrev two_lookups : List ℕ
two_lookups =
    0 ∷ 1 ∷ 0 ∷ 0 ∷ 0 ∷ 10 ∷ 0 ∷ 30 ∷ 0 ∷ 46 ∷ 0 ∷ 1 ∷ (tag_dflt ++ 0 ∷ 8 ∷ 0 ∷ 4 ∷ 0 ∷ 0 ∷ 0 ∷ 0 ∷ 0xFF ∷ 0xFF ∷ 0 ∷ 1 ∷ 0 ∷ 0 ∷
    0 ∷ 1 ∷ (tag_kern ++ 0 ∷ 8 ∷ 0 ∷ 0 ∷ 0 ∷ 2 ∷ 0 ∷ 1 ∷ 0 ∷ 0 ∷ 0 ∷ 2 ∷ 0 ∷ 6 ∷ 0 ∷ 38 ∷
    (one_subtable (sets 0 18 4 0xFF 0xC0) ++ one_subtable (sets 0 18 4 0xFF 0x80))))

of_both : by_tables two_lookups [] ≡ negsuc 191
unfolding word long feature_of subtables_of kern_sum reached_within
of_both = refl

-- the counts of numbers that are read, by hand: without tables, by a pair of kern, by a set and by classes
abbrev reads_by_tables : List ℕ → List ℕ → ℕ
reads_by_tables gpos kern = reads_of (record { gpos = gpos; kern = kern; variation = no_variation }) 1 1

reads_without_tables : reads_by_tables [] [] ≡ 2
unfolding word long feature_of kern_reads subtable_reads asked_within reached_within
reads_without_tables = refl

reads_of_kern : reads_by_tables [] (one_pair 0 1 0xFF 0xC0) ≡ 9
unfolding word long feature_of kern_reads subtable_reads asked_within reached_within
reads_of_kern = refl

reads_of_a_set : reads_by_tables (gpos_with (one_subtable (sets 0 18 4 0xFF 0xC0))) [] ≡ 15
unfolding word long feature_of pairs_of pair_reads coverage_reads set_reads asked_within reached_within
reads_of_a_set = refl

reads_of_classes : reads_by_tables (gpos_with (one_subtable classes)) [] ≡ 24
unfolding word long feature_of pairs_of pair_reads coverage_reads class_reads by_classes_reads range_reads asked_within reached_within
reads_of_classes = refl

-- opening: without tables, and with one lookup
opens_without_tables : opening_reads [] ≡ 4
unfolding word long feature_of feature_reads opening_reads
opens_without_tables = refl

opens_one_lookup : opening_reads (gpos_with (one_subtable (sets 0 18 4 0xFF 0xC0))) ≡ 26
unfolding word long feature_of feature_reads opening_reads
opens_one_lookup = refl
