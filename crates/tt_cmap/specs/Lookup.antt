-- OpenType, "cmap": the glyph of a character, by the chosen subtable.
use Rattle.std.specs.Prelude.{false, ◌<◌, ◌≡◌, ℕ, List, [], ◌∷◌, Option, Some, None, Result, Ok, Err, refl, map}
use Rattle.tt_core.specs.Faults.{Fault}
use Rattle.tt_core.specs.declared.fault.Why.TheVariants as why
use Rattle.tt_core.specs.Outcomes.{◌>>=◌}
use Rattle.tt_core.specs.Search.{IsLeast, first_below_least, first_below_nothing}
use Rattle.tt_cmap.specs.declared.records.Format.TheVariants.{Segments, Groups}
use Rattle.tt_cmap.specs.declared.records.Choice.{Choice}
use Rattle.tt_cmap.specs.Ranges.{Subtable, segments, groups, subtable_at, range_count, reaches, by_range, glyph_in, reads_in}
use Rattle.tt_cmap.specs.Subtables.{cmap_fault, records_of, choice_of, chosen_subtable}

-- the chosen subtable, and the number of glyphs in the font
pub record Cmap : Type 0 where
  pub subtable : Subtable
  pub glyphs : ℕ

-- the map by a subtable, if the subtable fits and its ranges end in rising order
abbrev pub by_subtable : List ℕ → ℕ → Option Choice → Result Cmap Fault
by_subtable table glyphs None = Err (cmap_fault 0 why.NoCmap)
by_subtable table glyphs (Some choice) =
    subtable_at table choice >>= λ subtable. Ok (record { subtable = subtable; glyphs = glyphs })

-- the map by a subtable, if the records fit too; the records are tested first
abbrev pub cmap_by : List ℕ → ℕ → Option Choice → Result Cmap Fault
cmap_by table glyphs choice = records_of table >>= λ count. by_subtable table glyphs choice

-- the map by the chosen subtable, or cmap's first fault
unfoldable pub cmap_of : List ℕ → ℕ → Result Cmap Fault
cmap_of table glyphs = cmap_by table glyphs (chosen_subtable table)

-- the glyph of a character
abbrev pub glyph_of : Cmap → ℕ → ℕ
glyph_of m c = glyph_in m.subtable m.glyphs c

-- the count of the subtable's numbers that a lookup reads
abbrev pub reads_of : Cmap → ℕ → ℕ
reads_of m c = reads_in m.subtable c

-- g is the glyph by the least range that reaches the character, or 0 if no range reaches it
pub record FollowsRanges (m : Cmap) (c g : ℕ) : Type 0 where
  pub by_least : (i : ℕ) → IsLeast (reaches m.subtable c) (range_count m.subtable) i
      → g ≡ by_range m.subtable m.glyphs c i
  pub past_all : ((i : ℕ) → i < range_count m.subtable → reaches m.subtable c i ≡ false) → g ≡ 0

pub glyph_follows_ranges : (m : Cmap) (c : ℕ) → FollowsRanges m c (glyph_of m c)
glyph_follows_ranges m c = record {
  by_least = λ i least. rw (first_below_least (reaches m.subtable c) (range_count m.subtable) i least) refl;
  past_all = λ fails. rw (first_below_nothing (reaches m.subtable c) (range_count m.subtable) fails) refl;
}

-- worked values: the segment 0041 to 0042 with a delta of -64, and the last segment
abbrev pub two_segments : List ℕ
two_segments =
    0 ∷ 0 ∷ 0 ∷ 1 ∷ 0 ∷ 3 ∷ 0 ∷ 1 ∷ 0 ∷ 0 ∷ 0 ∷ 12 ∷ 0 ∷ 4 ∷ 0 ∷ 32 ∷ 0 ∷ 0 ∷ 0 ∷ 4 ∷ 0 ∷ 4 ∷ 0 ∷ 1 ∷ 0 ∷ 0
    ∷ 0 ∷ 66 ∷ 255 ∷ 255 ∷ 0 ∷ 0 ∷ 0 ∷ 65 ∷ 255 ∷ 255 ∷ 255 ∷ 192 ∷ 0 ∷ 1 ∷ 0 ∷ 0 ∷ 0 ∷ 0 ∷ []

abbrev pub by_segments : ℕ → Cmap
by_segments glyphs = record { subtable = segments (record { table = two_segments; at = 12 }); glyphs = glyphs }

its_subtable : chosen_subtable two_segments ≡ Some (choice_of Segments 12)
its_subtable = refl

a_glyph_that_the_font_lacks : glyph_of (by_segments 2) 66 ≡ 0
a_glyph_that_the_font_lacks = refl

-- before a segment, its two letters, and by and past the last segment
its_letters : map (glyph_of (by_segments 3)) (64 ∷ 65 ∷ 66 ∷ 65535 ∷ 65536 ∷ []) ≡ 0 ∷ 1 ∷ 2 ∷ 0 ∷ 0 ∷ []
its_letters = refl

-- one group: 0001F600 to 0001F602, from glyph 1 on
abbrev pub one_group : List ℕ
one_group =
    0 ∷ 0 ∷ 0 ∷ 1 ∷ 0 ∷ 3 ∷ 0 ∷ 10 ∷ 0 ∷ 0 ∷ 0 ∷ 12 ∷ 0 ∷ 12 ∷ 0 ∷ 0 ∷ 0 ∷ 0 ∷ 0 ∷ 28 ∷ 0 ∷ 0 ∷ 0 ∷ 0 ∷ 0 ∷ 0 ∷ 0 ∷ 1
    ∷ 0 ∷ 1 ∷ 246 ∷ 0 ∷ 0 ∷ 1 ∷ 246 ∷ 2 ∷ 0 ∷ 0 ∷ 0 ∷ 1 ∷ []

abbrev pub by_groups : Cmap
by_groups = record { subtable = groups (record { table = one_group; at = 12 }); glyphs = 3 }

its_groups : chosen_subtable one_group ≡ Some (choice_of Groups 12)
its_groups = refl

-- before the group, its second, its third, which the font lacks, and past the group
of_a_group : map (glyph_of by_groups) (65 ∷ 128513 ∷ 128514 ∷ 128515 ∷ []) ≡ 0 ∷ 2 ∷ 0 ∷ 0 ∷ []
of_a_group = refl
