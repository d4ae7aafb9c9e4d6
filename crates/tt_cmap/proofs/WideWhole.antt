-- The wide reading of cmap: a table that gives a map has no defect, and a map of the strict reading is extended.
use Rattle.std.proofs.Common.{◌≡◌, ℕ, ◌+◌, ◌<◌, ◌≤◌, nat_lt, true, false, List, length, Option, Some, None, Result, Ok, inl, inr, arith, refl, sym, subst}
use Rattle.std.proofs.lemmas.Bool.{cases_lt}
use Rattle.std.proofs.lemmas.Bool.Decides.{nat_tests}
use Rattle.tt_core.specs.Chains.{came-through, passed-on, not-below}
use Rattle.tt_core.specs.declared.collection.Reading.{Reading}
use Rattle.tt_core.specs.declared.collection.Reading.TheVariants as reading
use Rattle.tt_core.specs.Directory.{HasNo}
use Rattle.tt_core.specs.Faults.{Fault}
use Rattle.tt_cmap.specs.declared.lists.ListFormat.{ListFormat}
use Rattle.tt_cmap.specs.declared.records.Choice.{Choice}
use Rattle.tt_cmap.specs.declared.records.wide.CodeWay.TheVariants as way
use Rattle.tt_cmap.specs.declared.records.wide.WideChoice.{WideChoice}
use Rattle.tt_cmap.specs.declared.wide_subtable.Readable.{Readable}
use Rattle.tt_cmap.specs.declared.wide_subtable.Readable.TheVariants as readable
use Rattle.tt_cmap.specs.Halves.{reached}
use Rattle.tt_cmap.specs.Lists.{GlyphList, list_header, glyph_place, character_count, list_at}
use Rattle.tt_cmap.specs.Lookup.{Cmap, by_subtable, cmap_of}
use Rattle.tt_cmap.specs.Format12.{groups_at}
use Rattle.tt_cmap.specs.Ranges.{Subtable, subtable_with, subtable_at, range_count, range_of, reaches, by_range, by_found, falling_range, or_falling}
use Rattle.tt_cmap.specs.Maps.{CharacterMap, map_by, IsBadMap}
use Rattle.tt_cmap.specs.Subtables.{records_of, chosen_subtable}
use Rattle.tt_cmap.specs.WideChoice.{plain_choice, wide_choice, variations_of}
use Rattle.tt_cmap.specs.WideDefects.{IsBadList, IsBadWideShape, IsBadWideChoice}
use Rattle.tt_cmap.specs.WideLaws.{WideCmapsAreWhole, Extends, WideExtendsStrict}
use Rattle.tt_cmap.specs.WideLookup.{WideCmap, by_wide_choice, wide_cmap_of}
use Rattle.tt_cmap.specs.WideSubtables.{WideSubtable, ranged, wide_subtable_at, by_reached}
use Rattle.tt_cmap.proofs.Halves.{found, nothing-found}
use Rattle.tt_cmap.proofs.Whole.{cmap-whole, records-whole, groups-whole, with-shaped, none-falls}

list-whole : (f : ListFormat) (table : List ℕ) (at : ℕ) (l : GlyphList) → list_at f table at ≡ Ok l
    → HasNo (IsBadList (record { format = f; table = table; at = at }))
unfolding list_at
list-whole f table at l was =
    let it : GlyphList = record { format = f; table = table; at = at } in
    let header = passed-on (nat_lt (length table) (at + list_header f)) _ _ l was in
    let list = passed-on (nat_lt (length table) (glyph_place it (character_count it))) _ _ l header.1 in
    λ fault bad. elim (bad.0) [
      | inl short ↦ not-below (length table) (at + list_header f) header.0 short
      | inr short ↦ not-below (length table) (glyph_place it (character_count it)) list.0 short
    ]

shape-whole : (f : Readable) (table : List ℕ) (at : ℕ) (s : WideSubtable) → wide_subtable_at f table at ≡ Ok s
    → HasNo (IsBadWideShape f table at)
shape-whole (readable.Listed f) table at s was =
    let by_list = came-through (list_at f table at) _ s was in list-whole f table at by_list.value by_list.first
shape-whole (readable.Ranged f) table at s was =
    let by_ranges = came-through (subtable_with f table at) _ s was in
    (with-shaped f table at by_ranges.value by_ranges.first).shape
shape-whole readable.Shared table at s was =
    let by_groups = came-through (groups_at table at) _ s was in groups-whole table at by_groups.value by_groups.first

choice-whole : (table : List ℕ) (glyphs : ℕ) (p : Option WideChoice) (m : WideCmap) → by_wide_choice table glyphs p ≡ Ok m
    → HasNo (IsBadWideChoice table p)
choice-whole table glyphs None m was = absurd cc
choice-whole table glyphs (Some p) m was =
    let by_shape = came-through (wide_subtable_at p.format table p.at) _ m was in
    shape-whole p.format table p.at by_shape.value by_shape.first

pub wide-cmap-whole : WideCmapsAreWhole
unfolding wide_cmap_of
wide-cmap-whole table glyphs m was =
    let by_records = came-through (records_of table) _ m was in
    λ fault bad. elim bad [
      | inl records ↦ records-whole table by_records.value by_records.first fault records
      | inr choice ↦ choice-whole table glyphs (wide_choice table) m by_records.rest fault choice.1
    ]

-- in rising order, the range where the search ends is the first that reaches the character
below-is : (i n : ℕ) → i < n → nat_lt i n ≡ true
below-is i n below = grind (arith, nat_tests, below)

past-is : (i n : ℕ) → n ≤ i → nat_lt i n ≡ false
past-is i n past = grind (arith, nat_tests, past)

pub same-glyph : (s : Subtable) (glyphs c : ℕ) → falling_range s ≡ None
    → by_reached s (by_range s glyphs c) c ≡ by_found s glyphs c (range_of s c)
same-glyph s glyphs c rises = elim (cases_lt (reached (range_count s) (reaches s c)) (range_count s)) [
  | inl below ↦ rw (below-is (reached (range_count s) (reaches s c)) (range_count s) below, found s c rises below) refl
  | inr past ↦ rw (past-is (reached (range_count s) (reaches s c)) (range_count s) past, nothing-found s c rises past) refl
]

abbrev wide-of : List ℕ → ℕ → Subtable → WideCmap
wide-of table glyphs s = record {
  table = table;
  subtable = ranged s;
  way = way.Plain;
  variations = variations_of table;
  glyphs = glyphs;
}

chosen-first : (table : List ℕ) (p : Choice) → chosen_subtable table ≡ Some p → wide_choice table ≡ Some (plain_choice p)
chosen-first table p is = rw is refl

given-by : (table : List ℕ) (glyphs : ℕ) (p : Choice) (s : Subtable) → subtable_with p.format table p.at ≡ Ok s
    → by_wide_choice table glyphs (Some (plain_choice p)) ≡ Ok (wide-of table glyphs s)
given-by table glyphs p s is = rw is refl

given-wide : (table : List ℕ) (glyphs n : ℕ) (p : Choice) (s : Subtable) → records_of table ≡ Ok n
    → chosen_subtable table ≡ Some p → subtable_with p.format table p.at ≡ Ok s
    → wide_cmap_of table glyphs ≡ Ok (wide-of table glyphs s)
unfolding wide_cmap_of
given-wide table glyphs n p s records chosen shape =
    let P : Option WideChoice → Type 0 = λ q. by_wide_choice table glyphs q ≡ Ok (wide-of table glyphs s) in
    rw records (subst P (sym (chosen-first table p chosen)) (given-by table glyphs p s shape))

-- the subtable of a map of the strict reading has passed the test for falling ends
record Strict (table : List ℕ) (p : Choice) (m : Cmap) : Type 0 where
  shape : subtable_with p.format table p.at ≡ Ok m.subtable
  rises : falling_range m.subtable ≡ None

same-subtable : (s t : Subtable) → falling_range s ≡ None → or_falling s (falling_range s) ≡ Ok t → s ≡ t
same-subtable s t rises was =
    let P : Option ℕ → Type 0 = λ o. or_falling s o ≡ Ok t in
    let now : ◌≡◌ {A = Result Subtable Fault} (Ok s) (Ok t) = subst P rises was in
    cc

strict-at : (table : List ℕ) (p : Choice) (s : Subtable) → subtable_at table p ≡ Ok s
    → (subtable_with p.format table p.at ≡ Ok s) × (falling_range s ≡ None)
strict-at table p s was =
    let by_shape = came-through (subtable_with p.format table p.at) _ s was in
    let rises = none-falls by_shape.value s (falling_range by_shape.value) by_shape.rest in
    let same = same-subtable by_shape.value s rises by_shape.rest in
    let P : Subtable → Type 0 = λ t. (subtable_with p.format table p.at ≡ Ok t) × (falling_range t ≡ None) in
    subst P same (by_shape.first, rises)

is-cmap : (s : Subtable) (glyphs : ℕ) (m : Cmap)
    → ◌≡◌ {A = Result Cmap Fault} (Ok (record { subtable = s; glyphs = glyphs })) (Ok m)
    → record { subtable = s; glyphs = glyphs } ≡ m
is-cmap s glyphs m was = cc

extends-by : (table : List ℕ) (glyphs n : ℕ) (choice : Option Choice) (m : Cmap) → records_of table ≡ Ok n
    → chosen_subtable table ≡ choice → by_subtable table glyphs choice ≡ Ok m → Extends table glyphs m
extends-by table glyphs n None m records chosen was = absurd cc
extends-by table glyphs n (Some p) m records chosen was =
    let by_subtable = came-through (subtable_at table p) _ m was in
    let s = by_subtable.value in
    let strict = strict-at table p s by_subtable.first in
    subst (Extends table glyphs) (is-cmap s glyphs m by_subtable.rest) (record {
      wide = wide-of table glyphs s;
      given = given-wide table glyphs n p s records chosen strict.0;
      subtable = refl;
      way = refl;
      count = refl;
      same = λ c. same-glyph s glyphs c strict.1;
    })

pub wide-extends : WideExtendsStrict
unfolding cmap_of
wide-extends table glyphs m was =
    let by_records = came-through (records_of table) _ m was in
    extends-by table glyphs by_records.value (chosen_subtable table) m by_records.first refl by_records.rest

-- a map that either reading gives
pub map-whole : (r : Reading) (table : List ℕ) (glyphs : ℕ) (m : CharacterMap) → map_by r table glyphs ≡ Ok m
    → HasNo (IsBadMap r table)
map-whole reading.Strict table glyphs m was =
    let by_cmap = came-through (cmap_of table glyphs) _ m was in cmap-whole table glyphs by_cmap.value by_cmap.first
map-whole (reading.Wide face) table glyphs m was =
    let by_cmap = came-through (wide_cmap_of table glyphs) _ m was in wide-cmap-whole table glyphs by_cmap.value by_cmap.first
