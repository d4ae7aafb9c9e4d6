-- A table that gives a character map has no defect.
use Rattle.std.proofs.Common.{◌≡◌, ℕ, ◌+◌, ◌-◌, ◌%◌, ◌≤◌, nat_lt, false, List, length, Option, Some, None, Result, Ok, inl, inr, arith, refl, sym}
use Rattle.std.specs.Prelude.{not, ◌==◌}
use Rattle.std.proofs.lemmas.Bool.Decides.{nat_tests}
use Rattle.tt_core.specs.Chains.{came-through, passed, passed-on, not-below, not-both}
use Rattle.tt_core.specs.Directory.{HasNo}
use Rattle.tt_core.specs.Faults.{Fault}
use Rattle.tt_core.specs.Search.{first_below_none}
use Rattle.tt_cmap.specs.declared.records.Format.{Format}
use Rattle.tt_cmap.specs.declared.records.Format.TheVariants as format
use Rattle.tt_cmap.specs.declared.records.Choice.{Choice}
use Rattle.tt_cmap.specs.Defects.{IsBadRecords, IsBadShape, IsBadFormat4, IsBadFormat12, IsFalling, IsBadSubtable, IsBadChoice}
use Rattle.tt_cmap.specs.Format4.{Format4, seg_count_x2, lists_end, segments_at}
use Rattle.tt_cmap.specs.Format12.{Format12, groups_end, groups_at}
use Rattle.tt_cmap.specs.Laws.{CmapsAreWhole}
use Rattle.tt_cmap.specs.Lookup.{Cmap, by_subtable, cmap_of}
use Rattle.tt_cmap.specs.Ranges.{Subtable, segments, groups, read_as, subtable_with, subtable_at, range_count, falls, falling_range, or_falling}
use Rattle.tt_cmap.specs.Subtables.{record_count, record_place, records_of, chosen_subtable}

pub records-whole : (table : List ℕ) (n : ℕ) → records_of table ≡ Ok n → HasNo (IsBadRecords table)
unfolding records_of
records-whole table n was =
    let header = passed-on (nat_lt (length table) 4) _ _ n was in
    let records = passed-on (nat_lt (length table) (record_place (record_count table))) _ _ n header.1 in
    λ fault bad. elim (bad.0) [
      | inl short ↦ not-below (length table) 4 header.0 short
      | inr short ↦ not-below (length table) (record_place (record_count table)) records.0 short
    ]

at-least : (a b : ℕ) → nat_lt a b ≡ false → b ≤ a
at-least a b is = grind (arith, nat_tests)

even : (n : ℕ) → not (n % 2 == 0) ≡ false → n % 2 ≡ 0
even n is = grind (arith, nat_tests)

segments-whole : (table : List ℕ) (at : ℕ) (m : Format4) → segments_at table at ≡ Ok m
    → HasNo (IsBadFormat4 (record { table = table; at = at }))
unfolding segments_at
segments-whole table at m was =
    let it : Format4 = record { table = table; at = at } in
    let header = passed-on (nat_lt (length table) (at + 14)) _ _ m was in
    let halves = passed-on (not (seg_count_x2 it % 2 == 0)) _ _ m header.1 in
    let lists = passed-on (nat_lt (length table) (lists_end it)) _ _ m halves.1 in
    let fits = at-least (length table) (lists_end it) lists.0 in
    let whole = even (seg_count_x2 it) halves.0 in
    λ fault bad. elim bad [
      | inl short ↦ omega (arith, fits, short.0)
      | inr other ↦ elim other [
        | inl odd ↦ omega (arith, whole, odd.1)
        | inr short ↦ omega (arith, fits, short.1)
      ]
    ]

pub groups-whole : (table : List ℕ) (at : ℕ) (m : Format12) → groups_at table at ≡ Ok m
    → HasNo (IsBadFormat12 (record { table = table; at = at }))
unfolding groups_at
groups-whole table at m was =
    let it : Format12 = record { table = table; at = at } in
    let header = passed-on (nat_lt (length table) (at + 16)) _ _ m was in
    let lists = passed-on (nat_lt (length table) (groups_end it)) _ _ m header.1 in
    λ fault bad. elim (bad.0) [
      | inl short ↦ not-below (length table) (at + 16) header.0 short
      | inr short ↦ not-below (length table) (groups_end it) lists.0 short
    ]

-- a subtable of good shape
pub record IsShaped (f : Format) (table : List ℕ) (at : ℕ) (s : Subtable) : Type 0 where
  pub same : s ≡ read_as f table at
  pub shape : HasNo (IsBadShape f table at)

segments-same : (table : List ℕ) (at : ℕ) (m : Format4) → segments_at table at ≡ Ok m
    → m ≡ record { table = table; at = at }
unfolding segments_at
segments-same table at m was =
    let it : Format4 = record { table = table; at = at } in
    let header = passed-on (nat_lt (length table) (at + 14)) _ _ m was in
    let halves = passed-on (not (seg_count_x2 it % 2 == 0)) _ _ m header.1 in
    let lists = passed (nat_lt (length table) (lists_end it)) _ it m halves.1 in
    sym lists.1

groups-same : (table : List ℕ) (at : ℕ) (m : Format12) → groups_at table at ≡ Ok m
    → m ≡ record { table = table; at = at }
unfolding groups_at
groups-same table at m was =
    let it : Format12 = record { table = table; at = at } in
    let header = passed-on (nat_lt (length table) (at + 16)) _ _ m was in
    let lists = passed (nat_lt (length table) (groups_end it)) _ it m header.1 in
    sym lists.1

is-segments : (m it : Format4) (s : Subtable) → ◌≡◌ {A = Result Subtable Fault} (Ok (segments m)) (Ok s) → m ≡ it
    → s ≡ segments it
is-segments m it s was same = cc

is-groups : (m it : Format12) (s : Subtable) → ◌≡◌ {A = Result Subtable Fault} (Ok (groups m)) (Ok s) → m ≡ it
    → s ≡ groups it
is-groups m it s was same = cc

pub with-shaped : (f : Format) (table : List ℕ) (at : ℕ) (s : Subtable) → subtable_with f table at ≡ Ok s
    → IsShaped f table at s
with-shaped format.Segments table at s was =
    let by_map = came-through (segments_at table at) _ s was in
    let same = segments-same table at by_map.value by_map.first in
    record { same = is-segments by_map.value (record { table = table; at = at }) s by_map.rest same; shape = segments-whole table at by_map.value by_map.first }
with-shaped format.Groups table at s was =
    let by_map = came-through (groups_at table at) _ s was in
    let same = groups-same table at by_map.value by_map.first in
    record { same = is-groups by_map.value (record { table = table; at = at }) s by_map.rest same; shape = groups-whole table at by_map.value by_map.first }

-- if a subtable passes the test for falling ends, no end falls
pub none-falls : (s t : Subtable) (found : Option ℕ) → or_falling s found ≡ Ok t → found ≡ None
none-falls s t None was = refl
none-falls s t (Some i) was = absurd cc

rising : (s : Subtable) → falling_range s ≡ None → HasNo (IsFalling s)
rising s rises = λ fault falling.
    let i = falling.0 in
    not-both (falls s i) falling.3
    (first_below_none (range_count s - 1) (falls s) i rises (omega (arith, falling.1)))

subtable-whole : (table : List ℕ) (p : Choice) (s : Subtable) → subtable_at table p ≡ Ok s
    → HasNo (IsBadSubtable table p)
subtable-whole table p s was =
    let by_shape = came-through (subtable_with p.format table p.at) _ s was in
    let shaped = with-shaped p.format table p.at by_shape.value by_shape.first in
    let rises = none-falls by_shape.value s (falling_range by_shape.value) by_shape.rest in
    λ fault bad. elim bad [
      | inl shape ↦ shaped.shape fault shape
      | inr falling ↦ rising by_shape.value rises fault (rw shaped.same falling)
    ]

choice-whole : (table : List ℕ) (glyphs : ℕ) (place : Option Choice) (cmap : Cmap) → by_subtable table glyphs place
    ≡ Ok cmap → HasNo (IsBadChoice table place)
choice-whole table glyphs None cmap was = absurd cc
choice-whole table glyphs (Some p) cmap was =
    let by_subtable = came-through (subtable_at table p) _ cmap was in
    subtable-whole table p by_subtable.value by_subtable.first

pub cmap-whole : CmapsAreWhole
unfolding cmap_of
cmap-whole table glyphs cmap was =
    let by_records = came-through (records_of table) _ cmap was in
    λ fault bad. elim bad [
      | inl records ↦ records-whole table by_records.value by_records.first fault records
      | inr choice ↦ choice-whole table glyphs (chosen_subtable table) cmap by_records.rest fault choice.1
    ]
