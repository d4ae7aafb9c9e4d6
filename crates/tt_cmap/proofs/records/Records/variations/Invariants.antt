use Rattle.std.proofs.Common.{◌≡◌, ◌-◌, option_map}
use Rattle.tt_core.specs.Search.{first_from}
use Rattle.tt_cmap.specs.Subtables.{subtable_of}
use Rattle.tt_cmap.specs.WideChoice.{is_variations, variations_of}
use Rattle.tt_cmap.proofs.records.Records.variations.Given as goal

-- the search over all records is the search over the remaining records
abbrev pub invariant-loop-i : goal.invariant-loop-i
invariant-loop-i l =
    let table = l.self-inside.table.now in
    option_map (subtable_of table) (first_from (is_variations table) l.i (l.i-end - l.i)) ≡ variations_of table
