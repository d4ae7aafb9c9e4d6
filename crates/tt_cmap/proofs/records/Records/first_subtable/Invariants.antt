use Rattle.std.proofs.Common.{◌≡◌, ◌-◌, option_map}
use Rattle.tt_core.specs.Search.{first_from}
use Rattle.tt_cmap.specs.Subtables.{subtable_of, is_wanted, first_subtable}
use Rattle.tt_cmap.proofs.records.Records.first_subtable.Given as goal

-- the search over all records is the search over the remaining records
abbrev pub invariant-loop-i : goal.invariant-loop-i
invariant-loop-i l =
    let table = l.self-inside.table.now in
    option_map (subtable_of table) (first_from (is_wanted l.platform l.format table) l.i (l.i-end - l.i))
    ≡ first_subtable l.platform l.format table
