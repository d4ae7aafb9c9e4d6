use Rattle.std.proofs.Common.{◌≡◌, ◌≤◌, ◌+◌, ◌*◌, ◌-◌}
use Rattle.tt_core.specs.Search.{first_from}
use Rattle.tt_cmap.specs.Ranges.{falls, falling_range, subtable_view}
use Rattle.tt_cmap.proofs.subtable.Subtable.falling.Given as goal

-- the search over all ranges is the search over the remaining ranges
abbrev pub invariant-loop-i : goal.invariant-loop-i
invariant-loop-i l =
    (first_from (falls (subtable_view l.self)) l.i (l.i-end - l.i) ≡ falling_range (subtable_view l.self)) × (l.reads ≤ l.fn.reads + 2 * l.i)
