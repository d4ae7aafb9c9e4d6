use Rattle.std.proofs.Common.{◌≡◌, ◌-◌}
use Rattle.std.specs.Prelude.{int_lt}
use Rattle.tt_core.specs.Search.{first_from}
use Rattle.tt_axes.specs.Avar.{from_of, pair_above}
use Rattle.tt_axes.proofs.avar.Avar.mapped_at.Given as goal

-- the search over all pairs is the search over those that are left
abbrev pub invariant-loop-j : goal.invariant-loop-j
invariant-loop-j l =
    first_from (λ j. int_lt l.coordinate (from_of l.self l.at j)) l.j (l.count - l.j) ≡ pair_above l.self l.at l.coordinate
