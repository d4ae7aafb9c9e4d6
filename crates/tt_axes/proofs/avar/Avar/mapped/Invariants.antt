use Rattle.std.proofs.Common.{◌≡◌, map}
use Rattle.std.specs.List.{range_with_len}
use Rattle.tt_axes.specs.Avar.{list_place, mapped}
use Rattle.tt_axes.specs.Coordinates.{coordinate_at}
use Rattle.tt_axes.proofs.avar.Avar.mapped.Given as goal

abbrev pub invariant-loop-i : goal.invariant-loop-i
invariant-loop-i l = (l.at ≡ list_place l.self l.i)
    × (l.all ≡ map (λ i. mapped l.self (list_place l.self i) (coordinate_at l.coordinates i)) (range_with_len 0 l.i))
