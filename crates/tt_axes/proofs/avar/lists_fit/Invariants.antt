use Rattle.std.proofs.Common.{◌≡◌, ◌+◌, ◌≤◌, length}
use Rattle.tt_axes.specs.Avar.{list_place}
use Rattle.tt_axes.proofs.avar.lists_fit.Given as goal

abbrev pub invariant-loop-i : goal.invariant-loop-i
invariant-loop-i l = (l.at ≡ list_place l.table l._i) × (l.at ≤ length l.table + 262142)
