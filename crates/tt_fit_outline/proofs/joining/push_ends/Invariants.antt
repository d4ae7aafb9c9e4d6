use Rattle.std.proofs.Common.{◌≡◌, ◌++◌, drop}
use Rattle.tt_fit_outline.specs.Joining.{ends_after}
use Rattle.tt_fit_outline.proofs.joining.push_ends.Given as goal

abbrev pub invariant-loop-end : goal.invariant-loop-end
invariant-loop-end l = l.ends.items ++ ends_after l.points (drop l.end-index l.component) ≡ l.fn.ends.items
    ++ ends_after l.points l.component
