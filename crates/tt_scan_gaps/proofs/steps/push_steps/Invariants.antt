use Rattle.std.proofs.Common.{◌≡◌, ◌++◌, map}
use Rattle.std.specs.List.{range_with_len}
use Rattle.tt_scan_gaps.specs.Crossings.{crossing, line_crossed}
use Rattle.tt_scan_gaps.specs.declared.mark.Step.TheVariants as step
use Rattle.tt_scan_gaps.proofs.steps.push_steps.Given as goal

abbrev pub invariant-loop-k : goal.invariant-loop-k
invariant-loop-k l =
    l.steps.items ≡ l.initial.steps.items
    ++ map step.Cross (map (λ k. crossing l.edge (line_crossed l.edge k)) (range_with_len 0 l.k))
