use Rattle.std.proofs.Common.{◌≡◌, ◌+◌, ◌≤◌}
use Rattle.tt_rows.specs.Breaks.{breaks_before}
use Rattle.tt_rows.specs.Greatest.{greatest}
use Rattle.tt_rows.proofs.breaking.whole_words.Given as goal

-- no greater number is followed by a place where a row may end
abbrev pub invariant-loop-count : goal.invariant-loop-count
invariant-loop-count l = record {
  left : greatest (λ k. breaks_before l.line (l.from + k)) l.count ≡ greatest (λ k. breaks_before l.line (l.from + k)) l.most;
  few : l.count ≤ l.most;
}

abbrev pub decreases-loop-count : goal.decreases-loop-count
decreases-loop-count l = l.count
