use Rattle.std.proofs.Common.{◌≡◌, ◌+◌, map, sum_by}
use Rattle.tt_strike.proofs.Pens.{columns, pens_of}
use Rattle.tt_strike.proofs.layouts.pens_at.Given as goal

-- the pens of the units so far, and the next pen
abbrev pub invariant-loop-unit : goal.invariant-loop-unit
invariant-loop-unit l = record {
  pens : l.pens.items ≡ pens_of (map (λ p. (p.0, p.1.now)) l.yielded) l.first;
  pen : l.pen ≡ l.first + sum_by columns (map (λ p. (p.0, p.1.now)) l.yielded);
}
