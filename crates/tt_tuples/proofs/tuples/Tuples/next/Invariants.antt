use Rattle.std.proofs.Common.{◌≡◌, ◌≤◌}
use Rattle.tt_tuples.specs.Tuples.{rest}
use Rattle.tt_tuples.proofs.tuples.Tuples.next.Given as goal

abbrev pub invariant-loop-self : goal.invariant-loop-self
invariant-loop-self l = record {
  rest : rest l.self ≡ rest l.fn.self;
  fewer : l.self.left ≤ l.fn.self.left;
  source : l.self.source ≡ l.fn.self.source;
}

abbrev pub decreases-loop-self : goal.decreases-loop-self
decreases-loop-self l = l.self.left
