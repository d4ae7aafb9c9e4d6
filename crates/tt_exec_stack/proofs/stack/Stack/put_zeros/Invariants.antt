use Rattle.std.proofs.Common.{◌≡◌, pos, replicate}
use Rattle.tt_exec_stack.proofs.stack.Stack.put_zeros.Given as goal

abbrev pub invariant-loop : goal.invariant-loop
invariant-loop l = l.self ≡ replicate l.counter (pos 0)
