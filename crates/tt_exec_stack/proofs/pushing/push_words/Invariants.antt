use Rattle.std.proofs.Common.{◌≡◌, ◌≤◌, ◌-◌, drop, length}
use Rattle.tt_exec_stack.specs.Pushing.{pushed_words}
use Rattle.tt_exec_stack.proofs.pushing.push_words.Given as goal

-- the remaining words on the present stack are all words on the first stack
abbrev pub invariant-loop-at : goal.invariant-loop-at
invariant-loop-at l = record {
  reached : l.at ≤ length l.bytes;
  same : pushed_words (drop l.at l.bytes) l.stack ≡ pushed_words l.bytes l.fn.stack;
}

abbrev pub decreases-loop-at : goal.decreases-loop-at
decreases-loop-at l = length l.bytes - l.at
