use Rattle.std.proofs.Common.{◌≡◌, drop}
use Rattle.tt_exec_stack.specs.Pushing.{pushed_bytes}
use Rattle.tt_exec_stack.proofs.pushing.push_bytes.Given as goal

-- the remaining bytes on the present stack are all bytes on the first stack
abbrev pub invariant-loop-byte : goal.invariant-loop-byte
invariant-loop-byte l = pushed_bytes (drop l.byte-index l.bytes) l.stack ≡ pushed_bytes l.bytes l.fn.stack
