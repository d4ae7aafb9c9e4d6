use Rattle.std.proofs.Common.{◌≡◌, fold, take}
use Rattle.tt_program_decisions.specs.Output.{next_mark, no_mark}
use Rattle.tt_program_decisions.proofs.output.is_numbered.Given as goal

-- what is known of the bytes so far
abbrev pub invariant-loop-byte : goal.invariant-loop-byte
invariant-loop-byte l = l.marks ≡ fold next_mark no_mark (take l.byte-index l.byte-items)
