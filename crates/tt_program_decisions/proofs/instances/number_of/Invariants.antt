use Rattle.std.proofs.Common.{◌≡◌, fold, take}
use Rattle.tt_program_decisions.specs.Instances.{with_digit}
use Rattle.tt_program_decisions.proofs.instances.number_of.Given as goal

-- the number of the digits so far
abbrev pub invariant-loop-digit : goal.invariant-loop-digit
invariant-loop-digit l = l.n ≡ fold with_digit 0 (take l.digit-index l.digits)
