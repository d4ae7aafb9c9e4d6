use Rattle.std.proofs.Common.{◌≡◌, drop}
use Rattle.tt_bdf.specs.Advances.{have_advance}
use Rattle.tt_bdf.proofs.spacing.have_advance.Given as goal

-- the remaining characters decide
abbrev pub invariant-loop-c : goal.invariant-loop-c
invariant-loop-c l = have_advance l.advance (drop l.c-index l.characters) ≡ have_advance l.advance l.characters
