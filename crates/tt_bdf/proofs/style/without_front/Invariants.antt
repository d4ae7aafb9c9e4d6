use Rattle.std.proofs.Common.{◌≡◌, drop}
use Rattle.tt_bdf.specs.Style.{without_front}
use Rattle.tt_bdf.proofs.style.without_front.Given as goal

-- blanks so far
abbrev pub invariant-loop-i : goal.invariant-loop-i
invariant-loop-i l = without_front (drop l.i l.name) ≡ without_front l.name
