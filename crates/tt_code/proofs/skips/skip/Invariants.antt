use Rattle.std.proofs.Common.{◌-◌, ◌<◌, ◌≤◌, length}
use Rattle.tt_code.specs.Skips.{skip_end}
use Rattle.tt_code.proofs.Going.{GoesOn}
use Rattle.tt_code.proofs.skips.skip.Given as goal

abbrev pub invariant-instructions : goal.invariant-instructions
invariant-instructions l = record {
  begun : l.fn.at < l.place;
  few : l.depth ≤ l.place;
  within : l.place ≤ length l.fn.code;
  goes_on : GoesOn l.fn.sought l.fn.code (record { at = l.fn.at; why = l.fn.lost })
      (skip_end l.fn.sought l.fn.code l.fn.at l.fn.lost) l.place l.depth;
}

abbrev pub decreases-instructions : goal.decreases-instructions
decreases-instructions l = length l.fn.code - l.place
