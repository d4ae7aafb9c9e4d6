use Rattle.std.proofs.Common.{◌≡◌, drop}
use Rattle.tt_exec_state.specs.Variations.{all_pushed}
use Rattle.tt_exec_state.proofs.variations.getvariation.Given as goal

-- the remaining places on the present stack are all places on the first stack
abbrev pub invariant-loop-coordinate : goal.invariant-loop-coordinate
invariant-loop-coordinate l = all_pushed
    (drop l.coordinate-index l.coordinates) l.stack ≡ all_pushed l.coordinates l.fn.stack
