use Rattle.std.proofs.Common.{◌≡◌, ◌++◌, drop, map, take, zip}
use Rattle.tt_c_calls.specs.Measures.{character_told}
use Rattle.tt_c_calls.proofs.measuring.write_characters.Given as goal

-- the characters so far, and then the unchanged room
abbrev pub invariant-loop-i : goal.invariant-loop-i
invariant-loop-i l = l.room ≡ map character_told (take l.i (zip l.measured l.offsets)) ++ drop l.i l.initial.room
