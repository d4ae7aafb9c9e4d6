use Rattle.std.proofs.Common.{◌≡◌, ◌++◌, drop, map, take, zip}
use Rattle.tt_c_calls.specs.Layouts.{pen_told}
use Rattle.tt_c_calls.proofs.laying_out.write_pens.Given as goal

-- the pens so far, and then the unchanged room
abbrev pub invariant-loop-i : goal.invariant-loop-i
invariant-loop-i l = l.room ≡ map pen_told (take l.i (zip l.pens l.offsets)) ++ drop l.i l.initial.room
