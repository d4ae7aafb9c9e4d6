use Rattle.std.proofs.Common.{◌≡◌}
use Rattle.tt_test_pixels.proofs.pictures.put_picture.Given as goal

abbrev pub invariant-loop-c : goal.invariant-loop-c
invariant-loop-c l = l.tape.frame ≡ l.fn.frame

abbrev pub invariant-loop-r : goal.invariant-loop-r
invariant-loop-r l = l.tape.frame ≡ l.fn.frame
