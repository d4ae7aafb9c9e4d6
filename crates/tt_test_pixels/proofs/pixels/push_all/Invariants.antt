use Rattle.std.proofs.Common.{◌≡◌}
use Rattle.tt_test_pixels.proofs.pixels.push_all.Given as goal

abbrev pub invariant-loop : goal.invariant-loop
invariant-loop l = l.tape.frame ≡ l.fn.tape.frame
