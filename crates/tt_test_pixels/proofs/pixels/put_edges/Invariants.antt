use Rattle.std.proofs.Common.{◌≡◌, ◌<◌, length}
use Rattle.tt_test_pixels.proofs.pixels.put_edges.Given as goal

abbrev pub invariant-loop-r : goal.invariant-loop-r
invariant-loop-r l = (l.tape.frame ≡ l.fn.frame) × (l.tape.edges ≡ l.fn.tape.edges) × (l.i < length l.tape.edges)

abbrev pub invariant-loop-i : goal.invariant-loop-i
invariant-loop-i l = (l.tape.frame ≡ l.fn.frame) × (l.tape.edges ≡ l.fn.tape.edges) × (l.i-end ≡ length l.tape.edges)
