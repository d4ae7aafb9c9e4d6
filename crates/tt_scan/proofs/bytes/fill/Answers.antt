use Rattle.std.proofs.Common.{arith, rules}
use Rattle.std.proofs.lemmas.Bool.Decides.{nat_tests}
use Rattle.tt_scan.proofs.bytes.fill.Goals as goal

pub returns-then-to-gt0 : goal.returns-then-to-gt0
returns-then-to-gt0 c = record {
  bits = λ k. rw (c.fill_byte-then-to-gt0.ensures.bits k, c.fill_bytes.ensures.bits k, c.fill_byte-else-first-last.ensures.bits k) (grind (arith, nat_tests));
  len = search rules;
}

pub returns-else-to-gt0 : goal.returns-else-to-gt0
returns-else-to-gt0 c = record {
  bits = λ k. rw (c.fill_bytes.ensures.bits k, c.fill_byte-else-first-last.ensures.bits k) (grind (arith, nat_tests));
  len = search rules;
}
