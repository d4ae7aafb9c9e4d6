use Rattle.std.proofs.Common.{◌≡◌, ◌∙◌, [], drop, get_or, false, true, sym, arith}
use Rattle.std.proofs.lemmas.List.{drop_all}
use Rattle.tt_advice.specs.Signs.{is_printed}
use Rattle.tt_advice.proofs.Plain.{one_byte, plain_signless}
use Rattle.tt_advice.proofs.signs.is_plain.Goals as goal

pub loop-byte-preserved : goal.loop-byte-preserved
loop-byte-preserved c =
    let bs = c.args.text.now in
    let next = one_byte bs c.loop-byte.byte-index 0 c.loop-byte-test.true in
    let printed : is_printed (get_or bs c.loop-byte.byte-index 0) ≡ true =
    sym c.is_printed.ensures ∙ c.if-not-is_printed.false in
    sym (rw printed at next) ∙ c.loop-byte.invariant

pub returns-then-not-is_printed-clause-exact : goal.returns-then-not-is_printed-clause-exact
returns-then-not-is_printed-clause-exact c =
    let bs = c.args.text.now in
    let next = one_byte bs c.loop-byte.byte-index 0 c.loop-byte-test.true in
    let other : is_printed (get_or bs c.loop-byte.byte-index 0) ≡ false =
    sym c.is_printed.ensures ∙ c.if-not-is_printed.true in
    sym (rw other at next) ∙ c.loop-byte.invariant

pub returns-clause-exact : goal.returns-clause-exact
returns-clause-exact c =
    let none : drop c.loop-byte.byte-index c.args.text.now ≡ [] =
    drop_all c.loop-byte.byte-index c.args.text.now (omega (arith, c.loop-byte-test.false)) in
    rw none at c.loop-byte.invariant

pub returns-clause-signless : goal.returns-clause-signless
returns-clause-signless c = λ plain s. plain_signless s c.args.text.now (sym (returns-clause-exact c))
