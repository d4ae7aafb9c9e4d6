use Rattle.std.proofs.Common.{◌≡◌, ◌+◌, suc, ◌∙◌, sym, refl, arith}
use Rattle.tt_exec_stack.proofs.Words.{next_word, no_word}
use Rattle.tt_exec_stack.proofs.pushing.push_words.Goals as goal

pub loop-at-preserved : goal.loop-at-preserved
loop-at-preserved c =
    let two : c.loop-at.at + 2 ≡ suc (suc c.loop-at.at) = omega arith in
    let one : c.loop-at.at + 1 ≡ suc c.loop-at.at = omega arith in
    let put = rw one at c.in_ok-push_word.ensures in
    let next =
    next_word c.args.bytes.now c.loop-at.at _ _ c.loop-at.stack c.push_word.new.stack c.loop-at-test.true refl refl put in
    record { reached = omega arith; same = rw two (sym next ∙ c.loop-at.invariant.same) }

pub returns : goal.returns
returns c = sym c.loop-at.invariant.same ∙ no_word c.args.bytes.now c.loop-at.at c.loop-at.stack c.loop-at-test.false
