use Rattle.std.proofs.Common.{◌≡◌, ◌∙◌, sym, subst, ℕ, ◌+◌, true, false, arith}
use Rattle.std.specs.Prelude.{Bool}
use Rattle.tt_rows.specs.Breaks.{breaks_before}
use Rattle.tt_rows.specs.Greatest.{greatest}
use Rattle.tt_rows.specs.Rows.{whole_words}
use Rattle.tt_rows.proofs.RowLoops.{greatest_here, greatest_less}
use Rattle.tt_rows.proofs.breaking.whole_words.Goals as goal

pub loop-count-preserved : goal.loop-count-preserved
loop-count-preserved c =
    let at = c.loop-count in
    let was = at.invariant in
    let p : ℕ → Bool = λ k. breaks_before c.args.line.now (c.args.from + k) in
    let fails : p at.count ≡ false = sym c.breaks_before.ensures ∙ c.if-breaks_before.false in
    record {
      left = sym (greatest_less p at.count c.loop-count-test.true fails) ∙ was.left;
      few = let few = was.few in omega (arith, few);
    }

pub returns-then-breaks_before-clause-exact : goal.returns-then-breaks_before-clause-exact
unfolding whole_words
returns-then-breaks_before-clause-exact c =
    let at = c.loop-count in
    let p : ℕ → Bool = λ k. breaks_before c.args.line.now (c.args.from + k) in
    let holds : p at.count ≡ true = sym c.breaks_before.ensures ∙ c.if-breaks_before.true in
    sym (greatest_here p at.count c.loop-count-test.true holds) ∙ at.invariant.left

pub returns-clause-exact : goal.returns-clause-exact
unfolding whole_words
returns-clause-exact c =
    let at = c.loop-count in
    let p : ℕ → Bool = λ k. breaks_before c.args.line.now (c.args.from + k) in
    let none : at.count ≡ 0 = omega (arith, c.loop-count-test.false) in
    subst (λ n. greatest p n ≡ greatest p c.args.most) none at.invariant.left
