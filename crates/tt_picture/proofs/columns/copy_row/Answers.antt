use Rattle.std.proofs.Common.{◌≡◌, ◌∙◌, ap, sym, refl, ℕ, ◌+◌, ◌≤◌, Bool, true, false, ◌&&◌, ◌||◌, ◌==◌, nat_lt, length, arith}
use Rattle.std.proofs.lemmas.Bool.{le-ltb}
use Rattle.std.proofs.lemmas.Bool.Decides.{nat_tests}
use Rattle.tt_core.specs.Bits.{bit}
use Rattle.tt_picture.proofs.RowColumns.{copied, one_column_more}
use Rattle.tt_picture.proofs.columns.copy_row.Goals as goal

or_false : (b : Bool) → b ≡ (b || false)
or_false true = refl
or_false false = refl

pub loop-c-init : goal.loop-c-init
loop-c-init c = record {
  bits = λ k. or_false (bit c.args.row.now k) ∙ ap (λ low. bit c.args.row.now k || (low && bit c.args.wide.now (c.args.from + k))) (sym (le-ltb k 0 (omega arith)));
  len = refl;
}

same_column : (k n : ℕ) → (k == n) ≡ true → n ≡ k
same_column k n is = grind (arith, nat_tests, is)

pub loop-c-preserved : goal.loop-c-preserved
loop-c-preserved c =
    let at = c.loop-c in
    let wide = c.args.wide.now in
    record {
      bits = λ k. rw (c.copy_column.ensures.bits k, at.invariant.bits k, one_column_more k at.c)
          (copied (bit c.args.row.now k) (nat_lt k at.c) (k == at.c) (bit wide (c.args.from + k)) (bit wide (c.args.from + at.c))
          (λ here. ap (λ k. bit wide (c.args.from + k)) (same_column k at.c here)));
      len = c.copy_column.ensures.len ∙ at.invariant.len;
    }

pub returns-clause-bits : goal.returns-clause-bits
returns-clause-bits c = λ k.
    let at = c.loop-c in
    let end : at.c ≡ c.args.width = omega (arith, c.loop-c-test.false, at.auto.c-end) in
    rw end at (at.invariant.bits k)
