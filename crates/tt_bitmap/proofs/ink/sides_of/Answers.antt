use Rattle.std.proofs.Common.{◌≡◌, ◌∙◌, sym, ◌≤◌, ◌+◌, ◌*◌, ◌&&◌, ◌||◌, ◌==◌, nat_lt, arith}
use Rattle.std.proofs.lemmas.Nat.{mul-le}
use Rattle.tt_bitmap.specs.Bitmaps.{strips}
use Rattle.tt_bitmap.specs.Inks.{row_has}
use Rattle.tt_bitmap.proofs.RowSides.{no_row, one_row_more}
use Rattle.tt_bitmap.proofs.Sides.{sides_same}
use Rattle.tt_bitmap.proofs.ink.sides_of.Goals as goal

pub sides_of_narrow-requires-clause-columns : goal.sides_of_narrow-requires-clause-columns
sides_of_narrow-requires-clause-columns c = sym c.strips_of-strips.ensures ∙ c.if-strips-eq1.true

pub sides_of_narrow-requires-clause-words : goal.sides_of_narrow-requires-clause-words
sides_of_narrow-requires-clause-words c =
    let one : strips c.args.columns ≡ 1 = sym c.strips_of-strips.ensures ∙ c.if-strips-eq1.true in
    omega (arith, rw one at c.requires.words)

pub loop-row-init : goal.loop-row-init
loop-row-init c = λ r m. no_row r (row_has c.args.words.now c.args.columns c.args.columns r m)

pub with_row-sides-requires-clause-words : goal.with_row-sides-requires-clause-words
with_row-sides-requires-clause-words c =
    let all : strips c.args.columns * (c.loop-row.row + 1) ≤ strips c.args.columns * c.args.height =
    mul-le (strips c.args.columns) (c.loop-row.row + 1) (strips c.args.columns) c.args.height (omega arith) (omega (arith, c.loop-row-test.true)) in
    omega (arith, all, c.requires.words)

pub loop-row-preserved : goal.loop-row-preserved
loop-row-preserved c =
    let words = c.args.words.now in
    let n = c.args.columns in
    let row = c.loop-row.row in
    let more = c.with_row-sides.ensures (λ r m. nat_lt r row && row_has words n n r m) c.loop-row.invariant in
    sides_same (λ r m. (nat_lt r row && row_has words n n r m) || ((r == row) && row_has words n n r m))
    (λ r m. nat_lt r (row + 1) && row_has words n n r m) c.with_row-sides.result
    (λ r m. one_row_more r row (row_has words n n r m)) more

pub returns : goal.returns
returns c =
    let end : c.loop-row.row ≡ c.args.height = omega (arith, c.loop-row-test.false, c.loop-row.auto.row-end) in
    rw end at c.loop-row.invariant
