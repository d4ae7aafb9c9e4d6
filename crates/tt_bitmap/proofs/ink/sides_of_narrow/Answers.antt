use Rattle.std.proofs.Common.{◌≡◌, ◌&&◌, nat_lt, arith}
use Rattle.tt_bitmap.specs.Inks.{row_has}
use Rattle.tt_bitmap.proofs.NarrowInks.{narrow_more, no_narrow, rows_above}
use Rattle.tt_bitmap.proofs.RowSides.{no_row}
use Rattle.tt_bitmap.proofs.ink.sides_of_narrow.Goals as goal

pub loop-r-init : goal.loop-r-init
loop-r-init c =
    let n = c.args.columns in
    no_narrow (λ r m. nat_lt r 0 && row_has c.args.words.now n n r m) (λ r m. no_row r (row_has c.args.words.now n n r m))

pub first_columns-requires : goal.first_columns-requires
first_columns-requires c = omega (arith, c.requires.columns)

pub loop-r-preserved : goal.loop-r-preserved
loop-r-preserved c =
    let words = c.args.words.now in
    let n = c.args.columns in
    let row = c.loop-r.r in
    narrow_more words n row c.first_columns.result c.with_narrow-ink.result c.requires.columns c.first_columns.ensures
    (c.with_narrow-ink.ensures (λ r m. nat_lt r row && row_has words n n r m) (rows_above row (row_has words n n)) c.loop-r.invariant)

pub returns : goal.returns
returns c =
    let words = c.args.words.now in
    let n = c.args.columns in
    let end : c.loop-r.r ≡ c.args.height = omega (arith, c.loop-r-test.false, c.loop-r.auto.r-end) in
    c.narrow_sides.ensures (λ r m. nat_lt r c.args.height && row_has words n n r m) (rw end at c.loop-r.invariant)
