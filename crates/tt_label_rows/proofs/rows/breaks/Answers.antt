use Rattle.std.proofs.Common.{◌≡◌, ◌∙◌, [], ap, drop, get_or, false, true, ◌||◌, sym, length, ◌≤◌, arith}
use Rattle.std.proofs.lemmas.List.{drop_all, drop_more}
use Rattle.std.specs.List.{list_any}
use Rattle.tt_rows.specs.declared.row.LineRow.{LineRow}
use Rattle.tt_rows.specs.Rows.{empty_row}
use Rattle.tt_label_rows.proofs.rows.breaks.Goals as goal

pub loop-row-preserved : goal.loop-row-preserved
loop-row-preserved c =
    let rs = c.args.rows.now in
    let i = c.loop-row.row-index in
    let out : (get_or rs i empty_row).broken ≡ false = c.if-row.false in
    let was = rw (drop_more rs i empty_row c.loop-row-test.true) at c.loop-row.invariant in
    rw out at was

pub returns-then-row : goal.returns-then-row
returns-then-row c =
    let rs = c.args.rows.now in
    let i = c.loop-row.row-index in
    let hit : (get_or rs i empty_row).broken ≡ true = c.if-row.true in
    let was = rw (drop_more rs i empty_row c.loop-row-test.true) at c.loop-row.invariant in
    rw hit at was

pub returns : goal.returns
returns c =
    let none : drop c.loop-row.row-index c.args.rows.now ≡ [] =
    drop_all c.loop-row.row-index c.args.rows.now (omega (arith, c.loop-row-test.false)) in
    rw none at c.loop-row.invariant
