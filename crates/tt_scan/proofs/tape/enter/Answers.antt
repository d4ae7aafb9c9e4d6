use Rattle.tt_scan.proofs.Standing.{entry_pushed}
use Rattle.tt_scan.proofs.Unmet.{rows_joined}
use Rattle.tt_scan.proofs.tape.enter.Goals as goal

pub returns-clause-entered : goal.returns-clause-entered
returns-clause-entered c = λ es number before. record {
  rows = rows_joined es c.args.edge c.args.frame c.args.all.now c.row_range-rows.result c.join.new.all before.rows
      c.row_range-rows.ensures c.join.ensures.left c.join.ensures.right c.join.ensures.first c.join.ensures.last
      c.join.ensures.order;
  table = entry_pushed es c.args.frame c.args.table.now.entries.items c.add_entry.new.table.entries.items c.args.edge
      c.row_range-rows.result before.table c.row_range-rows.ensures (rw number at c.in_ok-add_entry.ensures.added);
}
