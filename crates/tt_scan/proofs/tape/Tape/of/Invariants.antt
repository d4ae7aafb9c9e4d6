use Rattle.std.proofs.Common.{◌≡◌, false, take}
use Rattle.tt_scan.specs.EdgeList.{IsGapAt, AreEntered}
use Rattle.tt_scan.specs.EdgeTable.{HasRoom}
use Rattle.tt_scan.proofs.tape.Tape.of.Given as goal

abbrev pub invariant-loop-i : goal.invariant-loop-i
invariant-loop-i l = record {
  entered : AreEntered (take l.i l.fn.list.edges) l.frame l.rows l.table.entries.items;
  gap : IsGapAt l.at l.gap;
  room : HasRoom l.table;
  sorted : l.table.sorted ≡ false;
}
