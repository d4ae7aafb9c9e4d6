use Rattle.std.proofs.Common.{◌∙◌, ap, of_z, w8}
use Rattle.tt_scan_edges.proofs.Stretches.{turns_permuted}
use Rattle.tt_scan_edges.proofs.left.leave_turn.Goals as goal

pub leave_mark-requires-clause-some : goal.leave_mark-requires-clause-some
leave_mark-requires-clause-some c = λ same. c.if-cross-ne0.true (ap (of_z w8) same)

pub returns-then-cross-ne0-clause-turns : goal.returns-then-cross-ne0-clause-turns
returns-then-cross-ne0-clause-turns c = λ at.
    turns_permuted c.leave_mark.new.marks.items c.sink.new.items.items at c.sink.ensures.permutation ∙ c.leave_mark.ensures.turns at
