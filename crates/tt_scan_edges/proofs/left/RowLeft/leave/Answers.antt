use Rattle.std.proofs.Common.{refl, rules}
use Rattle.tt_scan_edges.proofs.left.RowLeft.leave.Goals as goal

pub returns : goal.returns
returns c = record {
  black = λ k. rw (← c.self.view_is) (c.leave_touch.ensures.black k);
  turn = λ k. rw (← c.self.view_is) (c.leave_turn.ensures.turns k);
  whole = rw (← c.self.view_is) refl;
  room = search rules;
}
