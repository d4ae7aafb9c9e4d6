use Rattle.std.proofs.Common.{◌≡◌, Some, take, vec_len, vec_capacity, All}
use Rattle.tt_deltas_inference.specs.Bounds.{IsGiven}
use Rattle.tt_deltas.specs.Along.{IsPlaceFor, axis_points}
use Rattle.tt_deltas.proofs.naming.name_listed.Given as goal

abbrev pub invariant-loop-i : goal.invariant-loop-i
invariant-loop-i l = record {
  made : l.room.items ≡ axis_points l.share.parts (Some l.numbers) l.deltas 0 (take l.i l.values);
  place : IsPlaceFor l.numbers l.i l.next;
  given : All IsGiven l.room.items;
  len : vec_len l.room ≡ l.i;
  capacity : vec_capacity l.room ≡ vec_capacity l.fn.room;
}
