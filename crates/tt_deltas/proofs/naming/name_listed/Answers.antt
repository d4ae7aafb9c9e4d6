use Rattle.std.proofs.Common.{◌≡◌, ◌∙◌, get_or, Some, arith}
use Rattle.std.proofs.lemmas.List.Elements.{All-push}
use Rattle.tt_deltas_inference.specs.Bounds.{IsGiven}
use Rattle.tt_deltas.specs.Along.{axis_point, own_delta}
use Rattle.tt_deltas.proofs.Added.{no_value}
use Rattle.tt_deltas.proofs.Listed.{more}
use Rattle.tt_deltas.proofs.naming.name_listed.Goals as goal

pub loop-i-preserved : goal.loop-i-preserved
loop-i-preserved c =
    let i = c.loop-i.i in
    let values = c.args.values.now in
    let numbers = c.args.numbers.now in
    let deltas = c.args.deltas.now in
    let share = c.args.share.parts in
    let is : c.axis_point.result ≡ axis_point share (get_or values i no_value).at (own_delta (Some numbers) deltas i) =
    rw c.listed_delta-listed.ensures.exact at c.axis_point.ensures.exact in
    let made = more share (Some numbers) deltas values c.loop-i.room.items i c.axis_point.result c.loop-i-test.true
    c.loop-i.invariant.made is in
    record {
      made = c.push_reserved.ensures.items ∙ made;
      place = c.listed_delta-listed.ensures.place;
      given = rw c.push_reserved.ensures.items (All-push IsGiven c.loop-i.room.items c.axis_point.result
          c.loop-i.invariant.given c.axis_point.ensures.given);
      len = omega (arith, c.push_reserved.ensures.len, c.loop-i.invariant.len);
      capacity = c.push_reserved.ensures.capacity ∙ c.loop-i.invariant.capacity;
    }
