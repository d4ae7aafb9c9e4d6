use Rattle.std.proofs.Common.{◌≡◌, ◌∙◌, ◌<◌, length, get_or, ℤ, pos, Option, Some, None, SFits, w16, ap, sym, rules, arith}
use Rattle.std.proofs.lemmas.Int.{to_z-of_z}
use Rattle.std.proofs.lemmas.List.Elements.{All-push}
use Rattle.std.proofs.lemmas.Option.{slice_get-get_or}
use Rattle.tt_deltas_inference.specs.Bounds.{IsGiven}
use Rattle.tt_deltas.specs.Along.{axis_point, own_delta}
use Rattle.tt_deltas.proofs.Added.{no_value}
use Rattle.tt_deltas.proofs.Listed.{more}
use Rattle.tt_deltas.proofs.naming.name_all.Goals as goal

pub loop-i-preserved : goal.loop-i-preserved
loop-i-preserved c =
    let i = c.loop-i.i in
    let values = c.args.values.now in
    let deltas = c.args.deltas.now in
    let share = c.args.share.parts in
    let there : i < length deltas = omega (arith, c.loop-i-test.true, c.requires.deltas) in
    let fits : SFits w16 (get_or deltas i (pos 0)) = search rules in
    let point : c.axis_point.result ≡ axis_point share (get_or values i no_value).at (Some (get_or deltas i (pos 0))) =
    simp to_z-of_z at c.axis_point.ensures.exact in
    let is : c.axis_point.result ≡ axis_point share (get_or values i no_value).at (own_delta None deltas i) =
    point ∙ ap (λ (d : Option ℤ). axis_point share (get_or values i no_value).at d)
    (sym (slice_get-get_or deltas i (pos 0) there)) in
    let made = more share None deltas values c.loop-i.room.items i c.axis_point.result c.loop-i-test.true
    c.loop-i.invariant.made is in
    record {
      made = c.push_reserved.ensures.items ∙ made;
      given = rw c.push_reserved.ensures.items (All-push IsGiven c.loop-i.room.items c.axis_point.result
          c.loop-i.invariant.given c.axis_point.ensures.given);
      len = omega (arith, c.push_reserved.ensures.len, c.loop-i.invariant.len);
      capacity = c.push_reserved.ensures.capacity ∙ c.loop-i.invariant.capacity;
    }
