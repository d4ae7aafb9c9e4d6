use Rattle.std.proofs.Common.{◌<◌, SFits, add-one, arith, length, rules, w32}
use Rattle.std.proofs.lemmas.Int.{to_z-of_z}
use Rattle.tt_fit.proofs.Places.{one_place_more}
use Rattle.tt_fit.proofs.control_values.places.Goals as goal

pub loop-i-preserved : goal.loop-i-preserved
loop-i-preserved c =
    let fits : SFits w32 c.at.result = search rules in
    let pushed = simp to_z-of_z at c.push.ensures in
    let below : c.loop-i.i < length c.args.coordinates.now = omega (arith, c.count-i-end.ensures.exact) in
    rw (pushed, c.loop-i.invariant, c.at.ensures.exact, add-one)
    (one_place_more c.args.coordinates.now c.loop-i.i below)
