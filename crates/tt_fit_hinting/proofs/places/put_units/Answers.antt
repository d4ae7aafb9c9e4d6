use Rattle.std.proofs.Common.{◌∙◌, ◌<◌, pos, false, length, get_or, SFits, w16, w32, rules, arith}
use Rattle.std.proofs.lemmas.Int.{to_z-of_z}
use Rattle.std.proofs.lemmas.List.Elements.{All-set}
use Rattle.tt_glyf.specs.declared.raw.RawPoint.{RawPoint}
use Rattle.tt_exec.specs.zones.Zones.{IsPoint}
use Rattle.tt_fit_hinting.proofs.Zones.{one_put, all_placed}
use Rattle.tt_fit_hinting.proofs.places.put_units.Goals as goal

pub loop-i-preserved : goal.loop-i-preserved
loop-i-preserved c =
    let there : c.loop-i.i < length c.args.zone.now.items = omega arith in
    let here : c.loop-i.i < length c.args.places.now = omega arith in
    let blank : RawPoint = record { x = pos 0; y = pos 0; on = false } in
    let place : RawPoint = get_or c.args.places.now c.loop-i.i blank in
    let x : SFits w32 c.from.result = search rules in
    let y : SFits w32 c.from-in-loop-i.result = search rules in
    let x_is : SFits w16 place.x = search rules in
    let y_is : SFits w16 place.y = search rules in
    record {
      so_far = one_put c.args.places.now c.args.zone.now.items c.loop-i.zone.items c.loop-i.i blank c.index.result.now
          c.with_units.result c.from.result c.from-in-loop-i.result here there c.loop-i.invariant.so_far
          (simp to_z-of_z at c.from.ensures) (simp to_z-of_z at c.from-in-loop-i.ensures) c.index.ensures
          (simp to_z-of_z at c.with_units.ensures.exact);
      valid = All-set IsPoint c.loop-i.zone.items _ _ c.with_units.ensures.valid c.loop-i.invariant.valid;
    }

pub returns-clause-exact : goal.returns-clause-exact
returns-clause-exact c =
    c.loop-i.invariant.so_far
    ∙ all_placed c.args.places.now c.args.zone.now.items c.loop-i.i (λ below. omega arith)
