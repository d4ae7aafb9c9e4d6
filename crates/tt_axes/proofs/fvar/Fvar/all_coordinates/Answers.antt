use Rattle.std.proofs.Common.{SFits, w32, sym, rules, arith}
use Rattle.std.proofs.lemmas.Int.{to_z-of_z}
use Rattle.std.proofs.lemmas.List.FromFn.{length-map-range_with_len, map-range_with_len_more}
use Rattle.tt_axes.specs.Instances.{coordinate_of}
use Rattle.tt_axes.proofs.fvar.Fvar.all_coordinates.Goals as goal

pub push-requires-clause-room : goal.push-requires-clause-room
push-requires-clause-room c =
    let f = coordinate_of c.args.self.now c.args.named c.args.values.now in
    rw (c.loop-i.invariant, length-map-range_with_len f 0 c.loop-i.i) (omega (arith, c.loop-i-test.true, c.axis_count-i-end.ensures.few))

pub loop-i-preserved : goal.loop-i-preserved
loop-i-preserved c =
    let fits : SFits w32 c.coordinate.result = search rules in
    let f = coordinate_of c.args.self.now c.args.named c.args.values.now in
    let more = map-range_with_len_more f 0 c.loop-i.i c.loop-i.i (omega arith) in
    let pushed = simp to_z-of_z at c.push.ensures in
    rw (pushed, c.loop-i.invariant, c.coordinate.ensures.exact) (sym more)

pub returns-clause-count : goal.returns-clause-count
returns-clause-count c =
    let f = coordinate_of c.args.self.now c.args.named c.args.values.now in
    rw (c.loop-i.invariant, length-map-range_with_len f 0 c.loop-i.i) (omega (arith, c.axis_count-i-end.ensures.exact))
