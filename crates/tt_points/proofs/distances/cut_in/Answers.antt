use Rattle.std.proofs.Common.{SFits, w32, w64, refl, rules, arith}
use Rattle.std.proofs.lemmas.Int.{ints, to_z-of_z}
use Rattle.tt_points.proofs.distances.cut_in.Goals as goal

pub returns-then-apart-from : goal.returns-then-apart-from
returns-then-apart-from c =
    let d : SFits w64 c.args.d.distance = omega (arith, ints, c.args.d.few) in
    let value : SFits w64 c.args.c.distance = omega (arith, ints, c.args.c.few) in
    let cut_in : SFits w32 c.args.state.now.cut_in = search rules in
    let wide : SFits w64 c.from.result = search rules in
    let far : SFits w64 c.apart.result = search rules in
    let from = simp to_z-of_z at c.from.ensures in
    let apart = simp to_z-of_z at c.apart.ensures in
    let further = rw (from, apart) at (simp to_z-of_z at c.if-apart-from.true) in
    rw further refl
