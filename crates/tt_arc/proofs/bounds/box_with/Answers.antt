use Rattle.std.proofs.Common.{SFits, w32, w64, refl, arith}
use Rattle.std.proofs.lemmas.Int.{ints, to_z-of_z}
use Rattle.tt_arc.proofs.bounds.box_with.Goals as goal

pub returns-clause-exact : goal.returns-clause-exact
returns-clause-exact c =
    let x : SFits w32 c.args.place.x = omega (arith, ints, c.requires.place.x) in
    let y : SFits w32 c.args.place.y = omega (arith, ints, c.requires.place.y) in
    let wide_x : SFits w64 c.args.place.x = omega (arith, ints, c.requires.place.x) in
    let wide_y : SFits w64 c.args.place.y = omega (arith, ints, c.requires.place.y) in
    let left : SFits w32 c.args.extents.across.low = omega (arith, ints, c.requires.extents.across.low) in
    let right : SFits w32 c.args.extents.across.high = omega (arith, ints, c.requires.extents.across.high) in
    let bottom : SFits w32 c.args.extents.up.low = omega (arith, ints, c.requires.extents.up.low) in
    let top : SFits w32 c.args.extents.up.high = omega (arith, ints, c.requires.extents.up.high) in
    let across = simp to_z-of_z at c.extent_with.ensures.exact in
    let up = simp to_z-of_z at c.extent_with-2.ensures.exact in
    rw (across, up) refl
