use Rattle.std.proofs.Common.{SFits, w32, w64, refl, rules, arith}
use Rattle.std.proofs.lemmas.Int.{ints, clamps, to_z-of_z}
use Rattle.tt_scan_edges.proofs.Crosses.{level_cross}
use Rattle.tt_scan_edges.proofs.crossing.flat.Goals as goal

pub from_centre-right-requires : goal.from_centre-right-requires
from_centre-right-requires c =
    let ax : SFits w32 c.args.edge.ax = search rules in
    let bx : SFits w32 c.args.edge.bx = search rules in
    let max : SFits w32 c.max.result = search rules in
    let is = simp to_z-of_z at c.max.ensures.value in
    simp to_z-of_z (omega (arith, ints, clamps))

pub returns : goal.returns
returns c =
    let ax : SFits w32 c.args.edge.ax = search rules in
    let bx : SFits w32 c.args.edge.bx = search rules in
    let ay : SFits w32 c.args.edge.ay = search rules in
    let min : SFits w32 c.min.result = search rules in
    let max : SFits w32 c.max.result = search rules in
    let low : SFits w64 c.from_centre-left.result = search rules in
    let high : SFits w64 c.from_centre-right.result = search rules in
    let is_min = simp to_z-of_z at c.min.ensures.value in
    let is_max = simp to_z-of_z at c.max.ensures.value in
    let is_low = simp to_z-of_z at c.from_centre-left.ensures.exact in
    let is_high = simp to_z-of_z at c.from_centre-right.ensures.exact in
    let touch = simp to_z-of_z at c.pixels_between.ensures.exact in
    level_cross c.args.edge c.args.at.frame.margin c.args.at.y c.from_centre-left.result c.from_centre-right.result _ c.requires.level c.requires.here (rw (is_low, is_min) refl) (rw (is_high, is_max) refl) touch c.pixels_between.ensures.order refl refl
