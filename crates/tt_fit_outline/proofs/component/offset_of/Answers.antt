use Rattle.std.proofs.Common.{SFits, w32, w64, refl, rules}
use Rattle.std.proofs.lemmas.Int.{to_z-of_z}
use Rattle.tt_fit_outline.proofs.component.offset_of.Goals as goal

pub returns : goal.returns
returns c =
    let x : SFits w64 c.offset_along.result = search rules in
    let y : SFits w64 c.offset_along-2.result = search rules in
    let given_x : SFits w32 c.args.part.arg1 = search rules in
    let given_y : SFits w32 c.args.part.arg2 = search rules in
    let is_x = simp to_z-of_z at c.offset_along.ensures.exact in
    let is_y = simp to_z-of_z at c.offset_along-2.ensures.exact in
    simp to_z-of_z (rw (is_x, is_y) refl)
