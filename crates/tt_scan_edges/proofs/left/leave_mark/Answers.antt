use Rattle.std.proofs.Common.{◌≡◌, ◌∙◌, SFits, to_z, w8, w32, w64, of_z, rules, arith, refl}
use Rattle.std.proofs.lemmas.Int.{ints, to_z-of_z}
use Rattle.tt_scan_edges.specs.Marks.{turns}
use Rattle.tt_scan_edges.proofs.Stretches.{turns_more}
use Rattle.tt_scan_edges.proofs.Visits.{sign_is}
use Rattle.tt_scan_edges.proofs.left.leave_mark.Goals as goal

pub returns-clause-turns : goal.returns-clause-turns
returns-clause-turns c = λ at.
    let wide : SFits w64 c.args.cross.first = search rules in
    let first : SFits w32 c.args.cross.first = omega (arith, ints, c.args.cross.near) in
    let turn : SFits w8 c.args.cross.turn = search rules in
    let whole : SFits w32 c.from.result = search rules in
    let is : c.from.result ≡ c.args.cross.turn = simp to_z-of_z at c.from.ensures in
    let at_first : to_z w32 (of_z w32 (to_z w64 (of_z w64 c.args.cross.first))) ≡ c.args.cross.first = simp to_z-of_z refl in
    let at_sign : to_z w32 (of_z w32 c.from.result) ≡ c.args.cross.turn = simp to_z-of_z is in
    rw c.push_reserved.ensures.items (turns_more c.args.marks.now.items _ at
    ∙ sign_is (turns c.args.marks.now.items at) at _ _ _ _ at_first at_sign c.args.cross.bound c.requires.some)
