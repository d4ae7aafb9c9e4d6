use Rattle.std.proofs.Common.{SFits, w64, ℤ, arith, rules}
use Rattle.std.specs.Int.{int_max, int_min}
use Rattle.std.proofs.lemmas.Int.{ints, to_z-of_z, int_max_is, int_min_is}
use Rattle.tt_bdf.proofs.extent.joined_boxes.Goals as goal

lesser : (a b : ℤ) → SFits w64 a → SFits w64 b → SFits w64 (int_min a b)
lesser a b fa fb = omega (arith, ints, int_min_is a b)

greater : (a b : ℤ) → SFits w64 a → SFits w64 b → SFits w64 (int_max a b)
greater a b fa fb = omega (arith, ints, int_max_is a b)

pub returns : goal.returns
returns c =
    let a = c.args.a in
    let b = c.args.b in
    let al : SFits w64 a.left = search rules in
    let ao : SFits w64 a.bottom = search rules in
    let ar : SFits w64 a.right = search rules in
    let am : SFits w64 a.top = search rules in
    let bl : SFits w64 b.left = search rules in
    let bo : SFits w64 b.bottom = search rules in
    let br : SFits w64 b.right = search rules in
    let bm : SFits w64 b.top = search rules in
    let l = lesser a.left b.left al bl in
    let o = lesser a.bottom b.bottom ao bo in
    let r = greater a.right b.right ar br in
    let t = greater a.top b.top am bm in
    let el = simp to_z-of_z at c.min.ensures.value in
    let eo = simp to_z-of_z at c.min-2.ensures.value in
    let er = simp to_z-of_z at c.max.ensures.value in
    let et = simp to_z-of_z at c.max-2.ensures.value in
    rw (el, eo, er, et) (simp to_z-of_z)
