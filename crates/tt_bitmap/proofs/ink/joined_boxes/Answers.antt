use Rattle.std.proofs.Common.{◌≡◌, SFits, w64, rules}
use Rattle.std.specs.Int.{int_max, int_min}
use Rattle.std.proofs.lemmas.Int.{to_z-of_z}
use Rattle.tt_bitmap.proofs.BothInks.{same_box}
use Rattle.tt_bitmap.proofs.ink.joined_boxes.Goals as goal

pub returns : goal.returns
returns c =
    let a = c.args.a in
    let b = c.args.b in
    let a_left : SFits w64 a.left = search rules in
    let a_bottom : SFits w64 a.bottom = search rules in
    let a_right : SFits w64 a.right = search rules in
    let a_top : SFits w64 a.top = search rules in
    let b_left : SFits w64 b.left = search rules in
    let b_bottom : SFits w64 b.bottom = search rules in
    let b_right : SFits w64 b.right = search rules in
    let b_top : SFits w64 b.top = search rules in
    let low : SFits w64 c.min.result = search rules in
    let low_too : SFits w64 c.min-2.result = search rules in
    let high : SFits w64 c.max.result = search rules in
    let high_too : SFits w64 c.max-2.result = search rules in
    let left : c.min.result ≡ int_min a.left b.left = simp to_z-of_z at c.min.ensures.value in
    let bottom : c.min-2.result ≡ int_min a.bottom b.bottom = simp to_z-of_z at c.min-2.ensures.value in
    let right : c.max.result ≡ int_max a.right b.right = simp to_z-of_z at c.max.ensures.value in
    let top : c.max-2.result ≡ int_max a.top b.top = simp to_z-of_z at c.max-2.ensures.value in
    simp to_z-of_z (same_box _ _ left bottom right top)
