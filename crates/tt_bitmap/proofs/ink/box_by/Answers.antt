use Rattle.std.proofs.Common.{refl, ◌+ℤ◌, ◌-ℤ◌, SFits, w64, rules}
use Rattle.std.proofs.lemmas.Int.{to_z-of_z}
use Rattle.tt_bitmap.proofs.ink.box_by.Goals as goal

pub returns : goal.returns
returns c =
    let left = c.args.left in
    let top = c.args.top in
    let is_left : SFits w64 left = c.ranges.left in
    let is_top : SFits w64 top = c.ranges.top in
    let one : SFits w64 c.from.result = search rules in
    let two : SFits w64 c.from-2.result = search rules in
    let three : SFits w64 c.from-3.result = search rules in
    let four : SFits w64 c.from-4.result = search rules in
    let near_left = c.requires.left in
    let near_top = c.requires.top in
    let five : SFits w64 (left +ℤ c.from.result) = search rules in
    let six : SFits w64 (top -ℤ c.from-2.result) = search rules in
    let seven : SFits w64 (left +ℤ c.from-3.result) = search rules in
    let eight : SFits w64 (top -ℤ c.from-4.result) = search rules in
    simp to_z-of_z (rw (c.from.ensures, c.from-2.ensures, c.from-3.ensures, c.from-4.ensures) refl)
