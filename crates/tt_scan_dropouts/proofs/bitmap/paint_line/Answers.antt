use Rattle.std.proofs.Common.{◌≡◌, ◌∙◌, refl, ℕ, ◌+◌, ◌-◌, ◌*◌, ◌≤◌, pos, ◌+ℤ◌, ◌-ℤ◌, length, drop, take, SFits, w32, w64, rules, arith}
use Rattle.std.proofs.lemmas.Int.{ints, to_z-of_z}
use Rattle.std.proofs.lemmas.List.{length-drop, length-take-le}
use Rattle.tt_bitmap.specs.Bitmaps as bitmaps
use Rattle.tt_core.specs.Bits.{stride}
use Rattle.tt_scan_dropouts.proofs.Inked.{line_painted, painted_row}
use Rattle.tt_scan_dropouts.proofs.Places.{row_within}
use Rattle.tt_scan_dropouts.proofs.bitmap.paint_line.Goals as goal

pub returns-clause-black : goal.returns-clause-black
returns-clause-black c = λ column row inside.
    let w = c.args.window in
    let s = c.args.s in
    let bits = c.args.bits.now in
    let black = bitmaps.is_black c.args.inked.now in
    let n = c.stride-bytes.result in
    let is : n ≡ stride w.width = c.stride-bytes.ensures in
    let a : ℕ = n * s in
    let k : ℕ = n * s + n - n * s in
    let left : SFits w32 w.left = omega (arith, ints, c.requires.window.left) in
    let bottom : SFits w32 w.bottom = omega (arith, ints, c.requires.window.bottom) in
    let left_is : c.from.result ≡ w.left = simp to_z-of_z at c.from.ensures in
    let bottom_is : c.from-2.result ≡ w.bottom = simp to_z-of_z at c.from-2.ensures in
    let aside : SFits w64 c.from.result = search rules in
    let under : SFits w64 c.from-2.result = search rules in
    let above : SFits w64 c.from-3.result = search rules in
    let back : SFits w64 (pos 0 -ℤ c.from.result) = omega (arith, ints, c.requires.window.left, left_is) in
    let line : SFits w64 (c.from-2.result +ℤ c.from-3.result) =
    omega (arith, ints, c.requires.window.bottom, bottom_is, c.from-3.ensures, c.requires.within, c.requires.window.high) in
    let painted = rw (left_is, bottom_is, c.from-3.ensures) at (simp to_z-of_z at c.paint.ensures) in
    let room : n * s + n ≤ length bits = rw (is, c.requires.len) (row_within w.width w.height s c.requires.within) in
    let part : k ≡ n = omega arith in
    let cut : length (take k (drop a bits)) ≡ k = length-take-le k (drop a bits) (omega (arith, length-drop a bits, room)) in
    line_painted w black s a k bits c.paint.new.band column row c.requires.within (rw is refl) (part ∙ is) c.requires.len
    (painted.len ∙ cut) (λ d narrow. painted_row n w s d black (take k (drop a bits)) c.paint.new.band painted (omega (arith, narrow, part)))
    inside
