use Rattle.std.proofs.Common.{◌≡◌, ap, ◌+◌, ◌-◌, ◌&&◌, nat_le, nat_lt, pos, ◌+ℤ◌, ◌-ℤ◌, SFits, w64, refl, rules, arith}
use Rattle.std.proofs.lemmas.Int.{ints, to_z-of_z}
use Rattle.tt_bitmap.specs.Bitmaps as bitmaps
use Rattle.tt_bitmap.specs.Bitmaps.{is_black, shown_in}
use Rattle.tt_bitmap.proofs.Bands.{repainted}
use Rattle.tt_bitmap.proofs.Blacks.{among, shown_black}
use Rattle.tt_bitmap.proofs.bitmap.BoxBitmap.paint.Goals as goal

pub returns : goal.returns
returns c =
    let b = c.args.self.now in
    let own = c.self.inside in
    let left : own.left ≡ b.left = ap (λ (b : bitmaps.BoxBitmap). b.left) c.self.view_is in
    let top : own.top ≡ b.top = ap (λ (b : bitmaps.BoxBitmap). b.top) c.self.view_is in
    let width : own.width ≡ b.width = ap (λ (b : bitmaps.BoxBitmap). b.width) c.self.view_is in
    let height : own.height ≡ b.height = ap (λ (b : bitmaps.BoxBitmap). b.height) c.self.view_is in
    let words : own.words.items ≡ b.words = ap (λ (b : bitmaps.BoxBitmap). b.words) c.self.view_is in
    let is_column : SFits w64 c.args.column = c.ranges.column in
    let is_line : SFits w64 c.args.line = c.ranges.line in
    let is_left : SFits w64 own.left = search rules in
    let is_top : SFits w64 own.top = search rules in
    let is_at : SFits w64 (c.args.column +ℤ own.left) = omega (arith, ints, c.requires.column, c.self.invariant.0.near_left) in
    let first = c.rows_shared-shared.result.first in
    let count = c.rows_shared-shared.result.count in
    let start = c.rows_shared-shared.result.own in
    let lies = rw (top, height) at (simp to_z-of_z at c.rows_shared-shared.ensures.lies) in
    let row = rw top at (simp to_z-of_z at c.rows_shared-shared.ensures.row) in
    let painted = rw (c.deref.ensures.value, words, width, left) at (simp to_z-of_z at c.paint_shared.ensures c.args.rows) in
    repainted c.args.bytes c.args.rows
    (λ i k. (nat_le first i && nat_lt i (first + count)) && (nat_lt k c.args.width && shown_in b.words b.width (c.args.column +ℤ b.left) b.width (start + (i - first)) k))
    (λ i k. nat_lt k c.args.width && is_black b (pos k -ℤ c.args.column) (c.args.line -ℤ pos i))
    c.args.band.now c.paint_shared.new.band painted
    (λ i k below. shown_black b c.args.column (c.args.column +ℤ b.left) (c.args.line -ℤ pos i) (nat_lt k c.args.width) (nat_le first i && nat_lt i (first + count))
    (start + (i - first)) k refl (lies i below) (λ yes. let within = among first count i yes in row i within.0 within.1))
