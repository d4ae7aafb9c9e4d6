use Rattle.std.proofs.Common.{◌≡◌, ap, SFits, w64, rules}
use Rattle.std.proofs.lemmas.Int.{to_z-of_z}
use Rattle.tt_bitmap.specs.Bitmaps as bitmaps
use Rattle.tt_bitmap.specs.Bitmaps.{BoxFits, is_black}
use Rattle.tt_bitmap.specs.Inks.{AreLeast, IsLeastBox, box_by}
use Rattle.tt_bitmap.proofs.Boxes.{black_at, box_least, box_near}
use Rattle.tt_bitmap.proofs.bitmap.BoxBitmap.ink.Goals.{After-box_by}
use Rattle.tt_bitmap.proofs.bitmap.BoxBitmap.ink.Goals as goal

-- the box is that of the rows' sides
least_then : (c : After-box_by) → IsLeastBox (is_black c.args.self.now) c.box_by.result
least_then c =
    let b = c.args.self.now in
    let own = c.self.inside in
    let s = c.in_ok-sides.sides in
    let left : own.left ≡ b.left = ap (λ (b : bitmaps.BoxBitmap). b.left) c.self.view_is in
    let top : own.top ≡ b.top = ap (λ (b : bitmaps.BoxBitmap). b.top) c.self.view_is in
    let width : own.width ≡ b.width = ap (λ (b : bitmaps.BoxBitmap). b.width) c.self.view_is in
    let height : own.height ≡ b.height = ap (λ (b : bitmaps.BoxBitmap). b.height) c.self.view_is in
    let words : own.words.items ≡ b.words = ap (λ (b : bitmaps.BoxBitmap). b.words) c.self.view_is in
    let is_left : SFits w64 own.left = search rules in
    let is_top : SFits w64 own.top = search rules in
    let are : AreLeast (black_at b) s = rw (c.deref.ensures.value, words, width, height) at c.in_ok-sides.ensures in
    let box : c.box_by.result ≡ box_by b.left b.top s = rw (left, top) at (simp to_z-of_z at c.box_by.ensures) in
    rw box (box_least b s are)

fits : (c : After-box_by) → BoxFits c.args.self.now.left c.args.self.now.top c.args.self.now.width c.args.self.now.height
fits c =
    let b = c.args.self.now in
    let own = c.self.inside in
    let left : own.left ≡ b.left = ap (λ (b : bitmaps.BoxBitmap). b.left) c.self.view_is in
    let top : own.top ≡ b.top = ap (λ (b : bitmaps.BoxBitmap). b.top) c.self.view_is in
    let width : own.width ≡ b.width = ap (λ (b : bitmaps.BoxBitmap). b.width) c.self.view_is in
    let height : own.height ≡ b.height = ap (λ (b : bitmaps.BoxBitmap). b.height) c.self.view_is in
    rw (left, top, width, height) at c.self.invariant.0

pub returns-clause-exact : goal.returns-clause-exact
returns-clause-exact c = least_then (goal.at.returns-clause-exact c).After-box_by

pub returns-clause-near : goal.returns-clause-near
returns-clause-near c =
    let all = (goal.at.returns-clause-near c).After-box_by in
    box_near c.args.self.now c.box_by.result (fits all) (least_then all)
