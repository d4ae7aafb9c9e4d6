use Rattle.std.proofs.Common.{◌≡◌, ◌∙◌, ◌+◌, ◌||◌, ◌&&◌, nat_le, nat_lt, ℕ, SFits, w64, ap, sym}
use Rattle.std.proofs.lemmas.Int.{to_z-of_z}
use Rattle.std.proofs.lemmas.List.{with_items_is}
use Rattle.tt_bitmap.specs.Bitmaps as bitmaps
use Rattle.tt_bitmap.specs.Bitmaps.{number, pixel}
use Rattle.tt_bitmap.proofs.Points.{blackened, no_pixel_blackened}
use Rattle.tt_bitmap.proofs.bitmap.BoxBitmap.blacken.Goals as goal

pub returns-then-not-has-clause-black : goal.returns-then-not-has-clause-black
returns-then-not-has-clause-black c =
    let column : SFits w64 c.args.column = c.ranges.column in
    let line : SFits w64 c.args.line = c.ranges.line in
    let lacks = simp to_z-of_z at (sym c.has.ensures ∙ c.if-not-has.true) in
    λ k j. no_pixel_blackened c.args.self.now k j c.args.column c.args.line lacks

pub returns-clause-black : goal.returns-clause-black
returns-clause-black c =
    let now = c.args.self.now in
    let column : SFits w64 c.args.column = c.ranges.column in
    let line : SFits w64 c.args.line = c.ranges.line in
    let inside = simp to_z-of_z at (sym c.has.ensures ∙ c.if-not-has.false) in
    let left : c.self.inside.left ≡ now.left = ap (λ (b : bitmaps.BoxBitmap). b.left) c.self.view_is in
    let top : c.self.inside.top ≡ now.top = ap (λ (b : bitmaps.BoxBitmap). b.top) c.self.view_is in
    let width : c.self.inside.width ≡ now.width = ap (λ (b : bitmaps.BoxBitmap). b.width) c.self.view_is in
    let height : c.self.inside.height ≡ now.height = ap (λ (b : bitmaps.BoxBitmap). b.height) c.self.view_is in
    let words : c.self.inside.words.items ≡ now.words = ap (λ (b : bitmaps.BoxBitmap). b.words) c.self.view_is in
    let at : c.number-at.result ≡ number now c.args.column c.args.line = simp to_z-of_z at c.number-at.ensures.exact in
    let set : (i : ℕ) → pixel c.blacken_run.new.words i ≡ (pixel now.words i || (nat_le c.number-at.result i && nat_lt i (c.number-at.result + 1))) =
    λ i. rw (← words, ← c.deref_mut.ensures.value) (c.blacken_run.ensures.pixels i) in
    let written = with_items_is c.self.inside.words c.blacken_run.new.words (c.blacken_run.ensures.len ∙ c.deref_mut.ensures.len) in
    λ k j. rw (left, top, width, height, written) (blackened now c.blacken_run.new.words c.number-at.result k j c.args.column c.args.line inside at set)
