use Rattle.std.proofs.Common.{◌≡◌, ◌∙◌, ◌+◌, ◌≤◌, ◌||◌, ◌&&◌, nat_le, nat_lt, ℕ, ◌-ℤ◌, int_le, true, false, unsigned_abs, SFits, w64, ap, sym, rules, arith}
use Rattle.std.proofs.lemmas.Int.{to_z-of_z}
use Rattle.std.proofs.lemmas.List.{with_items_is}
use Rattle.tt_bitmap.specs.Bitmaps as bitmaps
use Rattle.tt_bitmap.specs.Bitmaps.{is_line, number_at, pixel}
use Rattle.tt_bitmap.proofs.Places.{on_line}
use Rattle.tt_bitmap.proofs.Points.{no_span_blackened, span_blackened}
use Rattle.tt_bitmap.proofs.bitmap.BoxBitmap.blacken_span.Goals as goal

pub returns-then-not-is_line-clause-black : goal.returns-then-not-is_line-clause-black
returns-then-not-is_line-clause-black c =
    let now = c.args.self.now in
    let line : SFits w64 c.args.line = c.ranges.line in
    let first : SFits w64 c.args.first = c.ranges.first in
    let last : SFits w64 c.args.last = c.ranges.last in
    let its_top : SFits w64 c.self.inside.top = search rules in
    let top : c.self.inside.top ≡ now.top = ap (λ (b : bitmaps.BoxBitmap). b.top) c.self.view_is in
    let height : c.self.inside.height ≡ now.height = ap (λ (b : bitmaps.BoxBitmap). b.height) c.self.view_is in
    let lacks : is_line now.top now.height c.args.line ≡ false = rw (top, height) at (simp to_z-of_z at (sym c.is_line.ensures ∙ c.if-not-is_line.true)) in
    λ k j. no_span_blackened now k j c.args.line (int_le c.args.first k && int_le k c.args.last) lacks

pub returns-clause-black : goal.returns-clause-black
returns-clause-black c =
    let now = c.args.self.now in
    let own = c.self.inside in
    let line : SFits w64 c.args.line = c.ranges.line in
    let first : SFits w64 c.args.first = c.ranges.first in
    let last : SFits w64 c.args.last = c.ranges.last in
    let its_top : SFits w64 own.top = search rules in
    let its_left : SFits w64 own.left = search rules in
    let left : own.left ≡ now.left = ap (λ (b : bitmaps.BoxBitmap). b.left) c.self.view_is in
    let top : own.top ≡ now.top = ap (λ (b : bitmaps.BoxBitmap). b.top) c.self.view_is in
    let width : own.width ≡ now.width = ap (λ (b : bitmaps.BoxBitmap). b.width) c.self.view_is in
    let height : own.height ≡ now.height = ap (λ (b : bitmaps.BoxBitmap). b.height) c.self.view_is in
    let words : own.words.items ≡ now.words = ap (λ (b : bitmaps.BoxBitmap). b.words) c.self.view_is in
    let has : is_line now.top now.height c.args.line ≡ true = rw (top, height) at (simp to_z-of_z at (sym c.is_line.ensures ∙ c.if-not-is_line.false)) in
    let row = on_line now.top now.height c.args.line has in
    let begin : c.row_number-begin.result ≡ number_at now.width (unsigned_abs (now.top -ℤ c.args.line)) 0 =
    rw (width, top) at (simp to_z-of_z at c.row_number-begin.ensures.exact) in
    let from = rw (width, left) at (simp to_z-of_z at c.columns_before-from.ensures.exact) in
    let up_to = rw (width, left) at (simp to_z-of_z at c.columns_up_to.ensures.exact) in
    let within : c.max-past.result ≤ now.width =
    rw width at (let most : c.max-past.result ≤ own.width = omega (arith, c.max-past.ensures, c.columns_before-from.ensures.most, c.columns_up_to.ensures.most) in most) in
    let set : (i : ℕ) → pixel c.blacken_run.new.words i
    ≡ (pixel now.words i || (nat_le (c.row_number-begin.result + c.columns_before-from.result) i && nat_lt i (c.row_number-begin.result + c.max-past.result))) =
    λ i. rw (← words, ← c.deref_mut.ensures.value) (c.blacken_run.ensures.pixels i) in
    let written = with_items_is own.words c.blacken_run.new.words (c.blacken_run.ensures.len ∙ c.deref_mut.ensures.len) in
    λ k j. rw (left, top, width, height, written) (span_blackened now c.blacken_run.new.words c.row_number-begin.result c.columns_before-from.result
    c.columns_up_to.result c.max-past.result k j c.args.line c.args.first c.args.last row.from_top begin c.max-past.ensures within from up_to set)
