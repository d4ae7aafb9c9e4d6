use Rattle.std.proofs.Common.{◌≡◌, ◌∙◌, ℕ, ◌+◌, ◌*◌, ◌/◌, ◌%◌, ◌^◌, ◌<◌, ◌≤◌, ◌&&◌, ◌||◌, ◌==◌, length, pos, ◌-ℤ◌, true, unsigned_abs, SFits, w64, ap, sym, rules, arith}
use Rattle.std.proofs.lemmas.Bool.{false≢true}
use Rattle.std.proofs.lemmas.Int.{ints, to_z-of_z}
use Rattle.std.proofs.lemmas.List.{with_items_is}
use Rattle.tt_bitmap.specs.Bitmaps as bitmaps
use Rattle.tt_bitmap.specs.Bitmaps.{is_line, pixel, strips}
use Rattle.tt_bitmap.specs.Words.{in_word}
use Rattle.tt_bitmap.proofs.OneWord.{word_blackened}
use Rattle.tt_bitmap.proofs.Places.{on_line}
use Rattle.tt_bitmap.proofs.bitmap.BoxBitmap.blacken_word.Goals as goal

pub returns-then-not-is_line-clause-black : goal.returns-then-not-is_line-clause-black
returns-then-not-is_line-clause-black c = λ no. absurd (false≢true no)

pub returns-in_default-clause-black : goal.returns-in_default-clause-black
returns-in_default-clause-black c = λ no. absurd (false≢true no)

pub row_word-begin-requires-clause-has : goal.row_word-begin-requires-clause-has
row_word-begin-requires-clause-has c =
    let own = c.self.inside in
    let line : SFits w64 c.args.line = c.ranges.line in
    let its_top : SFits w64 own.top = search rules in
    simp to_z-of_z (simp to_z-of_z at (sym c.is_line.ensures ∙ c.if-not-is_line.false))

pub or_word-requires : goal.or_word-requires
or_word-requires c =
    let own = c.self.inside in
    let column : c.in-Some.at / 56 < strips own.width = omega (arith, c.in-Some.ensures.has) in
    let row = c.row_word-begin.ensures.within in
    let all : length own.words.items ≡ strips own.width * own.height = c.self.invariant.1 in
    rw c.deref_mut.ensures.value (omega (arith, column, row, all))

pub returns-clause-black : goal.returns-clause-black
returns-clause-black c = λ _.
    let now = c.args.self.now in
    let own = c.self.inside in
    let line : SFits w64 c.args.line = c.ranges.line in
    let low : SFits w64 c.args.low = c.ranges.low in
    let its_top : SFits w64 own.top = search rules in
    let its_left : SFits w64 own.left = search rules in
    let left : own.left ≡ now.left = ap (λ (b : bitmaps.BoxBitmap). b.left) c.self.view_is in
    let top : own.top ≡ now.top = ap (λ (b : bitmaps.BoxBitmap). b.top) c.self.view_is in
    let width : own.width ≡ now.width = ap (λ (b : bitmaps.BoxBitmap). b.width) c.self.view_is in
    let height : own.height ≡ now.height = ap (λ (b : bitmaps.BoxBitmap). b.height) c.self.view_is in
    let words : own.words.items ≡ now.words = ap (λ (b : bitmaps.BoxBitmap). b.words) c.self.view_is in
    let begins : SFits w64 (c.args.low -ℤ own.left) = omega (arith, ints, c.requires.low, c.self.invariant.0.near_left) in
    let on : is_line now.top now.height c.args.line ≡ true = rw (top, height) at (simp to_z-of_z at (sym c.is_line.ensures ∙ c.if-not-is_line.false)) in
    let row = on_line now.top now.height c.args.line on in
    let at : ℕ = c.in-Some.at in
    let is : pos at ≡ c.args.low -ℤ now.left = rw left at (simp to_z-of_z at c.in-Some.ensures.at) in
    let has : at < now.width = rw width at c.in-Some.ensures.has in
    let within : at + c.args.columns ≤ now.width = rw width at c.in-Some.ensures.within in
    let begin : c.row_word-begin.result ≡ strips now.width * unsigned_abs (now.top -ℤ c.args.line) =
    rw (width, top) at (simp to_z-of_z at c.row_word-begin.ensures.exact) in
    let set : (i : ℕ) → pixel c.or_word.new.words i
    ≡ (pixel now.words i || ((i / 56 == c.row_word-begin.result + at / 56) && in_word (c.args.word / 2 ^ (at % 56)) (i % 56))) =
    λ i. rw (← words, ← c.deref_mut.ensures.value) (c.or_word.ensures.pixels i) in
    let written = with_items_is own.words c.or_word.new.words (c.or_word.ensures.len ∙ c.deref_mut.ensures.len) in
    λ k j. rw (left, top, width, height, written) (word_blackened now c.or_word.new.words k j c.args.line c.args.low c.row_word-begin.result
    at c.args.columns c.args.word c.ranges.word.fits c.requires.columns c.requires.free on row.from_top is has within c.in-Some.ensures.one begin set)
