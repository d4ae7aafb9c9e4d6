use Rattle.std.proofs.Common.{◌≡◌, ◌*◌, length, SFits, w64, ap, rules, arith}
use Rattle.std.proofs.lemmas.Int.{to_z-of_z}
use Rattle.tt_bitmap.specs.Bitmaps as bitmaps
use Rattle.tt_bitmap.specs.Bitmaps.{is_column, is_line, strips}
use Rattle.tt_bitmap.proofs.Bools.{parts}
use Rattle.tt_bitmap.proofs.Places.{inside}
use Rattle.tt_bitmap.proofs.bitmap.BoxBitmap.number.Goals as goal

pub row_number-requires-clause-has : goal.row_number-requires-clause-has
row_number-requires-clause-has c =
    let now = c.args.self.now in
    let own = c.self.inside in
    let line : SFits w64 c.args.line = c.ranges.line in
    let its_top : SFits w64 own.top = search rules in
    let top : own.top ≡ now.top = ap (λ (b : bitmaps.BoxBitmap). b.top) c.self.view_is in
    let height : own.height ≡ now.height = ap (λ (b : bitmaps.BoxBitmap). b.height) c.self.view_is in
    simp to_z-of_z (rw (top, height) ((parts (is_column now.left now.width c.args.column) (is_line now.top now.height c.args.line) c.requires).1))

pub offset-requires-clause-order : goal.offset-requires-clause-order
offset-requires-clause-order c =
    let now = c.args.self.now in
    let own = c.self.inside in
    let column : SFits w64 c.args.column = c.ranges.column in
    let its_left : SFits w64 own.left = search rules in
    let left : own.left ≡ now.left = ap (λ (b : bitmaps.BoxBitmap). b.left) c.self.view_is in
    let place = inside now.left now.top now.width now.height c.args.column c.args.line c.requires in
    simp to_z-of_z (rw left place.from_left)

pub offset-requires-clause-near : goal.offset-requires-clause-near
offset-requires-clause-near c =
    let now = c.args.self.now in
    let own = c.self.inside in
    let column : SFits w64 c.args.column = c.ranges.column in
    let its_left : SFits w64 own.left = search rules in
    let left : own.left ≡ now.left = ap (λ (b : bitmaps.BoxBitmap). b.left) c.self.view_is in
    let width : own.width ≡ now.width = ap (λ (b : bitmaps.BoxBitmap). b.width) c.self.view_is in
    let place = inside now.left now.top now.width now.height c.args.column c.args.line c.requires in
    let across = place.across in
    let narrow = rw width at c.self.invariant.0.narrow in
    simp to_z-of_z (rw left (omega (arith, across, narrow)))

pub returns-clause-exact : goal.returns-clause-exact
returns-clause-exact c =
    let now = c.args.self.now in
    let own = c.self.inside in
    let line : SFits w64 c.args.line = c.ranges.line in
    let column : SFits w64 c.args.column = c.ranges.column in
    let its_left : SFits w64 own.left = search rules in
    let its_top : SFits w64 own.top = search rules in
    let left : own.left ≡ now.left = ap (λ (b : bitmaps.BoxBitmap). b.left) c.self.view_is in
    let top : own.top ≡ now.top = ap (λ (b : bitmaps.BoxBitmap). b.top) c.self.view_is in
    let width : own.width ≡ now.width = ap (λ (b : bitmaps.BoxBitmap). b.width) c.self.view_is in
    let row = rw (width, top) at (simp to_z-of_z at c.row_number.ensures.exact) in
    let across = rw left at (simp to_z-of_z at c.offset.ensures) in
    omega (arith, row, across)

pub returns-clause-within : goal.returns-clause-within
returns-clause-within c =
    let now = c.args.self.now in
    let own = c.self.inside in
    let column : SFits w64 c.args.column = c.ranges.column in
    let its_left : SFits w64 own.left = search rules in
    let left : own.left ≡ now.left = ap (λ (b : bitmaps.BoxBitmap). b.left) c.self.view_is in
    let width : own.width ≡ now.width = ap (λ (b : bitmaps.BoxBitmap). b.width) c.self.view_is in
    let height : own.height ≡ now.height = ap (λ (b : bitmaps.BoxBitmap). b.height) c.self.view_is in
    let words : own.words.items ≡ now.words = ap (λ (b : bitmaps.BoxBitmap). b.words) c.self.view_is in
    let place = inside now.left now.top now.width now.height c.args.column c.args.line c.requires in
    let inner = place.across in
    let row = rw (width, height) at c.row_number.ensures.within in
    let across = rw left at (simp to_z-of_z at c.offset.ensures) in
    let all : length now.words ≡ strips now.width * now.height = rw (words, width, height) at c.self.invariant.1 in
    omega (arith, row, across, inner, all)

pub returns-clause-small : goal.returns-clause-small
returns-clause-small c =
    let now = c.args.self.now in
    let own = c.self.inside in
    let column : SFits w64 c.args.column = c.ranges.column in
    let its_left : SFits w64 own.left = search rules in
    let left : own.left ≡ now.left = ap (λ (b : bitmaps.BoxBitmap). b.left) c.self.view_is in
    let width : own.width ≡ now.width = ap (λ (b : bitmaps.BoxBitmap). b.width) c.self.view_is in
    let place = inside now.left now.top now.width now.height c.args.column c.args.line c.requires in
    let inner = place.across in
    let row = c.row_number.ensures.small in
    let across = rw left at (simp to_z-of_z at c.offset.ensures) in
    let narrow = rw width at c.self.invariant.0.narrow in
    omega (arith, row, across, inner, narrow)
