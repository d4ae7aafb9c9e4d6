use Rattle.std.proofs.Common.{◌≡◌, ◌∙◌, refl, sym, Bool, true, false, not, ◌&&◌, SFits, w64, arith}
use Rattle.std.specs.Prelude.{pos, ◌+ℤ◌}
use Rattle.std.proofs.lemmas.Int.{ints, to_z-of_z}
use Rattle.tt_bitmap.specs.Bitmaps as bitmaps
use Rattle.tt_glyph_pixels.proofs.rising.is_free.Goals as goal

and_true : (b : Bool) → b ≡ (b && true)
and_true true = refl
and_true false = refl

and_false : (b : Bool) → false ≡ (b && false)
and_false true = refl
and_false false = refl

pub returns-then-not-is_black : goal.returns-then-not-is_black
returns-then-not-is_black c =
    let gap : SFits w64 c.args.gap = c.ranges.gap in
    let line : SFits w64 c.args.line = c.ranges.line in
    let next : SFits w64 (c.args.gap +ℤ pos 1) = omega (arith, ints, c.requires) in
    let right : bitmaps.is_black c.args.inked.now (c.args.gap +ℤ pos 1) c.args.line ≡ false =
    sym (simp to_z-of_z at c.is_black.ensures) ∙ c.if-not-is_black.true in
    let left : c.is_black-then-not-is_black.result ≡ bitmaps.is_black c.args.inked.now c.args.gap c.args.line =
    simp to_z-of_z at c.is_black-then-not-is_black.ensures in
    rw (c.in-Rows.is, right, left) (and_true (not (bitmaps.is_black c.args.inked.now c.args.gap c.args.line)))

pub returns-else-not-is_black : goal.returns-else-not-is_black
returns-else-not-is_black c =
    let gap : SFits w64 c.args.gap = c.ranges.gap in
    let line : SFits w64 c.args.line = c.ranges.line in
    let next : SFits w64 (c.args.gap +ℤ pos 1) = omega (arith, ints, c.requires) in
    let right : bitmaps.is_black c.args.inked.now (c.args.gap +ℤ pos 1) c.args.line ≡ true =
    sym (simp to_z-of_z at c.is_black.ensures) ∙ c.if-not-is_black.false in
    rw (c.in-Rows.is, c.if-not-is_black.false, right) (and_false (not (bitmaps.is_black c.args.inked.now c.args.gap c.args.line)))

pub returns-then-not-is_black-2 : goal.returns-then-not-is_black-2
returns-then-not-is_black-2 c =
    let gap : SFits w64 c.args.gap = c.ranges.gap in
    let line : SFits w64 c.args.line = c.ranges.line in
    let next : SFits w64 (c.args.gap +ℤ pos 1) = omega (arith, ints, c.requires) in
    let below : bitmaps.is_black c.args.inked.now c.args.line c.args.gap ≡ false =
    sym (simp to_z-of_z at c.is_black-in-Columns.ensures) ∙ c.if-not-is_black-2.true in
    let above : c.is_black-then-not-is_black-2.result ≡ bitmaps.is_black c.args.inked.now c.args.line (c.args.gap +ℤ pos 1) =
    simp to_z-of_z at c.is_black-then-not-is_black-2.ensures in
    rw (c.in-Columns.is, below, above) refl
