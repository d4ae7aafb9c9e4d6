use Rattle.std.proofs.Common.{◌≡◌, refl, sym, ◌∙◌, ap, SFits, w64, false, true, not, ◌&&◌, Bool}
use Rattle.std.specs.Prelude.{ℤ}
use Rattle.std.proofs.lemmas.Int.{to_z-of_z}
use Rattle.tt_core.specs.Bits.{bit}
use Rattle.tt_scan_dropouts.specs.Windows as windows
use Rattle.tt_scan_dropouts.specs.Windows.{has, is_black_in, place}
use Rattle.tt_scan_dropouts.proofs.bitmap.Bitmap.are_white.Goals as goal

black_inside : (b : windows.Bitmap) (c j : ℤ) → has b.window c j ≡ true → is_black_in b c j ≡ bit b.bits (place b.window c j)
black_inside b c j inside = rw inside refl

black_outside : (b : windows.Bitmap) (c j : ℤ) → has b.window c j ≡ false → is_black_in b c j ≡ true
black_outside b c j outside = rw outside refl

not_both : (b : Bool) → (not b && false) ≡ false
not_both true = refl
not_both false = refl

pub returns-then-not-has-2 : goal.returns-then-not-has-2
returns-then-not-has-2 c =
    let now = c.args.self.now in
    let column : SFits w64 c.args.other_column = c.ranges.other_column in
    let row : SFits w64 c.args.other_row = c.ranges.other_row in
    let window : c.self.inside.window ≡ now.window = ap (λ (b : windows.Bitmap). b.window) c.self.view_is in
    let is = simp to_z-of_z at c.has-2.ensures in
    let out : has now.window c.args.other_column c.args.other_row ≡ false = rw (← window) (sym is ∙ c.if-not-has-2.true) in
    rw (black_outside now c.args.other_column c.args.other_row out) (sym (not_both (is_black_in now c.args.column c.args.row)))

pub returns-then-bit : goal.returns-then-bit
returns-then-bit c =
    let now = c.args.self.now in
    let column : SFits w64 c.args.column = c.ranges.column in
    let row : SFits w64 c.args.row = c.ranges.row in
    let window : c.self.inside.window ≡ now.window = ap (λ (b : windows.Bitmap). b.window) c.self.view_is in
    let is = simp to_z-of_z at c.has.ensures in
    let inside : has now.window c.args.column c.args.row ≡ true = rw (← window) (sym is ∙ c.if-not-has.false) in
    let stands = simp to_z-of_z at c.place.ensures.exact in
    let at : c.place.result ≡ place now.window c.args.column c.args.row = rw window at stands in
    let black : is_black_in now c.args.column c.args.row ≡ true =
    black_inside now c.args.column c.args.row inside ∙ ap (bit now.bits) (sym at) ∙ sym c.bit.ensures ∙ c.if-bit.true in
    rw black refl

pub returns : goal.returns
returns c =
    let now = c.args.self.now in
    let column : SFits w64 c.args.column = c.ranges.column in
    let row : SFits w64 c.args.row = c.ranges.row in
    let other_column : SFits w64 c.args.other_column = c.ranges.other_column in
    let other_row : SFits w64 c.args.other_row = c.ranges.other_row in
    let window : c.self.inside.window ≡ now.window = ap (λ (b : windows.Bitmap). b.window) c.self.view_is in
    let is = simp to_z-of_z at c.has.ensures in
    let inside : has now.window c.args.column c.args.row ≡ true = rw (← window) (sym is ∙ c.if-not-has.false) in
    let stands = simp to_z-of_z at c.place.ensures.exact in
    let at : c.place.result ≡ place now.window c.args.column c.args.row = rw window at stands in
    let white : is_black_in now c.args.column c.args.row ≡ false =
    black_inside now c.args.column c.args.row inside ∙ ap (bit now.bits) (sym at) ∙ sym c.bit.ensures ∙ c.if-bit.false in
    let is_2 = simp to_z-of_z at c.has-2.ensures in
    let inside_2 : has now.window c.args.other_column c.args.other_row ≡ true = rw (← window) (sym is_2 ∙ c.if-not-has-2.false) in
    let stands_2 = simp to_z-of_z at c.place-2.ensures.exact in
    let at_2 : c.place-2.result ≡ place now.window c.args.other_column c.args.other_row = rw window at stands_2 in
    let other : c.bit-2.result ≡ is_black_in now c.args.other_column c.args.other_row =
    c.bit-2.ensures ∙ ap (bit now.bits) at_2 ∙ sym (black_inside now c.args.other_column c.args.other_row inside_2) in
    rw (white, other) refl
