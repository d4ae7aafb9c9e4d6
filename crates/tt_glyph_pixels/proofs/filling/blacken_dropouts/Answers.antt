use Rattle.std.proofs.Common.{◌∙◌, ◌&&◌, ◌||◌, ap, ap₂}
use Rattle.tt_bitmap.specs.Bitmaps.{is_black}
use Rattle.tt_scan.specs.Contours.{contours_at}
use Rattle.tt_scan_dropouts.specs.Dropouts.{is_dropout}
use Rattle.tt_scan_dropouts.specs.Windows as windows
use Rattle.tt_glyph_pixels.proofs.Lines.{no_more, twice}
use Rattle.tt_glyph_pixels.proofs.filling.blacken_dropouts.Goals as goal

pub returns-in_default-clause-black : goal.returns-in_default-clause-black
returns-in_default-clause-black c = λ k j.
    rw (c.in_default.ensures.none k j) (no_more (is_black c.args.bitmap.now k j) (windows.has c.args.window k j))

pub returns-clause-black : goal.returns-clause-black
returns-clause-black c = λ k j.
    let g = c.args.glyph in
    let black = rw c.deref.ensures.value at c.blacken_all.ensures.black in
    let inside = windows.has c.args.window k j in
    let drop = is_dropout g.rules (contours_at g.tape.now.edges g.ends.now) k j in
    black k j
    ∙ ap₂ (λ a b. is_black c.args.bitmap.now k j || (a && b)) (c.requires.has k j) (c.in_ok-found.ensures.exact k j)
    ∙ ap (λ b. is_black c.args.bitmap.now k j || b) (twice inside drop)
