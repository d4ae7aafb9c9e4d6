use Rattle.std.proofs.Common.{◌∙◌, ℤ, Bool}
use Rattle.std.proofs.lemmas.Result.{IfOk-weaker}
use Rattle.tt_glyph_pixels.specs.Shown.{is_filled}
use Rattle.tt_scan.specs.Contours.{contours_at}
use Rattle.tt_scan_dropouts.proofs.Pictured.{seen_at}
use Rattle.tt_glyphs.specs.Drawn.{column_of, line_of}
use Rattle.tt_glyphs.proofs.SeenPixels.{in_place}
use Rattle.tt_glyphs.proofs.large.dropouts_of.Goals as goal

pub dropouts_among-requires-clause-pixels : goal.dropouts_among-requires-clause-pixels
dropouts_among-requires-clause-pixels c =
    let e = c.args.edged.now in
    let is : ℤ → ℤ → Bool = is_filled e.filled (contours_at e.tape.edges e.ends.items) in
    rw c.deref.ensures.value (in_place c.args.place c.in_ok-pixels.pixels.items c.window_of.result is c.window_of.ensures.exact
    c.in_ok-pixels.ensures)

pub returns-clause-exact : goal.returns-clause-exact
returns-clause-exact c =
    let e = c.args.edged.now in
    let p = c.args.place in
    let is : ℤ → ℤ → Bool = is_filled e.filled (contours_at e.tape.edges e.ends.items) in
    let told = rw c.deref.ensures.value at c.dropouts_among.ensures.exact in
    IfOk-weaker c.dropouts_among.result _ _ (λ v all k r column row. all k r
    ∙ seen_at c.window_of.result c.in_ok-pixels.pixels.items is (column_of p k) (line_of p r) (c.window_of.ensures.has k r column row)
    c.in_ok-pixels.ensures) told
