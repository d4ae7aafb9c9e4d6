use Rattle.std.proofs.Common.{◌∙◌, ap, refl}
use Rattle.std.proofs.lemmas.Result.{IfOk-weaker}
use Rattle.tt_glyphs.specs.Bitmaps.{place_of}
use Rattle.tt_glyphs.specs.Edged.{IsSameGlyph}
use Rattle.tt_glyphs.specs.declared.edged.EdgedOutline.{EdgedOutline}
use Rattle.tt_glyphs.proofs.DrawnGlyphs.{ink_is, same_edged, same_fits}
use Rattle.tt_glyphs.proofs.drawing.drawn.Goals.{In_ok-pixels}
use Rattle.tt_glyphs.proofs.drawing.drawn.Goals as goal

-- the edges after the bitmap is cut
abbrev cut : In_ok-pixels → EdgedOutline
cut c = record c.args.edged { tape = c.pixels_of.new.tape }

same : (c : In_ok-pixels) → IsSameGlyph c.args.edged (cut c)
same c = record { same = refl; edges = c.in_ok-pixels.ensures.edges }

pub pixels_of-requires-clause-boxed : goal.pixels_of-requires-clause-boxed
pixels_of-requires-clause-boxed c = (c.requires.edged.held, c.requires.edged.same)

pub pixels_of-requires-clause-ends : goal.pixels_of-requires-clause-ends
pixels_of-requires-clause-ends c = rw c.deref.ensures.value c.requires.edged.ends

pub pixels_of-requires-clause-round : goal.pixels_of-requires-clause-round
pixels_of-requires-clause-round c = rw c.deref.ensures.value c.requires.edged.round

pub ink_of-requires-clause-edged : goal.ink_of-requires-clause-edged
ink_of-requires-clause-edged c =
    let all = (goal.at.ink_of-requires-clause-edged c).In_ok-pixels in
    same_fits c.args.edged (cut all) (same all) c.requires.edged

pub ink_of-requires-clause-shown : goal.ink_of-requires-clause-shown
ink_of-requires-clause-shown c = rw c.in_ok-pixels.ensures.edges (rw c.deref.ensures.value at c.in_ok-pixels.ensures.exact)

pub placed-requires-clause-edged : goal.placed-requires-clause-edged
placed-requires-clause-edged c =
    let all = (goal.at.placed-requires-clause-edged c).In_ok-pixels in
    same_fits c.args.edged (cut all) (same all) c.requires.edged

pub placed-requires-clause-shown : goal.placed-requires-clause-shown
placed-requires-clause-shown c = rw c.in_ok-pixels.ensures.edges (rw c.deref.ensures.value at c.in_ok-pixels.ensures.exact)

pub returns-clause-drawn : goal.returns-clause-drawn
returns-clause-drawn c =
    let all = (goal.at.returns-clause-drawn c).In_ok-pixels in
    IfOk-weaker c.placed.result _ _ (λ d drawn s source by.
    let here = same_edged s c.args.number c.args.edged (cut all) (same all) by in
    let ink = ink_is s c.args.number (cut all) c.in_ok-ink.ink here c.in_ok-ink.ensures.exact in
    drawn s source (c.place_of.ensures.exact ∙ ap place_of ink) here) c.placed.ensures.drawn
