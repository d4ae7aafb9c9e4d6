use Rattle.std.proofs.Common.{◌∙◌, ap, sym}
use Rattle.tt_glyphs.specs.declared.ruled.TriedGlyph.{TriedGlyph}
use Rattle.tt_glyphs.proofs.DrawnGlyphs.{refused_drawn}
use Rattle.tt_glyphs.proofs.drawing.draw_one.Goals as goal

pub returns-in-Refused-clause-drawn : goal.returns-in-Refused-clause-drawn
returns-in-Refused-clause-drawn c = λ s source is.
    let refused = sym c.in-Refused.is ∙ ap (λ (t : TriedGlyph). t.body) is in
    rw c.rowless.ensures (refused_drawn c.args.source.now.fit s c.args.tried.number c.in-Refused.fault refused)
