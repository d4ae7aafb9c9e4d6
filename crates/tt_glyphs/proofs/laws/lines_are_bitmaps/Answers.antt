use Rattle.tt_glyphs.proofs.LeastBitmaps.{BoxLaws}
use Rattle.tt_glyphs.proofs.LineBitmaps.{lines_are_bitmaps}
use Rattle.tt_glyphs.proofs.MadeLines.{lines_are_made}
use Rattle.tt_glyphs.proofs.laws.lines_are_bitmaps.Goals as goal

pub returns-clause-made : goal.returns-clause-made
returns-clause-made c = lines_are_made

pub returns-clause-pixels : goal.returns-clause-pixels
returns-clause-pixels c =
    let laws : BoxLaws = record {
      edges = c.holds_all_ink.ensures.edges;
      dropouts = c.holds_all_ink.ensures.dropouts;
      closed = c.contours_closed.ensures;
      joined = c.contours_joined.ensures;
    } in
    lines_are_bitmaps laws
