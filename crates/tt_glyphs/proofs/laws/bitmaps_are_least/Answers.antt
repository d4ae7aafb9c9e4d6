use Rattle.tt_glyphs.proofs.LeastBitmaps.{BoxLaws, bitmaps_are_least}
use Rattle.tt_glyphs.proofs.laws.bitmaps_are_least.Goals as goal

pub returns : goal.returns
returns c =
    let laws : BoxLaws = record {
      edges = c.holds_all_ink.ensures.edges;
      dropouts = c.holds_all_ink.ensures.dropouts;
      closed = c.contours_closed.ensures;
      joined = c.contours_joined.ensures;
    } in
    bitmaps_are_least laws
