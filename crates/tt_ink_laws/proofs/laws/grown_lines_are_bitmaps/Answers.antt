use Rattle.tt_ink_laws.proofs.GrownBitmaps.{grown_lines_are_bitmaps, grown_lines_are_made, grown_lines_hold_bitmaps}
use Rattle.tt_glyphs.proofs.LeastBitmaps.{BoxLaws}
use Rattle.tt_ink_laws.proofs.laws.grown_lines_are_bitmaps.Goals as goal

pub returns-clause-pixels : goal.returns-clause-pixels
returns-clause-pixels c =
    let laws : BoxLaws = record {
      edges = c.holds_all_ink.ensures.edges;
      dropouts = c.holds_all_ink.ensures.dropouts;
      closed = c.contours_closed.ensures;
      joined = c.contours_joined.ensures;
    } in
    grown_lines_are_bitmaps laws

pub returns-clause-within : goal.returns-clause-within
returns-clause-within c =
    let laws : BoxLaws = record {
      edges = c.holds_all_ink.ensures.edges;
      dropouts = c.holds_all_ink.ensures.dropouts;
      closed = c.contours_closed.ensures;
      joined = c.contours_joined.ensures;
    } in
    grown_lines_hold_bitmaps laws c.grown_cuts_none.ensures.cut

pub returns-clause-made : goal.returns-clause-made
returns-clause-made c =
    let laws : BoxLaws = record {
      edges = c.holds_all_ink.ensures.edges;
      dropouts = c.holds_all_ink.ensures.dropouts;
      closed = c.contours_closed.ensures;
      joined = c.contours_joined.ensures;
    } in
    grown_lines_are_made laws c.grown_cuts_none.ensures.cut
