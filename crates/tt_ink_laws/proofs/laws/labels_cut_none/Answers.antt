use Rattle.tt_ink_laws.proofs.LabelInk.{label_ink_is_drawn, labels_add_fewest, labels_cut_none}
use Rattle.tt_ink_laws.proofs.laws.labels_cut_none.Goals as goal
use Rattle.tt_strike_laws.proofs.InkHeld.{BoxLaws}

pub returns-clause-cut : goal.returns-clause-cut
returns-clause-cut c =
    let laws : BoxLaws = record {
      edges = c.holds_all_ink.ensures.edges;
      dropouts = c.holds_all_ink.ensures.dropouts;
      closed = c.contours_closed.ensures;
      joined = c.contours_joined.ensures;
    } in
    labels_cut_none laws

pub returns-clause-fewest : goal.returns-clause-fewest
returns-clause-fewest c =
    let laws : BoxLaws = record {
      edges = c.holds_all_ink.ensures.edges;
      dropouts = c.holds_all_ink.ensures.dropouts;
      closed = c.contours_closed.ensures;
      joined = c.contours_joined.ensures;
    } in
    labels_add_fewest laws

pub returns-clause-drawn : goal.returns-clause-drawn
returns-clause-drawn c = label_ink_is_drawn
