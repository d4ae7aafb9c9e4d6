use Rattle.tt_strike_laws.proofs.GrownNeeded.{grown_adds_fewest}
use Rattle.tt_strike_laws.proofs.GrownWhole.{grown_cuts_none}
use Rattle.tt_strike_laws.proofs.InkHeld.{BoxLaws}
use Rattle.tt_strike_laws.proofs.laws.grown_cuts_none.Goals as goal

pub returns-clause-cut : goal.returns-clause-cut
returns-clause-cut c =
    let laws : BoxLaws = record {
      edges = c.holds_all_ink.ensures.edges;
      dropouts = c.holds_all_ink.ensures.dropouts;
      closed = c.contours_closed.ensures;
      joined = c.contours_joined.ensures;
    } in
    grown_cuts_none laws

pub returns-clause-fewest : goal.returns-clause-fewest
returns-clause-fewest c =
    let laws : BoxLaws = record {
      edges = c.holds_all_ink.ensures.edges;
      dropouts = c.holds_all_ink.ensures.dropouts;
      closed = c.contours_closed.ensures;
      joined = c.contours_joined.ensures;
    } in
    grown_adds_fewest laws
