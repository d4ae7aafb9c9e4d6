use Rattle.tt_strike_laws.proofs.InkHeld.{BoxLaws, ink_is_drawn, measure_holds_ink}
use Rattle.tt_strike_laws.proofs.laws.measure_holds_ink.Goals as goal

pub returns-clause-ink : goal.returns-clause-ink
returns-clause-ink c =
    let laws : BoxLaws = record {
      edges = c.holds_all_ink.ensures.edges;
      dropouts = c.holds_all_ink.ensures.dropouts;
      closed = c.contours_closed.ensures;
      joined = c.contours_joined.ensures;
    } in
    measure_holds_ink laws

pub returns-clause-drawn : goal.returns-clause-drawn
returns-clause-drawn c = ink_is_drawn
