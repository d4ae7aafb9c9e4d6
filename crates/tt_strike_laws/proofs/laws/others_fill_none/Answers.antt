use Rattle.tt_strike_laws.proofs.Beside.{unfilled_are_edges}
use Rattle.tt_strike_laws.proofs.Unfilled.{FillLaws, others_fill_none, others_draw_by_edges}
use Rattle.tt_strike_laws.proofs.laws.others_fill_none.Goals as goal

pub returns-clause-pixels : goal.returns-clause-pixels
returns-clause-pixels c = unfilled_are_edges

pub returns-clause-glyphs : goal.returns-clause-glyphs
returns-clause-glyphs c =
    let laws : FillLaws = record { none = c.others_fill_none.ensures.none; stay = c.others_fill_none.ensures.stay } in
    others_fill_none laws

pub returns-clause-picture : goal.returns-clause-picture
returns-clause-picture c =
    let laws : FillLaws = record { none = c.others_fill_none.ensures.none; stay = c.others_fill_none.ensures.stay } in
    others_draw_by_edges laws
