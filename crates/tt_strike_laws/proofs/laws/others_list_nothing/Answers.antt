use Rattle.tt_strike_laws.proofs.Listing.{FitLaws, others_list_nothing}
use Rattle.tt_strike_laws.proofs.laws.others_list_nothing.Goals as goal

pub returns : goal.returns
returns c =
    let laws : FitLaws = record {
      never = c.glyphs_fall_back.ensures.never;
      others = c.work_unfits.ensures.others;
      stays = c.work_unfits.ensures.stays;
    } in
    others_list_nothing laws
