use Rattle.tt_strike.proofs.sized.SizedFace.give_back.Goals as goal

pub give_back-requires : goal.give_back-requires
give_back-requires c = rw c.deref.ensures.value c.args.glyphs.seated
