use Rattle.tt_picture.proofs.Cached.{cached_stays}
use Rattle.tt_picture.proofs.laws.cached_glyphs_stay.Goals as goal

pub returns : goal.returns
returns c = cached_stays
