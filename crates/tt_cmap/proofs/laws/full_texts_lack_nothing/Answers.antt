use Rattle.tt_cmap.proofs.WithoutGlyphs.{full_texts}
use Rattle.tt_cmap.proofs.laws.full_texts_lack_nothing.Goals as goal

pub returns : goal.returns
returns c = full_texts
