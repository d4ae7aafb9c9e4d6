use Rattle.tt_glyf.proofs.Locations.{locations-whole}
use Rattle.tt_glyf.proofs.laws.locations_are_whole.Goals as goal

pub returns : goal.returns
returns c = locations-whole
