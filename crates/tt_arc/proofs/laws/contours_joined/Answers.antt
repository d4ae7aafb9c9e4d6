use Rattle.tt_arc.proofs.EndsOfContours.{joined}
use Rattle.tt_arc.proofs.laws.contours_joined.Goals as goal

pub returns : goal.returns
returns c = joined
