use Rattle.tt_arc.proofs.Turns.{both_sides}
use Rattle.tt_arc.proofs.laws.sides_agree.Goals as goal

pub returns : goal.returns
returns c = both_sides
