use Rattle.tt_strike.proofs.Cleared.{of_none}
use Rattle.tt_strike.proofs.place_table.PlaceTable.new.Goals as goal

pub invariant_of-result : goal.invariant_of-result
invariant_of-result c = rw c.new.ensures.items of_none
