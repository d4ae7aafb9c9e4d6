use Rattle.tt_rows.proofs.Letters.{composed_again, no_longer, uncomposed_stay}
use Rattle.tt_rows.proofs.Seconds.{never_second}
use Rattle.tt_rows.proofs.laws.composing_settles.Goals as goal

pub returns-clause-unchanged : goal.returns-clause-unchanged
returns-clause-unchanged c = uncomposed_stay

pub returns-clause-again : goal.returns-clause-again
returns-clause-again c = composed_again

pub returns-clause-shorter : goal.returns-clause-shorter
returns-clause-shorter c = no_longer

pub returns-clause-second : goal.returns-clause-second
returns-clause-second c = never_second
