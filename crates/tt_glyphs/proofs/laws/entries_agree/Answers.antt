use Rattle.tt_glyphs.proofs.ListLaws.{order_changes_nothing, repeats_are_equal}
use Rattle.tt_glyphs.proofs.laws.entries_agree.Goals as goal

pub returns-clause-repeats : goal.returns-clause-repeats
returns-clause-repeats c = repeats_are_equal

pub returns-clause-order : goal.returns-clause-order
returns-clause-order c = order_changes_nothing c.work_unfits.ensures.stays
