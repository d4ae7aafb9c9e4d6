use Rattle.std.proofs.Common.{sym, ◌∙◌}
use Rattle.tt_scan_dropouts.proofs.filling.push_band.Goals as goal

pub push_found-requires-clause-rows : goal.push_found-requires-clause-rows
push_found-requires-clause-rows c = λ none. sym (rw c.lend.ensures.exact at c.some_in_free_gap-some.ensures.rows) ∙ none

pub push_found-requires-clause-columns : goal.push_found-requires-clause-columns
push_found-requires-clause-columns c = λ none. sym (rw c.lend.ensures.exact at c.some_in_free_gap-some.ensures.columns) ∙ none

pub push_found-requires-clause-ink : goal.push_found-requires-clause-ink
push_found-requires-clause-ink c = λ k j inside. c.in_ok-ink.ensures.black k j (rw c.widened.ensures inside)
