use Rattle.tt_strike_laws.proofs.LayoutLaws.{layouts_add_up, no_glyph_is_read}
use Rattle.tt_strike_laws.proofs.laws.layouts_add_up.Goals as goal

pub returns-clause-sums : goal.returns-clause-sums
returns-clause-sums c = layouts_add_up

pub returns-clause-unread : goal.returns-clause-unread
returns-clause-unread c = no_glyph_is_read
