use Rattle.tt_fit.proofs.GlyphCosts.{glyphs-have-costs}
use Rattle.tt_fit.proofs.MadeFor.{glyphs-are-made-for}
use Rattle.tt_fit.proofs.WorkApart.{costs-stay, paid-is-made}
use Rattle.tt_fit.proofs.laws.glyphs_have_costs.Goals as goal

pub returns-clause-cost : goal.returns-clause-cost
returns-clause-cost c = glyphs-have-costs

pub returns-clause-made : goal.returns-clause-made
returns-clause-made c = glyphs-are-made-for

pub returns-clause-stay : goal.returns-clause-stay
returns-clause-stay c = costs-stay

pub returns-clause-paid : goal.returns-clause-paid
returns-clause-paid c = paid-is-made
