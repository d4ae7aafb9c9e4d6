use Rattle.tt_code.proofs.Least.{is_skip}
use Rattle.tt_code.proofs.skips.skip_def.Goals as goal

pub returns-clause-least : goal.returns-clause-least
returns-clause-least c = is_skip _ _ _ _ c.skip.result c.requires c.skip.ensures.exact
