use Rattle.tt_cmap.proofs.WideWhole.{wide-cmap-whole, wide-extends}
use Rattle.tt_cmap.proofs.laws.wide_extends_strict.Goals as goal

pub returns-clause-whole : goal.returns-clause-whole
returns-clause-whole c = wide-cmap-whole

pub returns-clause-extends : goal.returns-clause-extends
returns-clause-extends c = wide-extends
