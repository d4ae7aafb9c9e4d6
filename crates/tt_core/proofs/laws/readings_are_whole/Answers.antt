use Rattle.tt_core.proofs.Offsets.{readings-whole, strict-is}
use Rattle.tt_core.proofs.laws.readings_are_whole.Goals as goal

pub returns-clause-whole : goal.returns-clause-whole
returns-clause-whole c = readings-whole

pub returns-clause-strict : goal.returns-clause-strict
returns-clause-strict c = strict-is
